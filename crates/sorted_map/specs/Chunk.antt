-- One chunk: its entries beside a key, and the place of the key among rising keys. Private contracts alone cite it.
use Rattle.std.specs.Prelude.{◌≡◌, ℕ, zero, suc, Bool, false, List, [], ◌∷◌}
use Rattle.std.specs.declared.cmp.Ordering.{Ordering}
use Rattle.std.specs.declared.cmp.Ordering.TheVariants.{Less, Equal, Greater}
use Rattle.std.specs.List.{AllByRecursion}
use Rattle.std.specs.Ordering.{is_ge}

-- the first key is this one or below it
abbrev pub begins_by : {K V : Type 0} → (K → K → Ordering) → K → List (K × V) → Bool
begins_by cmp key [] = false
begins_by cmp key (e ∷ es) = is_ge (cmp key e.0)

-- this is the first key
abbrev pub BeginsWith : {K V : Type 0} → K → List (K × V) → Type 0
BeginsWith key [] = ⊥
BeginsWith key (e ∷ es) = e.0 ≡ key

-- the keys of all these are below this one
abbrev pub AreBelow : {K V : Type 0} → (K → K → Ordering) → K → List (K × V) → Type 0
AreBelow cmp key es = AllByRecursion (λ e. cmp key e.0 ≡ Greater) es

-- the keys of all these are above this one
abbrev pub AreAbove : {K V : Type 0} → (K → K → Ordering) → K → List (K × V) → Type 0
AreAbove cmp key es = AllByRecursion (λ e. cmp key e.0 ≡ Less) es

-- the key is the one at this place, and above those before it
abbrev pub HasAt : {K : Type 0} → (K → K → Ordering) → K → List K → ℕ → Type 0
HasAt cmp key [] place = ⊥
HasAt cmp key (x ∷ xs) zero = cmp key x ≡ Equal
HasAt cmp key (x ∷ xs) (suc place) = (cmp key x ≡ Greater) × HasAt cmp key xs place

-- the key isn't there: it is above those before this place, and below the others
abbrev pub IsGap : {K : Type 0} → (K → K → Ordering) → K → List K → ℕ → Type 0
IsGap cmp key xs zero = AllByRecursion (λ x. cmp key x ≡ Less) xs
IsGap cmp key [] (suc place) = ⊥
IsGap cmp key (x ∷ xs) (suc place) = (cmp key x ≡ Greater) × IsGap cmp key xs place
