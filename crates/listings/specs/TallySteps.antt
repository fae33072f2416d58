-- How keys are tallied pair by pair. Private contracts alone cite it.
use Rattle.std.specs.Prelude.{◌≡◌, ℕ, ◌+◌, ◌<◌, ◌^◌, Bool, true, ⊤, List, if◌then◌else◌}
use Rattle.std.specs.BTreeMap.{is_at}
use Rattle.std.specs.List.{list_any}
use Rattle.std.specs.Map.{lookup}
use Rattle.std.specs.declared.cmp.Ordering.{Ordering}
use Rattle.std.specs.declared.option.Option.{Option}
use Rattle.std.specs.declared.option.Option.TheVariants.{Some, None}
use Rattle.listings.specs.declared.tally.Tally.{Tally}

-- the tally of a key, if it has one
abbrev pub tally_at : {K : Type 0} → (K → K → Ordering) → List (K × Tally) → K → Option Tally
tally_at cmp rows key = lookup (is_at (cmp key)) rows

-- the key is one of these
abbrev pub IsAmong : {K : Type 0} → (K → K → Ordering) → List K → K → Type 0
IsAmong cmp keys key = list_any (is_at (cmp key)) keys ≡ true

-- so many routes more, over one more path
abbrev pub more : ℕ → Option Tally → Tally
more routes None = record { routes = routes; paths = 1 }
more routes (Some tally) = record { routes = tally.routes + routes; paths = tally.paths + 1 }

-- the numbers fit their type then,
abbrev pub HasRoom : ℕ → Option Tally → Type 0
HasRoom routes None = ⊤
HasRoom routes (Some tally) = (tally.routes + routes < 2 ^ 64) × (tally.paths + 1 < 2 ^ 64)

-- and they do for each key with the property
abbrev pub HasRoomFor : {K : Type 0} → (K → K → Ordering) → (K → Type 0) → ℕ → List (K × Tally) → Type 0
HasRoomFor {K} cmp has routes rows = (key : K) → has key → HasRoom routes (tally_at cmp rows key)

-- the key has so many routes more, and each other one has what it had
abbrev pub Adds : {K : Type 0} → (K → K → Ordering) → K → ℕ → List (K × Tally) → List (K × Tally) → Type 0
Adds {K} cmp key routes old new = (q : K) → tally_at cmp new q
    ≡ (if is_at (cmp key) q then Some (more routes (tally_at cmp old key)) else tally_at cmp old q)

-- each key with the property has so many routes more, and the others have what they had
pub record AddsTo {K : Type 0} (cmp : K → K → Ordering) (has : K → Type 0) (routes : ℕ) (old new : List (K × Tally)) : Type 0 where
  pub here : (key : K) → has key → tally_at cmp new key ≡ Some (more routes (tally_at cmp old key))
  pub others : (key : K) → (has key → ⊥) → tally_at cmp new key ≡ tally_at cmp old key
