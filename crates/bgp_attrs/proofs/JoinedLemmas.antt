-- Reading items one after another finds exactly the items whose spellings are joined.
use Rattle.std.proofs.Common.{◌≡◌, ℕ, zero, suc, ◌<◌, ◌≤◌, List, [], ◌∷◌, length, Some, None, refl, sym, ap, subst, ◌∙◌, arith}
use Rattle.std.specs.Prelude.{option_map, option_and_then, unwrap_or, is_some, true}
use Rattle.std.specs.declared.option.Option.{Option}
use Rattle.std.proofs.lemmas.List.{length-append}
use Rattle.bgp_attrs.specs.Joined.{IsJoined, items_within, items_of, IsReader}
use Rattle.bgp_attrs.proofs.FixedLemmas.{and_then_some}

-- what is read leaves less
abbrev pub Shortens : {A : Type 0} → (List ℕ → Option (A × List ℕ)) → Type 0
Shortens {A} first = (bytes : List ℕ) (item : A) (rest : List ℕ) → first bytes ≡ Some (item, rest) → length rest < length bytes

pub shortens : {A : Type 0} {S : List ℕ → A → Type 0} {first : List ℕ → Option (A × List ℕ)} → IsReader S first → Shortens first
shortens r bytes item rest e =
    let b = r.finds bytes item rest e in
    let some = r.some b.front item b.spelled in
    omega (arith, ap length b.whole, length-append b.front rest)

step : {A : Type 0} (n m : ℕ) (first : List ℕ → Option (A × List ℕ)) (r : Option (A × List ℕ)) → ((x : A × List ℕ) → r ≡ Some x → items_within first n x.1 ≡ items_within first m x.1)
    → option_and_then (λ (x : A × List ℕ). option_map (λ (items : List A). x.0 ∷ items) (items_within first n x.1)) r ≡ option_and_then (λ (x : A × List ℕ). option_map (λ (items : List A). x.0 ∷ items) (items_within first m x.1)) r
step n m first None h = refl
step n m first (Some x) h = ap (option_map (λ items. x.0 ∷ items)) (h x refl)

within_same : {A : Type 0} (first : List ℕ → Option (A × List ℕ)) → Shortens first → (n m : ℕ) (bytes : List ℕ) → length bytes ≤ n → length bytes ≤ m → items_within first n bytes ≡ items_within first m bytes
unfolding items_within
within_same first short n m [] k l = refl
within_same first short zero m (b ∷ bytes) k l = absurd (omega arith)
within_same first short (suc n) zero (b ∷ bytes) k l = absurd (omega arith)
within_same first short (suc n) (suc m) (b ∷ bytes) k l = step n m first (first (b ∷ bytes)) (λ x e.
    let less : length x.1 < suc (length bytes) = short (b ∷ bytes) x.0 x.1 e in
    within_same first short n m x.1 (omega arith) (omega arith))

pub items-nil : {A : Type 0} (first : List ℕ → Option (A × List ℕ)) → items_of first [] ≡ Some []
unfolding items_of items_within
items-nil first = refl

pub items-none : {A : Type 0} (first : List ℕ → Option (A × List ℕ)) (bytes : List ℕ) → 0 < length bytes → first bytes ≡ None → items_of first bytes ≡ None
unfolding items_of items_within
items-none first [] some e = absurd (omega arith)
items-none first (b ∷ bytes) some e = ap (option_and_then (λ x. option_map (λ items. x.0 ∷ items) (items_within first (length bytes) x.1))) e

pub items-step : {A : Type 0} (first : List ℕ → Option (A × List ℕ)) → Shortens first → (bytes : List ℕ) (item : A) (rest : List ℕ) → first bytes ≡ Some (item, rest)
    → items_of first bytes ≡ option_map (λ items. item ∷ items) (items_of first rest)
unfolding items_of items_within
items-step first short [] item rest e = let less : length rest < 0 = short [] item rest e in absurd (omega arith)
items-step first short (b ∷ bytes) item rest e =
    let less : length rest < suc (length bytes) = short (b ∷ bytes) item rest e in
    ap (option_and_then (λ x. option_map (λ items. x.0 ∷ items) (items_within first (length bytes) x.1))) e
    ∙ ap (option_map (λ items. item ∷ items)) (within_same first short (length bytes) (length rest) rest (omega arith) (omega arith))

-- the parts of an option that is there
pub option_map_some : {A B : Type 0} (f : A → B) (o : Option A) (y : B) → option_map f o ≡ Some y → (x : A) × (o ≡ Some x) × (f x ≡ y)
option_map_some f None y e = absurd cc
option_map_some f (Some x) y e = (x, refl, cc)

joined_within : {A : Type 0} (S : List ℕ → A → Type 0) (first : List ℕ → Option (A × List ℕ)) → IsReader S first → (n : ℕ) (bytes : List ℕ) (items : List A) → items_within first n bytes ≡ Some items → IsJoined S bytes items
unfolding items_within
joined_within {A} S first r n [] items e = let none : [] ≡ items = cc in subst (λ (xs : List A). IsJoined S [] xs) none refl
joined_within S first r zero (b ∷ bytes) items e = absurd cc
joined_within {A} S first r (suc n) (b ∷ bytes) items e =
    let x = and_then_some (λ (x : A × List ℕ). option_map (λ (items : List A). x.0 ∷ items) (items_within first n x.1)) (first (b ∷ bytes)) items e in
    let y = option_map_some (λ (items : List A). x.0.0 ∷ items) (items_within first n x.0.1) items x.2 in
    subst (λ (xs : List A). IsJoined S (b ∷ bytes) xs) y.2 (x.0.1, r.finds (b ∷ bytes) x.0.0 x.0.1 x.1, joined_within S first r n x.0.1 y.0 y.1)

-- what is read is joined
pub joined_from : {A : Type 0} {S : List ℕ → A → Type 0} {first : List ℕ → Option (A × List ℕ)} → IsReader S first → (bytes : List ℕ) (items : List A) → items_of first bytes ≡ Some items → IsJoined S bytes items
unfolding items_of
joined_from {A} {S} {first} r bytes items e = joined_within S first r (length bytes) bytes items e

-- what is joined is read
pub items_from : {A : Type 0} {S : List ℕ → A → Type 0} {first : List ℕ → Option (A × List ℕ)} → IsReader S first → (bytes : List ℕ) (items : List A) → IsJoined S bytes items → items_of first bytes ≡ Some items
items_from {A} {S} {first} r bytes [] joined = ap (items_of first) joined ∙ items-nil first
items_from {A} {S} {first} r bytes (item ∷ items) joined =
    items-step first (shortens r) bytes item joined.0 (r.only bytes item joined.0 joined.1) ∙ ap (option_map (λ xs. item ∷ xs)) (items_from r joined.0 items joined.2)

-- nothing is joined where reading fails
pub joined_none : {A : Type 0} {S : List ℕ → A → Type 0} {first : List ℕ → Option (A × List ℕ)} → IsReader S first → (bytes : List ℕ) → items_of first bytes ≡ None → (items : List A) → IsJoined S bytes items → ⊥
joined_none {A} {S} {first} r bytes e items joined = let f = items_from r bytes items joined in let both : Some items ≡ None = sym f ∙ e in cc

-- whether anything is joined, over a step
pub is_some-step : {A : Type 0} (first : List ℕ → Option (A × List ℕ)) → Shortens first → (bytes : List ℕ) (item : A) (rest : List ℕ) → first bytes ≡ Some (item, rest) → is_some (items_of first bytes) ≡ is_some (items_of first rest)
is_some-step {A} first short bytes item rest e = ap is_some (items-step first short bytes item rest e) ∙ mapped (items_of first rest)
  where
    mapped : (o : Option (List A)) → is_some (option_map (λ (xs : List A). item ∷ xs) o) ≡ is_some o
    mapped None = refl
    mapped (Some x) = refl

-- ---- what an iterator over whole items has left

pub whole-rest : {A : Type 0} (first : List ℕ → Option (A × List ℕ)) → Shortens first → (bytes : List ℕ) (item : A) (rest : List ℕ) → is_some (items_of first bytes) ≡ true → first bytes ≡ Some (item, rest) → is_some (items_of first rest) ≡ true
whole-rest first short bytes item rest whole e = sym (is_some-step first short bytes item rest e) ∙ whole

pub left-none : {A : Type 0} (first : List ℕ → Option (A × List ℕ)) (bytes : List ℕ) → is_some (items_of first bytes) ≡ true → first bytes ≡ None → unwrap_or (items_of first bytes) [] ≡ []
left-none first [] whole e = ap (λ o. unwrap_or o []) (items-nil first)
left-none first (b ∷ bytes) whole e = let none = items-none first (b ∷ bytes) (omega arith) e in ap (λ o. unwrap_or o []) none

left_mapped : {A : Type 0} (item : A) (o : Option (List A)) → is_some o ≡ true → unwrap_or (option_map (λ (items : List A). item ∷ items) o) [] ≡ item ∷ unwrap_or o []
left_mapped item None whole = absurd cc
left_mapped item (Some items) whole = refl

pub left-some : {A : Type 0} (first : List ℕ → Option (A × List ℕ)) → Shortens first → (bytes : List ℕ) (item : A) (rest : List ℕ) → is_some (items_of first bytes) ≡ true → first bytes ≡ Some (item, rest) → unwrap_or (items_of first bytes) [] ≡ item ∷ unwrap_or (items_of first rest) []
left-some first short bytes item rest whole e =
    ap (λ o. unwrap_or o []) (items-step first short bytes item rest e) ∙ left_mapped item (items_of first rest) (whole-rest first short bytes item rest whole e)

-- ---- a walk to the end over items that nobody keeps

pub whole-end : {A : Type 0} (first : List ℕ → Option (A × List ℕ)) (bytes rest : List ℕ) → length rest ≤ 0 → is_some (items_of first rest) ≡ is_some (items_of first bytes) → is_some (items_of first bytes) ≡ true
whole-end first bytes [] empty same = sym same ∙ ap is_some (items-nil first)
whole-end first bytes (b ∷ rest) empty same = absurd (omega arith)

pub whole-none : {A : Type 0} {S : List ℕ → A → Type 0} {first : List ℕ → Option (A × List ℕ)} → IsReader S first → (bytes rest : List ℕ) → 0 < length rest → first rest ≡ None
    → is_some (items_of first rest) ≡ is_some (items_of first bytes) → (items : List A) → IsJoined S bytes items → ⊥
whole-none {A} {S} {first} r bytes rest some none same items joined =
    let found = ap is_some (items_from r bytes items joined) in
    let not_found = ap is_some (items-none first rest some none) in
    cc

unwrapped : {A : Type 0} (o : Option (List A)) → is_some o ≡ true → o ≡ Some (unwrap_or o [])
unwrapped None e = absurd cc
unwrapped (Some x) e = refl

pub whole-joined : {A : Type 0} {S : List ℕ → A → Type 0} {first : List ℕ → Option (A × List ℕ)} → IsReader S first → (bytes : List ℕ) → is_some (items_of first bytes) ≡ true → IsJoined S bytes (unwrap_or (items_of first bytes) [])
whole-joined {A} {S} {first} r bytes whole = joined_from r bytes (unwrap_or (items_of first bytes) []) (unwrapped (items_of first bytes) whole)

-- bytes have one reading
pub joined_same : {A : Type 0} {S : List ℕ → A → Type 0} {first : List ℕ → Option (A × List ℕ)} → IsReader S first → (bytes : List ℕ) (xs ys : List A) → IsJoined S bytes xs → IsJoined S bytes ys → xs ≡ ys
joined_same {A} {S} {first} r bytes xs ys p q =
    let e : Some xs ≡ Some ys = sym (items_from r bytes xs p) ∙ items_from r bytes ys q in
    cc
