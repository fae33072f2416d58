-- What the moves of a table touch, and what they don't.
use Rattle.std.proofs.Common.{◌≡◌, ◌≢◌, ◌↔◌, ◌⊎◌, ℕ, nat_eq, ◌+◌, Bool, true, false, not, ◌||◌, ◌&&◌, List, [], ◌∷◌, None, Some, refl, ap, sym, subst, ◌∙◌, inl, inr, true≢false}
use Rattle.std.specs.Prelude.{slice_index, All}
use Rattle.std.specs.Cmp.{nat_eq_equiv}
use Rattle.std.specs.declared.option.Option.{Option}
use Rattle.std.proofs.lemmas.Bool.{and_from, and_parts, false_from_ne_true, or_cases, or_left, or_right}
use Rattle.std.proofs.lemmas.List.Elements.{All-head, All-tail}
use Rattle.std.proofs.lemmas.Map.Views.{exact_unsigned_eq}
use Rattle.path_model.specs.declared.authority.Authority.{Authority}
use Rattle.path_model.specs.declared.authority.Authority.TheVariants.{Silent, Refuses, Provides}
use Rattle.path_model.specs.Authority.{Table, said_by, authority_of, has}
use Rattle.path_model.specs.Laws.{SameOnHops}
use Rattle.path_model.specs.Roles.{Relations, role_of}
use Rattle.path_model.proofs.LawLemmas.{hops_decide_witnesses}
use Rattle.hop_index.specs.Hops.{AreNeighbours}
use Rattle.hop_index.specs.Index.{Entries}
use Rattle.hop_index.specs.Index as hops
use Rattle.hop_index.specs.Ends.{has_end}
use Rattle.hop_index.specs.Numbers.{has_number}
use Rattle.hop_index.proofs.HopLemmas.{hops_are_told}
use Rattle.attestations.specs.declared.moves.RowMove.{RowMove}
use Rattle.attestations.specs.Moves.{customers_of, IsMove, AreMoves}
use Rattle.shared_cases.specs.declared.case.StoredCase.{StoredCase}
use Rattle.shared_cases.specs.Cases.{hops_of}
use Rattle.shared_cases.specs.Grounds.{by_table, IsRightCase}
use Rattle.shared_cases.specs.Touching.{same_authority, differs, AreAllOf, asks, IsTouchedAt, IsTouchedBy}
use Rattle.shared_cases.proofs.TouchLemmas.{IsTouchedNumber}

same_said : (a b : Authority) → not (same_authority a b) ≡ false → a ≡ b
same_said Silent Silent e = refl
same_said Silent Refuses e = absurd (true≢false e)
same_said Silent Provides e = absurd (true≢false e)
same_said Refuses Silent e = absurd (true≢false e)
same_said Refuses Refuses e = refl
same_said Refuses Provides e = absurd (true≢false e)
same_said Provides Silent e = absurd (true≢false e)
same_said Provides Refuses e = absurd (true≢false e)
same_said Provides Provides e = refl

said_otherwise : (a b : Authority) → not (same_authority a b) ≡ true → a ≢ b
said_otherwise Silent Silent e = λ same. true≢false (sym e)
said_otherwise Silent Refuses e = λ same. cc
said_otherwise Silent Provides e = λ same. cc
said_otherwise Refuses Silent e = λ same. cc
said_otherwise Refuses Refuses e = λ same. true≢false (sym e)
said_otherwise Refuses Provides e = λ same. cc
said_otherwise Provides Silent e = λ same. cc
said_otherwise Provides Refuses e = λ same. cc
said_otherwise Provides Provides e = λ same. true≢false (sym e)

-- no case comes to the others where the customer of the move has no hop at all
pub touch_none : (index : Entries) (m : RowMove) (n : ℕ) (ends : List (ℕ × ℕ)) (before : Bool) → ((y : ℕ) → has_end ends y n ≡ hops.has index m.customer y n)
    → ends ≡ [] → (before ≡ true) ↔ ((before ≡ true) ⊎ IsTouchedAt index m n)
touch_none index m n ends before exact none = (
  λ was. inl was,
  λ h. elim h [
    | inl was ↦ was
    | inr touched ↦ absurd (true≢false (sym touched.1 ∙ sym (exact touched.0) ∙ ap (λ (es : List (ℕ × ℕ)). has_end es touched.0 n) none))
  ],
)

-- ---- the ASes that are asked
reached : (index : Entries) (m : RowMove) (n : ℕ) (asked : List ℕ) → asks index m n asked ≡ true → IsTouchedAt index m n
reached index m n [] h = absurd (true≢false (sym h))
reached index m n (y ∷ ys) h = elim (or_cases (differs m y && hops.has index m.customer y n) (asks index m n ys) h) [
  | inl here ↦ let parts = and_parts (differs m y) (hops.has index m.customer y n) here in (y, parts.1, parts.0)
  | inr later ↦ reached index m n ys later
]

reaches : (index : Entries) (m : RowMove) (n y : ℕ) (asked : List ℕ) → has_number asked y ≡ true → hops.has index m.customer y n ≡ true → differs m y ≡ true → asks index m n asked ≡ true
reaches index m n y [] there hop other = absurd (true≢false (sym there))
reaches index m n y (z ∷ zs) there hop other = elim (or_cases (nat_eq y z) (has_number zs y) there) [
  | inl here ↦
      let e : z ≡ y = sym (exact_unsigned_eq y z here) in
      or_left (differs m z && hops.has index m.customer z n) (asks index m n zs)
      (and_from (differs m z) (hops.has index m.customer z n) (ap (differs m) e ∙ other) (ap (λ (x : ℕ). hops.has index m.customer x n) e ∙ hop))
  | inr later ↦ or_right (differs m z && hops.has index m.customer z n) (asks index m n zs) (reaches index m n y zs later hop other)
]

-- a case comes to the others exactly where the customer of the move has such a hop of it to one that is asked: all of its neighbours are,
pub neighbours_told : (index : Entries) (m : RowMove) (n : ℕ) (asked : List ℕ) (before now : Bool)
    → ((y : ℕ) → hops.has index m.customer y n ≡ true → differs m y ≡ true → has_number asked y ≡ true)
    → now ≡ (before || asks index m n asked) → (now ≡ true) ↔ ((before ≡ true) ⊎ IsTouchedAt index m n)
neighbours_told index m n asked before now all told = (
  λ h. elim (or_cases before (asks index m n asked) (sym told ∙ h)) [
    | inl was ↦ inl was
    | inr found ↦ inr (reached index m n asked found)
  ],
  λ h. told ∙ elim h [
    | inl was ↦ or_left before (asks index m n asked) was
    | inr touched ↦ or_right before (asks index m n asked)
        (reaches index m n touched.0 asked (all touched.0 touched.1 touched.2) touched.1 touched.2)
  ],
)

asked_by : (asked : List ℕ) (m : RowMove) (y : ℕ) → AreAllOf asked m → differs m y ≡ true → (b : Bool) → has asked y ≡ b → has asked y ≡ true
asked_by asked m y all other true is = is
asked_by asked m y all other false is = absurd (true≢false (sym other ∙ all y is))

is_number : (y : ℕ) (asked : List ℕ) → has asked y ≡ true → has_number asked y ≡ true
is_number y [] there = there
is_number y (z ∷ zs) there = elim (or_cases (nat_eq z y) (has zs y) there) [
  | inl here ↦ or_left (nat_eq y z) (has_number zs y) (ap (nat_eq y) (exact_unsigned_eq z y here) ∙ nat_eq_equiv.refl y)
  | inr later ↦ or_right (nat_eq y z) (has_number zs y) (is_number y zs later)
]

-- or all of which it attests another thing
pub asked_told : (index : Entries) (m : RowMove) (n : ℕ) (asked : List ℕ) (before now : Bool) → AreAllOf asked m
    → now ≡ (before || asks index m n asked) → (now ≡ true) ↔ ((before ≡ true) ⊎ IsTouchedAt index m n)
asked_told index m n asked before now all told =
    neighbours_told index m n asked before now (λ y hop other. is_number y asked (asked_by asked m y all other (has asked y) refl)) told

module _ (old new : Table) (index : Entries) where
  -- a move that doesn't touch a case changes nothing at its hops
  kept_at : (m : RowMove) (x y n : ℕ) → IsMove old new m → (IsTouchedAt index m n → ⊥) → hops.has index x y n ≡ true → m.customer ≡ x → authority_of old x y ≡ authority_of new x y
  kept_at m x y n move untouched hop customer =
      let same : differs m y ≡ false = false_from_ne_true (differs m y) (λ other. untouched (y, subst (λ (z : ℕ). hops.has index z y n ≡ true) (sym customer) hop, other)) in
      ap (λ (z : ℕ). said_by (old z) y) (sym customer) ∙ ap (λ (row : Option (List ℕ)). said_by row y) (sym move.before)
      ∙ same_said (said_by m.before y) (said_by m.after y) same
      ∙ ap (λ (row : Option (List ℕ)). said_by row y) move.after ∙ ap (λ (z : ℕ). said_by (new z) y) customer

  kept_by : (moves : List RowMove) (x y n : ℕ) → All (IsMove old new) moves → (IsTouchedBy index moves n → ⊥) → hops.has index x y n ≡ true → has (customers_of moves) x ≡ true
      → authority_of old x y ≡ authority_of new x y
  kept_by [] x y n each untouched hop named = absurd (true≢false (sym named))
  kept_by (m ∷ ms) x y n each untouched hop named =
      elim (or_cases (nat_eq m.customer x) (has (customers_of ms) x) named) [
        | inl here ↦ kept_at m x y n (All-head (IsMove old new) m ms each) (λ t. untouched (inl t)) hop (exact_unsigned_eq m.customer x here)
        | inr later ↦ kept_by ms x y n (All-tail (IsMove old new) m ms each) (λ t. untouched (inr t)) hop later
      ]

  kept_named : (moves : List RowMove) (x y n : ℕ) → AreMoves old new moves → (IsTouchedBy index moves n → ⊥) → hops.has index x y n ≡ true → (b : Bool) → has (customers_of moves) x ≡ b
      → authority_of old x y ≡ authority_of new x y
  kept_named moves x y n are untouched hop true named = kept_by moves x y n are.each untouched hop named
  kept_named moves x y n are untouched hop false named = ap (λ (row : Option (List ℕ)). said_by row y) (sym (are.others x named))

  -- what moves don't touch says the same of its hops
  kept_authority : (moves : List RowMove) (x y n : ℕ) → AreMoves old new moves → (IsTouchedBy index moves n → ⊥) → hops.has index x y n ≡ true → authority_of old x y ≡ authority_of new x y
  kept_authority moves x y n are untouched hop = kept_named moves x y n are untouched hop (has (customers_of moves) x) refl

  -- what a move touches has a hop of which something else is said
  moved_at : (m : RowMove) (n : ℕ) → IsMove old new m → IsTouchedAt index m n
      → (x : ℕ) × (y : ℕ) × (hops.has index x y n ≡ true) × (authority_of old x y ≢ authority_of new x y)
  moved_at m n move touched = (
    m.customer,
    touched.0,
    touched.1,
    λ same. said_otherwise (said_by m.before touched.0) (said_by m.after touched.0) touched.2
        (ap (λ (row : Option (List ℕ)). said_by row touched.0) move.before ∙ same ∙ ap (λ (row : Option (List ℕ)). said_by row touched.0) (sym move.after)),
  )

  moved_by : (moves : List RowMove) (n : ℕ) → All (IsMove old new) moves → IsTouchedBy index moves n
      → (x : ℕ) × (y : ℕ) × (hops.has index x y n ≡ true) × (authority_of old x y ≢ authority_of new x y)
  moved_by [] n each touched = absurd touched
  moved_by (m ∷ ms) n each (inl here) = moved_at m n (All-head (IsMove old new) m ms each) here
  moved_by (m ∷ ms) n each (inr later) = moved_by ms n (All-tail (IsMove old new) m ms each) later

  module _ (roles : Relations) (moves : List RowMove) (are : AreMoves old new moves) (n : ℕ) where
    -- a case that isn't touched keeps its right judgement
    pub still_judged : (c : Option StoredCase) → ((x y : ℕ) → hops.has index x y n ≡ hops_of c x y) → (IsTouchedBy index moves n → ⊥) → IsRightCase (by_table old roles) c → IsRightCase (by_table new roles) c
    still_judged None indexed untouched right = tt
    still_judged (Some c) indexed untouched right =
        let chain : List ℕ = c.trail.chain in
        let same : (x y : ℕ) → AreNeighbours chain x y → authority_of old x y ≡ authority_of new x y = λ x y beside.
        kept_authority moves x y n are untouched (indexed x y ∙ (hops_are_told chain x y).1 beside) in
        let on_hops : SameOnHops old new chain = record {
          upward = λ k within. same (slice_index chain k) (slice_index chain (k + 1)) (record { place = k; within = within; joined = inl (refl, refl) });
          downward = λ k within. same (slice_index chain (k + 1)) (slice_index chain k) (record { place = k; within = within; joined = inr (refl, refl) });
        } in
        (hops_decide_witnesses old new (role_of roles c.asn) c.asn c.trail c.judged.verdict c.judged.witness on_hops).printed right

    -- and one that is touched is stored and touched indeed
    pub moves_touch : (c : Option StoredCase) → ((x y : ℕ) → hops.has index x y n ≡ hops_of c x y) → IsTouchedBy index moves n → IsTouchedNumber (by_table old roles) (by_table new roles) c
    moves_touch None indexed touched = let h = moved_by moves n are.each touched in true≢false (sym (sym (indexed h.0 h.1) ∙ h.2))
    moves_touch (Some c) indexed touched =
        let h = moved_by moves n are.each touched in
        inr (record { x = h.0; y = h.1; neighbours = (hops_are_told c.trail.chain h.0 h.1).0 (sym (indexed h.0 h.1) ∙ h.2); changed = h.3 })

-- ---- one move more
pub touched_next : (index : Entries) (moves rest : List RowMove) (m : RowMove) (n : ℕ) (before after : Bool) → (after ≡ true) ↔ ((before ≡ true) ⊎ IsTouchedAt index m n)
    → ((before ≡ true) ⊎ IsTouchedBy index (m ∷ rest) n) ↔ IsTouchedBy index moves n → ((after ≡ true) ⊎ IsTouchedBy index rest n) ↔ IsTouchedBy index moves n
touched_next index moves rest m n before after adds so_far = (forth, back) where
  come : (before ≡ true) ⊎ IsTouchedAt index m n → (before ≡ true) ⊎ IsTouchedBy index (m ∷ rest) n
  come (inl was) = inl was
  come (inr here) = inr (inl here)

  forth : (after ≡ true) ⊎ IsTouchedBy index rest n → IsTouchedBy index moves n
  forth (inl told) = so_far.0 (come (adds.0 told))
  forth (inr later) = so_far.0 (inr (inr later))

  gone : (before ≡ true) ⊎ IsTouchedBy index (m ∷ rest) n → (after ≡ true) ⊎ IsTouchedBy index rest n
  gone (inl was) = inl (adds.1 (inl was))
  gone (inr (inl here)) = inl (adds.1 (inr here))
  gone (inr (inr later)) = inr later

  back : IsTouchedBy index moves n → (after ≡ true) ⊎ IsTouchedBy index rest n
  back touched = gone (so_far.1 touched)
