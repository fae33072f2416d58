-- About which ASes the hops of a chain ask, listed, and which of them have no row.
use Rattle.std.proofs.Common.{◌≡◌, ◌↔◌, ℕ, ◌+◌, ◌-◌, ◌<◌, ◌≤◌, ◌⊎◌, inl, inr, Bool, true, false, cond, nat_lt, List, [], ◌∷◌, ◌++◌, append_assoc, drop, get_or, length, slice_index, slice_index_or, take, refl, ap, sym, ◌∙◌, subst, arith}
use Rattle.std.specs.Prelude.{Contains, is_none}
use Rattle.std.specs.List.{filter}
use Rattle.std.specs.declared.option.Option.{Option}
use Rattle.std.specs.declared.option.Option.TheVariants.{Some, None}
use Rattle.std.proofs.lemmas.Bool.{cases_lt, ltb-false, ltb-true}
use Rattle.std.proofs.lemmas.List.{append-nil, drop_all, drop_more, get_or-take, get_or_default, length-take}
use Rattle.std.proofs.lemmas.List.Elements.{filter-append}
use Rattle.path_model.specs.declared.role.Direction.{Direction}
use Rattle.path_model.specs.declared.role.Direction.TheVariants.{Up, Down}
use Rattle.path_model.specs.Authority.{Table}
use Rattle.listings.specs.Silent.{BeginsHop, EndsHop, IsAsked}
use Rattle.listings.specs.SilentSteps.{asked_of, without_row}
use Rattle.listings.proofs.TallyCountLemmas.{in_cases, in_head, in_none, in_tail}

-- ---- what a test leaves

filter_has : {A : Type 0} (test : A → Bool) (xs : List A) (y : A) → Contains (filter test xs) y → Contains xs y × (test y ≡ true)
filter_has test [] y h = absurd (in_none y h)
filter_has {A} test (x ∷ xs) y h = by (filter_has test xs y) (test x) refl h where
  by : (Contains (filter test xs) y → Contains xs y × (test y ≡ true)) → (b : Bool) → test x ≡ b
      → Contains (cond b (x ∷ filter test xs) (filter test xs)) y → Contains (x ∷ xs) y × (test y ≡ true)
  by more true passes h = elim (in_cases x (filter test xs) y h) [
    | inl same ↦ (subst (λ (z : A). Contains (x ∷ xs) z) same (in_head x xs), ap test (sym same) ∙ passes)
    | inr later ↦ (in_tail x xs y (more later).0, (more later).1)
  ]
  by more false fails h = (in_tail x xs y (more h).0, (more h).1)

in_filter : {A : Type 0} (test : A → Bool) (xs : List A) (y : A) → Contains xs y → test y ≡ true → Contains (filter test xs) y
in_filter test [] y h passes = absurd (in_none y h)
in_filter {A} test (x ∷ xs) y h passes = elim (in_cases x xs y h) [
  | inl same ↦
      subst (λ (b : Bool). Contains (cond b (x ∷ filter test xs) (filter test xs)) y) (sym (ap test same ∙ passes))
      (subst (λ (z : A). Contains (x ∷ filter test xs) z) same (in_head x (filter test xs)))
  | inr later ↦ further (test x) (in_filter test xs y later passes)
] where
  further : (b : Bool) → Contains (filter test xs) y → Contains (cond b (x ∷ filter test xs) (filter test xs)) y
  further true there = in_tail x (filter test xs) y there
  further false there = there

none_is : (row : Option (List ℕ)) → is_none row ≡ true → row ≡ None
none_is None e = refl
none_is (Some ases) e = absurd cc

-- those without a row are those among the ASes that have none
pub without_exact : (table : Table) (ases : List ℕ) (asn : ℕ) → Contains (without_row table ases) asn ↔ ((table asn ≡ None) × Contains ases asn)
without_exact table ases asn = (
  λ h. let both = filter_has (λ a. is_none (table a)) ases asn h in (none_is (table asn) both.1, both.0),
  λ both. in_filter (λ a. is_none (table a)) ases asn both.1 (ap is_none both.0),
)

-- ---- the ends of hops

begins_from : (chain : List ℕ) (asn : ℕ) → Contains (take (length chain - 1) chain) asn → BeginsHop chain asn
begins_from chain asn h =
    let within : h.0 < length chain - 1 = omega (arith, h.1, length-take (length chain - 1) chain) in
    record {
      hop = h.0;
      within = omega (arith, within);
      is = get_or_default chain h.0 0 asn (omega (arith, within)) ∙ sym (get_or-take (length chain - 1) chain h.0 asn within) ∙ h.2;
    }

begins_in : (chain : List ℕ) (asn : ℕ) → BeginsHop chain asn → Contains (take (length chain - 1) chain) asn
begins_in chain asn b = (
  b.hop,
  omega (arith, b.within, length-take (length chain - 1) chain),
  get_or-take (length chain - 1) chain b.hop asn (omega (arith, b.within)) ∙ get_or_default chain b.hop asn 0 (omega (arith, b.within)) ∙ b.is,
)

at_place : (chain : List ℕ) (asn k : ℕ) → 1 < length chain → k < length chain → slice_index chain k ≡ asn → BeginsHop chain asn ⊎ EndsHop chain asn
at_place chain asn k some within is = elim (cases_lt (k + 1) (length chain)) [
  | inl more ↦ inl (record { hop = k; within = more; is = is })
  | inr last ↦ inr (record { hop = k - 1; within = omega (arith, some, within, last); is = ap (slice_index chain) (omega (arith, some, within, last)) ∙ is })
]

ends_from : (chain : List ℕ) (asn : ℕ) (b : Bool) → nat_lt 1 (length chain) ≡ b → Contains (cond b chain []) asn → BeginsHop chain asn ⊎ EndsHop chain asn
ends_from chain asn true some h = at_place chain asn h.0 (ltb-true 1 (length chain) some) h.1 (get_or_default chain h.0 0 asn h.1 ∙ h.2)
ends_from chain asn false none h = absurd (in_none asn h)

ends_in : (chain : List ℕ) (asn : ℕ) (b : Bool) → nat_lt 1 (length chain) ≡ b → BeginsHop chain asn ⊎ EndsHop chain asn → Contains (cond b chain []) asn
ends_in chain asn true some (inl begins) = (begins.hop, omega (arith, begins.within), get_or_default chain begins.hop asn 0 (omega (arith, begins.within)) ∙ begins.is)
ends_in chain asn true some (inr ends) = (ends.hop + 1, ends.within, get_or_default chain (ends.hop + 1) asn 0 ends.within ∙ ends.is)
ends_in chain asn false none (inl begins) = absurd (omega (arith, ltb-false 1 (length chain) none, begins.within))
ends_in chain asn false none (inr ends) = absurd (omega (arith, ltb-false 1 (length chain) none, ends.within))

pub asked_exact : (direction : Direction) (chain : List ℕ) (asn : ℕ) → Contains (asked_of direction chain) asn ↔ IsAsked direction chain asn
asked_exact Up chain asn = (begins_from chain asn, begins_in chain asn)
asked_exact Down chain asn = (ends_from chain asn (nat_lt 1 (length chain)) refl, ends_in chain asn (nat_lt 1 (length chain)) refl)

-- ---- the ASes of a path about which it asks and that have no row

abbrev pub silent_in : Table → Direction → List ℕ → List ℕ
silent_in table direction chain = without_row table (asked_of direction chain)

pub silent_exact : (table : Table) (direction : Direction) (chain : List ℕ) (asn : ℕ)
    → Contains (silent_in table direction chain) asn ↔ ((table asn ≡ None) × IsAsked direction chain asn)
silent_exact table direction chain asn =
    let rows = without_exact table (asked_of direction chain) asn in
    let asked = asked_exact direction chain asn in
    (λ h. ((rows.0 h).0, asked.0 (rows.0 h).1), λ both. rows.1 (both.0, asked.1 both.1))

-- ---- AS by AS

module _ (table : Table) (ases : List ℕ) (i : ℕ) (found : List ℕ) (so_far : found ++ without_row table (drop i ases) ≡ without_row table ases) where
  -- one AS more
  pub without_next : (now : List ℕ) → i < length ases → now ≡ found ++ without_row table (slice_index ases i ∷ [])
      → now ++ without_row table (drop (i + 1) ases) ≡ without_row table ases
  without_next now within pushed =
      let asn = slice_index ases i in
      let rest = drop (i + 1) ases in
      ap (λ (xs : List ℕ). xs ++ without_row table (drop (i + 1) ases)) pushed ∙ append_assoc found (without_row table (asn ∷ [])) (without_row table rest)
      ∙ ap (λ (xs : List ℕ). found ++ xs) (sym (filter-append (λ a. is_none (table a)) (asn ∷ []) rest) ∙ ap (without_row table) (sym (drop_more ases i 0 within)))
      ∙ so_far

  -- and then there are no more
  pub without_over : length ases ≤ i → found ≡ without_row table ases
  without_over over = sym (append-nil found) ∙ ap (λ (xs : List ℕ). found ++ without_row table xs) (sym (drop_all i ases over)) ∙ so_far
