-- What each change makes of the rows of a customer that are counted.
use Rattle.std.proofs.Common.{◌≡◌, ℕ, nat_eq, ◌+◌, Bool, true, false, cond, not, ◌||◌, ◌&&◌, List, [], ◌∷◌, ◌++◌, length, Some, None, refl, sym, ap, subst, ◌∙◌}
use Rattle.std.specs.Prelude.{is_none, option_to_list}
use Rattle.std.specs.Option.{option_map}
use Rattle.std.specs.declared.option.Option.{Option}
use Rattle.std.specs.Ordering.{nat_cmp}
use Rattle.std.specs.BTreeMap.{is_at}
use Rattle.std.specs.Cmp.{nat_cmp_total, nat_eq_equiv, unsigned_tied}
use Rattle.std.specs.FinMap as map
use Rattle.std.proofs.lemmas.Bool.{false_from_ne_true}
use Rattle.std.proofs.lemmas.Map.Views.{exact_unsigned_eq}
use Rattle.path_model.specs.Authority.{has}
use Rattle.path_model.specs.Rows.{RowMap, PatchMap, row_or_empty}
use Rattle.path_model.specs.Sets.{IsSetOf}
use Rattle.attestations.specs.CurrentTable.{Parts}
use Rattle.attestations.specs.ComputedTable.{onto, attested}
use Rattle.attestations.specs.declared.term.Term.{Term}
use Rattle.attestations.specs.Terms.{SetOfTerms, TermMap, lasting, members, terms_or_none}
use Rattle.attestations.proofs.TermLemmas.{members_empty, members_only}
use Rattle.path_model.proofs.MemberLemmas.{has-append}
use Rattle.vap_table.specs.declared.tally.Tally.{Tally}
use Rattle.vap_table.specs.declared.change.TableChange.TheVariants.{Replace, Patch, Slurm, Filter, Unfilter, Assert, Unassert, At}
use Rattle.vap_table.specs.declared.stepping.Step.TheVariants.{AssertionMore}
use Rattle.vap_table.specs.declared.tallied.Side.{Side}
use Rattle.vap_table.specs.declared.tallied.Side.TheVariants.{Assertions}
use Rattle.vap_table.specs.Change.{Alters, with_source, terms_in, given_terms, patched_terms}
use Rattle.vap_table.specs.Counting.{holds, missing, asserted_with, IsGrown, IsGrownBy, IsTallyBySide}
use Rattle.vap_table.specs.Sources.{list_of}
use Rattle.vap_table.specs.Stepping.{one, IsTallyStepped}
use Rattle.vap_table.specs.Tally.{asserted, holding, IsTallyOf, IsTallyOfRows}
use Rattle.vap_table.proofs.CountingLemmas.{onto_grown, onto_kept, kept_grown, assertion_added}
use Rattle.vap_table.proofs.MemberLemmas.{members_of_set}
use Rattle.vap_table.proofs.SourcesLemmas.{same_attested}

-- ---- the rows of the two kinds of assertions

pub slurm_grown : (by_slurm by_hand : Option (List ℕ)) → IsGrownBy by_slurm (onto by_hand []) (asserted_with by_slurm by_hand)
slurm_grown by_slurm by_hand = onto_grown by_slurm (onto by_hand [])

pub hand_grown : (by_slurm by_hand : Option (List ℕ)) → IsGrownBy by_hand (onto by_slurm []) (asserted_with by_slurm by_hand)
hand_grown by_slurm by_hand = onto_kept by_hand by_slurm [] (onto by_hand []) (onto_grown by_hand [])

-- ---- providers that are united with what is asserted by hand

and_false : (b : Bool) → (b && false) ≡ false
and_false true = refl
and_false false = refl

pub has_missing : (row : Option (List ℕ)) (list : List ℕ) (y : ℕ) → has (missing row list) y ≡ (has list y && not (holds row y))
has_missing row [] y = refl
has_missing row (x ∷ xs) y = by (has_missing row xs y) (nat_eq x y) refl (not (holds row x)) refl where
  by : has (missing row xs) y ≡ (has xs y && not (holds row y)) → (same : Bool) → nat_eq x y ≡ same → (kept : Bool) → not (holds row x) ≡ kept → has (cond kept (x ∷ missing row xs) (missing row xs)) y ≡ ((same || has xs y) && not (holds row y))
  by more true s true k = ap (λ (b : Bool). b || has (missing row xs) y) s ∙ sym (ap (λ (z : ℕ). not (holds row z)) (sym (exact_unsigned_eq x y s)) ∙ k)
  by more true s false k =
      let out : not (holds row y) ≡ false = ap (λ (z : ℕ). not (holds row z)) (sym (exact_unsigned_eq x y s)) ∙ k in
      more ∙ ap (λ (b : Bool). has xs y && b) out ∙ and_false (has xs y) ∙ sym out
  by more false s true k = ap (λ (b : Bool). b || has (missing row xs) y) s ∙ more
  by more false s false k = more

one_or : (held listed : Bool) → one (held || listed) ≡ one held + one (listed && not held)
one_or true true = refl
one_or true false = refl
one_or false true = refl
one_or false false = refl

held_in : (row : Option (List ℕ)) (y : ℕ) → has (row_or_empty row) y ≡ holds row y
held_in None y = refl
held_in (Some row) y = refl

held_by_one : (b : Bool) (row : List ℕ) → length (cond b (row ∷ []) []) ≡ one b
held_by_one true row = refl
held_by_one false row = refl

held_by_onto : (row : Option (List ℕ)) (y : ℕ) → holding y (onto row []) ≡ one (holds row y)
held_by_onto None y = refl
held_by_onto (Some row) y = held_by_one (has row y) row

one_row_more : (held : Option (List ℕ)) (row : List ℕ) → length (row ∷ []) ≡ length (onto held []) + one (is_none held)
one_row_more None row = refl
one_row_more (Some held) row = refl

pub united_grown : (by_slurm held : Option (List ℕ)) (list row more : List ℕ) → IsSetOf (row_or_empty held ++ list) row → IsSetOf (missing held list) more
    → IsGrown (is_none held) more (asserted_with by_slurm held) (asserted_with by_slurm (Some row))
united_grown by_slurm held list row more is_row is_more = kept_grown by_slurm (is_none held) more (onto held []) (row ∷ []) (record {
  number = one_row_more held row;
  held = λ y. held_by_one (has row y) row
      ∙ ap one (members_of_set (row_or_empty held ++ list) row is_row y ∙ has-append (row_or_empty held) list y ∙ ap (λ (b : Bool). b || has list y) (held_in held y))
      ∙ one_or (holds held y) (has list y)
      ∙ (λ i. sym (held_by_onto held y) i + one (sym (members_of_set (missing held list) more is_more y ∙ has_missing held list y) i));
})

-- ---- each change

pub tally_of_replace : (old : Parts) (name : List ℕ) (terms : TermMap) (x : ℕ) (tally : Option Tally) → IsTallyOfRows (attested old.moment (with_source old.sources name terms) x) (asserted old x) tally
    → (new : Parts) → Alters old (Replace name terms) new → IsTallyOf new x tally
tally_of_replace old name terms x tally is new e = subst (λ (parts : Parts). IsTallyOf parts x tally) (sym e) is

-- the list of a row that is given, as one attestation that never ends
abbrev pub listed_row : Option (List ℕ) → List Term
listed_row given = option_to_list (option_map lasting given)

listed_given : (given : Option (List ℕ)) → members (terms_or_none (given_terms given)) ≡ listed_row given
listed_given None = members_empty
listed_given (Some row) = members_only (lasting row)

pub tally_of_patch : (old : Parts) (name : List ℕ) (patch : PatchMap) (x : ℕ) (given : Option (List ℕ)) (list : List Term) (tally : Option Tally) → map.get patch x ≡ Some given → list ≡ listed_row given
    → ((terms : TermMap) → list_of terms x ≡ list → IsTallyOfRows (attested old.moment (with_source old.sources name terms) x) (asserted old x) tally) → (new : Parts) → Alters old (Patch name patch) new → IsTallyOf new x tally
tally_of_patch old name patch x given list tally said listed is new (terms, patched, e) = subst (λ (parts : Parts). IsTallyOf parts x tally) (sym e)
    (is terms (ap (λ (o : Option SetOfTerms). members (terms_or_none o)) (patched.each x ∙ ap (λ (o : Option (Option (List ℕ))). patched_terms o (map.get (terms_in old.sources name) x)) said) ∙ listed_given given ∙ sym listed))

pub tally_unpatched : (old : Parts) (name : List ℕ) (patch : PatchMap) (x : ℕ) (tally : Option Tally) → map.get patch x ≡ None → IsTallyOf old x tally → (new : Parts) → Alters old (Patch name patch) new → IsTallyOf new x tally
tally_unpatched old name patch x tally unsaid is new (terms, patched, e) = subst (λ (parts : Parts). IsTallyOf parts x tally) (sym e)
    (subst (λ (sourced : List (List ℕ)). IsTallyOfRows sourced (asserted old x) tally)
    (sym (same_attested old.moment old.sources name terms x (sym (patched.each x ∙ ap (λ (o : Option (Option (List ℕ))). patched_terms o (map.get (terms_in old.sources name) x)) unsaid)))) is)

pub tally_of_at : (old : Parts) (moment x : ℕ) (tally : Option Tally) → IsTallyOfRows (attested moment old.sources x) (asserted old x) tally → (new : Parts) → Alters old (At moment) new → IsTallyOf new x tally
tally_of_at old moment x tally is new e = subst (λ (parts : Parts). IsTallyOf parts x tally) (sym e) is

pub tally_of_slurm : (old : Parts) (filters : List ℕ) (rows : RowMap) (x : ℕ) (tally : Option Tally) → IsTallyOfRows (attested old.moment old.sources x) (asserted_with (map.get rows x) (map.get old.assertions x)) tally
    → (new : Parts) → Alters old (Slurm filters rows) new → IsTallyOf new x tally
tally_of_slurm old filters rows x tally is new (set, is_set, e) = subst (λ (parts : Parts). IsTallyOf parts x tally) (sym e) is

pub tally_of_filter : (old : Parts) (customer x : ℕ) (tally : Option Tally) → IsTallyOf old x tally → (new : Parts) → Alters old (Filter customer) new → IsTallyOf new x tally
tally_of_filter old customer x tally is new (set, is_set, e) = subst (λ (parts : Parts). IsTallyOf parts x tally) (sym e) is

pub tally_of_unfilter : (old : Parts) (customer x : ℕ) (tally : Option Tally) → IsTallyOf old x tally → (new : Parts) → Alters old (Unfilter customer) new → IsTallyOf new x tally
tally_of_unfilter old customer x tally is new (set, is_set, e) = subst (λ (parts : Parts). IsTallyOf parts x tally) (sym e) is

-- assertions that differ at one customer
by_assertions : (old new : Parts) (rows : RowMap) (x : ℕ) (row : Option (List ℕ)) (tally : Option Tally) → new ≡ record old { assertions = rows } → map.get rows x ≡ row
    → IsTallyOfRows (attested old.moment old.sources x) (asserted_with (map.get old.slurm_assertions x) row) tally → IsTallyOf new x tally
by_assertions old new rows x row tally e at is = subst (λ (parts : Parts). IsTallyOf parts x tally) (sym e)
    (subst (λ (o : Option (List ℕ)). IsTallyOfRows (attested old.moment old.sources x) (asserted_with (map.get old.slurm_assertions x) o) tally) (sym at) is)

at_itself : (x : ℕ) → is_at (nat_cmp x) x ≡ true
at_itself x = unsigned_tied x x ∙ nat_eq_equiv.refl x

at_other : (x y : ℕ) → nat_eq x y ≡ false → is_at (nat_cmp y) x ≡ false
at_other x y other = unsigned_tied y x ∙ nat_eq_equiv.symm y x ∙ other

pub tally_of_assert : (old : Parts) (x : ℕ) (list : List ℕ) (tally : Option Tally)
    → ((row : List ℕ) → IsSetOf (row_or_empty (map.get old.assertions x) ++ list) row → IsTallyOfRows (attested old.moment old.sources x) (asserted_with (map.get old.slurm_assertions x) (Some row)) tally)
    → (new : Parts) → Alters old (Assert x list) new → IsTallyOf new x tally
tally_of_assert old x list tally is new (rows, unites, e) = by_assertions old new rows x (Some unites.row) tally e
    (ap (λ (m : RowMap). map.get m x) unites.whole ∙ map.get-insert nat_cmp_total old.assertions x unites.row x ∙ ap (λ (b : Bool). cond b (Some unites.row) (map.get old.assertions x)) (at_itself x))
    (is unites.row unites.is_set)

pub tally_asserted_apart : (old : Parts) (customer : ℕ) (list : List ℕ) (x : ℕ) (tally : Option Tally) → nat_eq customer x ≡ false → IsTallyOf old x tally → (new : Parts) → Alters old (Assert customer list) new → IsTallyOf new x tally
tally_asserted_apart old customer list x tally other is new (rows, unites, e) = by_assertions old new rows x (map.get old.assertions x) tally e
    (ap (λ (m : RowMap). map.get m x) unites.whole ∙ map.get-insert nat_cmp_total old.assertions customer unites.row x
    ∙ ap (λ (b : Bool). cond b (Some unites.row) (map.get old.assertions x)) (at_other customer x other))
    is

pub tally_of_unassert : (old : Parts) (x : ℕ) (tally : Option Tally) → IsTallyOfRows (attested old.moment old.sources x) (asserted_with (map.get old.slurm_assertions x) None) tally
    → (new : Parts) → Alters old (Unassert x) new → IsTallyOf new x tally
tally_of_unassert old x tally is new e = by_assertions old new (map.remove old.assertions x) x None tally e
    (map.get-remove nat_cmp_total old.assertions x x ∙ ap (λ (b : Bool). cond b None (map.get old.assertions x)) (at_itself x)) is

pub tally_unasserted_apart : (old : Parts) (customer x : ℕ) (tally : Option Tally) → nat_eq customer x ≡ false → IsTallyOf old x tally → (new : Parts) → Alters old (Unassert customer) new → IsTallyOf new x tally
tally_unasserted_apart old customer x tally other is new e = by_assertions old new (map.remove old.assertions customer) x (map.get old.assertions x) tally e
    (map.get-remove nat_cmp_total old.assertions customer x ∙ ap (λ (b : Bool). cond b None (map.get old.assertions x)) (at_other customer x other)) is

-- ---- what is done to a tally for a change

-- a row of a side is taken off
abbrev pub TakesOff : Side → Option (List ℕ) → Option Tally → Option Tally → Type 0
TakesOff side row before after = (rows grown other : List (List ℕ)) → IsGrownBy row rows grown → IsTallyBySide side grown other before → IsTallyBySide side rows other after

-- a row of a side is added
abbrev pub AddsOn : Side → Option (List ℕ) → Option Tally → Option Tally → Type 0
AddsOn side row before after = (rows grown other : List (List ℕ)) → IsGrownBy row rows grown → IsTallyBySide side rows other before → IsTallyBySide side grown other after

grown_as : (row held : Option (List ℕ)) (rows grown : List (List ℕ)) → row ≡ held → IsGrownBy held rows grown → IsGrownBy row rows grown
grown_as row held rows grown e g = subst (λ (o : Option (List ℕ)). IsGrownBy o rows grown) (sym e) g

pub slurm_put : (parts : Parts) (x : ℕ) (held row : Option (List ℕ)) (before between after : Option Tally) → held ≡ map.get parts.slurm_assertions x → TakesOff Assertions held before between → AddsOn Assertions row between after
    → IsTallyOf parts x before → IsTallyOfRows (attested parts.moment parts.sources x) (asserted_with row (map.get parts.assertions x)) after
slurm_put parts x held row before between after is_held off on is =
    let by_hand = map.get parts.assertions x in
    on (onto by_hand []) (asserted_with row by_hand) (attested parts.moment parts.sources x) (slurm_grown row by_hand)
    (off (onto by_hand []) (asserted parts x) (attested parts.moment parts.sources x) (grown_as held (map.get parts.slurm_assertions x) _ _ is_held (slurm_grown (map.get parts.slurm_assertions x) by_hand)) is)

pub hand_removed : (parts : Parts) (x : ℕ) (held : Option (List ℕ)) (before after : Option Tally) → held ≡ map.get parts.assertions x → TakesOff Assertions held before after → IsTallyOf parts x before
    → IsTallyOfRows (attested parts.moment parts.sources x) (asserted_with (map.get parts.slurm_assertions x) None) after
hand_removed parts x held before after is_held off is =
    let by_slurm = map.get parts.slurm_assertions x in
    off (onto by_slurm []) (asserted parts x) (attested parts.moment parts.sources x) (grown_as held (map.get parts.assertions x) _ _ is_held (hand_grown by_slurm (map.get parts.assertions x))) is

pub hand_united : (parts : Parts) (x : ℕ) (held : Option (List ℕ)) (is_first : Bool) (list row more : List ℕ) (before after : Option Tally) → held ≡ map.get parts.assertions x → is_first ≡ is_none held
    → IsSetOf (missing held list) more → IsTallyStepped AssertionMore is_first more before after → IsTallyOf parts x before → IsSetOf (row_or_empty (map.get parts.assertions x) ++ list) row
    → IsTallyOfRows (attested parts.moment parts.sources x) (asserted_with (map.get parts.slurm_assertions x) (Some row)) after
hand_united parts x held is_first list row more before after is_held first is_more stepped is is_row =
    let by_slurm = map.get parts.slurm_assertions x in
    let by_hand = map.get parts.assertions x in
    assertion_added is_first more (asserted_with by_slurm by_hand) (asserted_with by_slurm (Some row)) (attested parts.moment parts.sources x) before after stepped
    (subst (λ (b : Bool). IsGrown b more (asserted_with by_slurm by_hand) (asserted_with by_slurm (Some row))) (sym (first ∙ ap is_none is_held))
    (united_grown by_slurm by_hand list row more is_row (subst (λ (o : Option (List ℕ)). IsSetOf (missing o list) more) is_held is_more))) is

pub apart_from : (a b : ℕ) → (a ≡ b → ⊥) → nat_eq a b ≡ false
apart_from a b other = false_from_ne_true (nat_eq a b) (λ e. other (exact_unsigned_eq a b e))
