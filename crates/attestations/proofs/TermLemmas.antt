-- Attestations, and sets of them.
use Rattle.std.proofs.Common.{◌≡◌, ℕ, ◌<◌, ◌≤◌, nat_eq, Bool, true, not, List, [], ◌∷◌, ◌++◌, length, slice_index_or, is_some, refl, ap, sym, ◌∙◌, subst, Equal, arith}
use Rattle.std.specs.declared.cmp.Ordering.{Ordering}
use Rattle.std.specs.declared.cmp.Ordering.TheVariants.{Less, Greater}
use Rattle.std.specs.declared.option.Option.{Option}
use Rattle.std.specs.declared.option.Option.TheVariants.{Some, None}
use Rattle.std.specs.Ordering.{nat_cmp, ordering_then, eq_by_cmp, is_eq}
use Rattle.std.specs.Option.{option_cmp}
use Rattle.std.specs.Bool.{Decides}
use Rattle.std.specs.Cmp.{Equal-is, tied_itself}
use Rattle.std.specs.Cmp.Lexicographic.{pointwise, slice_cmp}
use Rattle.std.specs.FinMap as map
use Rattle.std.specs.List.Sorted.{IsStrictlySortedBy, IsStrictlyIncreasing, IsPermutation}
use Rattle.std.specs.List.Retain.{IsFiltered, DiffersFromLast}
use Rattle.std.proofs.lemmas.Bool.Decides.{Decides-eqb}
use Rattle.std.proofs.lemmas.Slice.Eq.{slice_eq-Decides}
use Rattle.std.proofs.lemmas.Map.Lookups.{CmpEqualImpliesEq}
use Rattle.attestations.specs.declared.term.Term.{Term}
use Rattle.attestations.specs.Order.{term_total}
use Rattle.attestations.specs.Terms.{SetOfTerms, HaveSetsOfProviders, lasting, term_cmp, members, only, set_of, with_term}
use Rattle.attestations.proofs.SetOfLemmas.{each_member, in_set, keys_listed, same_keyed, set_of_sorted_list, set_pushed}

both_equal : (o r : Ordering) → ordering_then o r ≡ Equal → (o ≡ Equal) × (r ≡ Equal)
both_equal Less r e = absurd cc
both_equal Equal r e = (refl, e)
both_equal Greater r e = absurd cc

same_option : (a b : Option ℕ) → option_cmp nat_cmp a b ≡ Equal → a ≡ b
same_option None None e = refl
same_option None (Some y) e = absurd cc
same_option (Some x) None e = absurd cc
same_option (Some x) (Some y) e = ap Some (map.nat_cmp-IsAntisymmetric x y e)

-- attestations that the order doesn't tell apart are one
pub term_exact : CmpEqualImpliesEq term_cmp
term_exact a b e =
    let both = both_equal (option_cmp nat_cmp a.until b.until) (slice_cmp nat_cmp a.providers b.providers) e in
    λ i. record { providers = map.slice_cmp-IsAntisymmetric map.nat_cmp-IsAntisymmetric a.providers b.providers both.1 i; until = same_option a.until b.until both.0 i }

pub term_itself : (t : Term) → eq_by_cmp term_cmp t t ≡ true
term_itself t = ap is_eq (tied_itself term_total t)

terms_decide : (a b : Term) → Decides (eq_by_cmp term_cmp a b) (a ≡ b)
terms_decide a b = (λ e. term_exact a b ((Equal-is (term_cmp a b)).0 e), λ e. ap (eq_by_cmp term_cmp a) (sym e) ∙ term_itself a)

-- what `==` says of two lists
pub same_lists : (xs ys : List Term) (r : Bool) → r ≡ pointwise (eq_by_cmp term_cmp) xs ys → Decides r (xs ≡ ys)
same_lists xs ys r is = slice_eq-Decides terms_decide xs ys r is

-- the members of the set of a list that rises are the list
pub members_of_rising : (terms : List Term) → IsStrictlySortedBy term_cmp terms → members (set_of terms) ≡ terms
members_of_rising terms rising = keys_listed term_total terms rising

pub members_empty : members map.empty ≡ []
unfolding IsStrictlySortedBy
members_empty = keys_listed {R = term_cmp} term_total [] tt

pub one_rises : (t : Term) → IsStrictlySortedBy term_cmp (t ∷ [])
unfolding IsStrictlySortedBy
one_rises t = (tt, tt)

pub members_only : (t : Term) → members (only t) ≡ t ∷ []
members_only t = members_of_rising (t ∷ []) (one_rises t)

-- a set is that of its members
pub set_of_members : (terms : SetOfTerms) → set_of (members terms) ≡ terms
set_of_members terms = same_keyed term_total term_exact (set_of (members terms)) terms (λ q. in_set term_total (members terms) q ∙ sym (map.contains_key-keys terms q))

-- a list that was sorted, and then rid of repeats, has the same set
pub same_sorted : (xs ys zs : List Term) → IsPermutation xs ys → IsFiltered (DiffersFromLast (eq_by_cmp term_cmp)) [] ys zs → set_of zs ≡ set_of xs
same_sorted xs ys zs moved filtered = set_of_sorted_list term_total term_exact xs ys zs moved filtered

pub pushed : (terms : List Term) (term : Term) → set_of (terms ++ term ∷ []) ≡ with_term (set_of terms) term
pushed terms term = set_pushed term_total term_exact terms term

-- one more member
pub united : (terms : SetOfTerms) (term : Term) → set_of (members terms ++ term ∷ []) ≡ with_term terms term
united terms term = pushed (members terms) term ∙ ap (λ (s : SetOfTerms). with_term s term) (set_of_members terms)

pub sets_pushed : (terms : List Term) (term : Term) → HaveSetsOfProviders terms → IsStrictlyIncreasing term.providers → HaveSetsOfProviders (terms ++ term ∷ [])
sets_pushed [] term all ascends = (ascends, tt)
sets_pushed (t ∷ terms) term all ascends = (all.0, sets_pushed terms term all.1 ascends)

pub sets_of_list : (terms : List Term) → HaveSetsOfProviders terms → HaveSetsOfProviders (members (set_of terms))
sets_of_list terms all = each_member term_total (λ t. IsStrictlyIncreasing t.providers) terms all

pub sets_only : (t : Term) → IsStrictlyIncreasing t.providers → HaveSetsOfProviders (members (only t))
sets_only t ascends = sets_of_list (t ∷ []) (ascends, tt)

-- and back
pub only_ascends : (t : Term) → HaveSetsOfProviders (members (only t)) → IsStrictlyIncreasing t.providers
only_ascends t all = (subst HaveSetsOfProviders (members_only t) all).0

-- ---- one attestation that never ends

one_item : (terms : List Term) (t : Term) → t ≡ slice_index_or terms 0 t → 1 ≤ length terms → length terms < 2 → terms ≡ t ∷ []
one_item [] t is some one = absurd (omega arith)
one_item (u ∷ []) t is some one = ap (λ (x : Term). x ∷ []) (sym is)
one_item (u ∷ v ∷ us) t is some one = absurd (omega arith)

never_until : (o : Option ℕ) (r : Bool) → is_some o ≡ not r → r ≡ true → o ≡ None
never_until None r e f = refl
never_until (Some end) r e f = absurd cc

-- whether a list of one is a row's
pub row_alone : (terms : List Term) (t : Term) (row : List ℕ) (none same : Bool) → t ≡ slice_index_or terms 0 t → 1 ≤ length terms → length terms < 2
    → is_some t.until ≡ not none → none ≡ true → same ≡ pointwise nat_eq t.providers row → Decides same (terms ≡ lasting row ∷ [])
row_alone terms t row none same is some one until_is is_none compared =
    let rows = slice_eq-Decides Decides-eqb t.providers row same compared in
    let alone = one_item terms t is some one in
    let ends : t.until ≡ None = never_until t.until none until_is is_none in (
      λ e. alone ∙ (λ i. (record { providers = rows.0 e i; until = ends i }) ∷ []),
      λ e. rows.1 (ap (λ (ts : List Term). (slice_index_or ts 0 t).providers) (sym alone ∙ e)),
    )
