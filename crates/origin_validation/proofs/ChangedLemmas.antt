-- What is held is right still where the payloads of a source changed, or the filters and the assertions.
use Rattle.std.proofs.Common.{◌≡◌, ℕ, true, Bool, false, cond, List, [], ◌∷◌, Some, sym, ap, ◌∙◌, ◌⊎◌, inl, inr, true≢false}
use Rattle.std.specs.declared.cmp.Ordering.{Ordering}
use Rattle.std.specs.declared.cmp.Ordering.TheVariants.{Less, Equal, Greater}
use Rattle.std.specs.declared.option.Option.{Option}
use Rattle.std.specs.BTreeMap.{insert_entry, is_at}
use Rattle.std.specs.Cmp.Lexicographic.{slice_cmp}
use Rattle.std.specs.Ordering.{is_eq, match_ordering, nat_cmp}
use Rattle.origin_model.specs.declared.prefix_filter.PrefixFilter.{PrefixFilter}
use Rattle.origin_model.specs.Current.{Parts, IsGiven}
use Rattle.origin_model.specs.Vrp.{Payload}
use Rattle.origin_model.specs.VrpSet.{has}
use Rattle.origin_validation.specs.Held.{Pair, Entries, AreRight, IsUnhitByAll, Keeps, SameHave}
use Rattle.origin_validation.specs.Records.{or_none, source_of, with_source}
use Rattle.origin_validation.proofs.HeldLemmas.{keeps_then, kept_right}

-- ---- a source

abbrev Named : Type 0
Named = List (List ℕ × List Payload)

abbrev name_cmp : List ℕ → List ℕ → Ordering
name_cmp = slice_cmp nat_cmp

found_by : (b : Bool) (v : Payload) (payloads : List Payload) (o : Option (List Payload)) (more : Named) → (has (or_none o) v ≡ true → IsGiven more v)
    → has (or_none (cond b (Some payloads) o)) v ≡ true → (has payloads v ≡ true) ⊎ IsGiven more v
found_by true v payloads o more later h = inl h
found_by false v payloads o more later h = inr (later h)

-- what the source had was given
found_given : (name : List ℕ) (v : Payload) (sources : Named) → has (or_none (source_of sources name)) v ≡ true → IsGiven sources v
found_given name v [] h = absurd (true≢false (sym h))
found_given name v (s ∷ ss) h = found_by (is_at (name_cmp name) s.0) v s.1 (source_of ss name) ss (found_given name v ss) h

-- a payload that the source had and has, or neither
module _ (name : List ℕ) (set : List Payload) (v : Payload) where
  abbrev Still : Option (List Payload) → Type 0
  Still o = has (or_none o) v ≡ true → has set v ≡ true

  abbrev Back : Option (List Payload) → Type 0
  Back o = has set v ≡ true → has (or_none o) v ≡ true

  still_by : (o : Ordering) (s : List ℕ × List Payload) (ss rest : Named) → Still (cond (is_eq o) (Some s.1) (source_of ss name)) → (Still (source_of ss name) → IsGiven ss v → IsGiven rest v)
      → (has s.1 v ≡ true) ⊎ IsGiven ss v → IsGiven (match_ordering o ((name, set) ∷ s ∷ ss) ((s.0, set) ∷ ss) (s ∷ rest)) v
  still_by Less s ss rest still more given = inr given
  still_by Equal s ss rest still more (inl here) = inl (still here)
  still_by Equal s ss rest still more (inr later) = inr later
  still_by Greater s ss rest still more (inl here) = inl here
  still_by Greater s ss rest still more (inr later) = inr (more still later)

  given_still : (sources : Named) → Still (source_of sources name) → IsGiven sources v → IsGiven (insert_entry name_cmp sources name set) v
  given_still [] still given = absurd given
  given_still (s ∷ ss) still given = still_by (name_cmp name s.0) s ss (insert_entry name_cmp ss name set) still (given_still ss) given

  back_by : (o : Ordering) (s : List ℕ × List Payload) (ss rest : Named) → Back (cond (is_eq o) (Some s.1) (source_of ss name)) → (Back (source_of ss name) → IsGiven rest v → IsGiven ss v)
      → (has (or_none (cond (is_eq o) (Some s.1) (source_of ss name))) v ≡ true → (has s.1 v ≡ true) ⊎ IsGiven ss v)
      → IsGiven (match_ordering o ((name, set) ∷ s ∷ ss) ((s.0, set) ∷ ss) (s ∷ rest)) v → (has s.1 v ≡ true) ⊎ IsGiven ss v
  back_by Less s ss rest back more found (inl here) = found (back here)
  back_by Less s ss rest back more found (inr later) = later
  back_by Equal s ss rest back more found (inl here) = inl (back here)
  back_by Equal s ss rest back more found (inr later) = inr later
  back_by Greater s ss rest back more found (inl here) = inl here
  back_by Greater s ss rest back more found (inr later) = inr (more back later)

  given_back : (sources : Named) → Back (source_of sources name) → IsGiven (insert_entry name_cmp sources name set) v → IsGiven sources v
  given_back [] back given = elim given [ inl here ↦ absurd (true≢false (sym (back here))) | inr none ↦ none ]
  given_back (s ∷ ss) back given = back_by (name_cmp name s.0) s ss (insert_entry name_cmp ss name set) back (given_back ss) (found_given name v (s ∷ ss)) given

pub replaced_right : (old : Parts) (name : List ℕ) (set before : List Payload) (es fs : Entries) → before ≡ or_none (source_of old.sources name) → AreRight old es → Keeps (SameHave before set) es fs
    → AreRight (with_source old name set) fs
replaced_right old name set before es fs was right k = kept_right old (with_source old name set) es fs (SameHave before set) right k
    (λ p same. (
      λ v covers cur. elim cur [
        | inl g ↦ inl (given_still name set v old.sources (λ h. same.to v covers (ap (λ (vs : List Payload). has vs v) was ∙ h)) g.0, g.1)
        | inr a ↦ inr a
      ],
      λ v covers cur. elim cur [
        | inl g ↦ inl (given_back name set v old.sources (λ h. ap (λ (vs : List Payload). has vs v) (sym was) ∙ same.from v covers h) g.0, g.1)
        | inr a ↦ inr a
      ],
    ))

-- ---- a SLURM file

-- what a SLURM file leaves alone
abbrev pub IsSlurmQuiet : Parts → List PrefixFilter → List Payload → Pair → Type 0
IsSlurmQuiet old filters assertions p = (SameHave old.assertions assertions p × IsUnhitByAll old.filters p) × IsUnhitByAll filters p

pub amended_right : (old : Parts) (filters : List PrefixFilter) (assertions : List Payload) (es fs gs hs : Entries) → AreRight old es → Keeps (SameHave old.assertions assertions) es fs
    → Keeps (IsUnhitByAll old.filters) fs gs → Keeps (IsUnhitByAll filters) gs hs → AreRight (record old { filters = filters; assertions = assertions }) hs
amended_right old filters assertions es fs gs hs right f g h = kept_right old (record old { filters = filters; assertions = assertions }) es hs (IsSlurmQuiet old filters assertions) right
    (keeps_then (λ p. SameHave old.assertions assertions p × IsUnhitByAll old.filters p) (IsUnhitByAll filters) es gs hs
    (keeps_then (SameHave old.assertions assertions) (IsUnhitByAll old.filters) es fs gs f g) h)
    (λ p quiet. (
      λ v covers cur. elim cur [ inl given ↦ inl (given.0, quiet.1 v covers) | inr a ↦ inr (quiet.0.0.to v covers a) ],
      λ v covers cur. elim cur [ inl given ↦ inl (given.0, quiet.0.1 v covers) | inr a ↦ inr (quiet.0.0.from v covers a) ],
    ))
