-- What is gathered: the first attestation of each customer is held apart from the others.
use Rattle.std.proofs.Common.{◌≡◌, ℕ, Bool, true, false, cond, List, [], ◌∷◌, ◌++◌, refl, ap, sym, ◌∙◌}
use Rattle.std.specs.declared.option.Option.{Option}
use Rattle.std.specs.declared.option.Option.TheVariants.{Some, None}
use Rattle.std.specs.Option.{option_map}
use Rattle.std.specs.Ordering.{nat_cmp, eq_by_cmp}
use Rattle.std.specs.Cmp.{Equal-is, nat_cmp_total}
use Rattle.std.specs.BTreeMap.{is_at}
use Rattle.std.specs.FinMap as map
use Rattle.std.specs.List.Sorted.{IsStrictlySortedBy}
use Rattle.std.specs.Map.{keys_of, lookup}
use Rattle.std.proofs.lemmas.List.{append-nil, append_assoc}
use Rattle.std.proofs.lemmas.Map.Keys.{sorted_tail}
use Rattle.attestations.specs.declared.term.Term.{Term}
use Rattle.attestations.specs.Gathered.{AreTermsOf, TermLists, list_or_none, with_gathered}
use Rattle.attestations.specs.Held.{gathered, in_order, with_list}
use Rattle.attestations.specs.Terms.{SetOfTerms, TermMap, members, only, set_of, terms_or_none}
use Rattle.attestations.proofs.EntryLemmas.{absent}
use Rattle.attestations.proofs.HeldLemmas.{MovesTo, found, moves_to}
use Rattle.attestations.proofs.TermLemmas.{members_empty, members_only, set_of_members}

-- the list of a customer, of its first attestation and the others
abbrev pub joined : Option SetOfTerms → Option (List Term) → Option (List Term)
joined None others = others
joined (Some terms) others = Some (members terms ++ list_or_none others)

same_key : (q k : ℕ) → eq_by_cmp nat_cmp q k ≡ true → q ≡ k
same_key q k e = map.nat_cmp-IsAntisymmetric q k ((Equal-is (nat_cmp q k)).0 e)

find-in_order : (others : List (ℕ × List Term)) (es : List (ℕ × SetOfTerms)) (q : ℕ) → map.find nat_cmp q (in_order others es) ≡ joined (map.find nat_cmp q es) (map.find nat_cmp q others)
find-in_order others [] q = refl
find-in_order others (e ∷ es) q = by_case (eq_by_cmp nat_cmp q e.0) refl (find-in_order others es q) where
  by_case : (b : Bool) → eq_by_cmp nat_cmp q e.0 ≡ b → map.find nat_cmp q (in_order others es) ≡ joined (map.find nat_cmp q es) (map.find nat_cmp q others)
      → cond b (Some (members e.1 ++ list_or_none (map.find nat_cmp e.0 others))) (map.find nat_cmp q (in_order others es)) ≡ joined (cond b (Some e.1) (map.find nat_cmp q es)) (map.find nat_cmp q others)
  by_case true is more = ap (λ (k : ℕ). Some (members e.1 ++ list_or_none (map.find nat_cmp k others))) (sym (same_key q e.0 is))
  by_case false is more = more

pub get-gathered : (firsts : TermMap) (others : List (ℕ × List Term)) (q : ℕ) → map.get (gathered firsts others) q ≡ joined (map.get firsts q) (map.find nat_cmp q others)
get-gathered firsts others q = map.get-from_entries nat_cmp_total (in_order others (map.entries firsts)) q ∙ find-in_order others (map.entries firsts) q
    ∙ ap (λ (o : Option SetOfTerms). joined o (map.find nat_cmp q others)) (sym (map.get-entries firsts q))

pub nothing_gathered : gathered map.empty [] ≡ map.empty
nothing_gathered = map.same_map nat_cmp_total map.nat_cmp-IsAntisymmetric _ _ (λ q. get-gathered map.empty [] q ∙ ap (λ (o : Option SetOfTerms). joined o None) (map.get-empty nat_cmp q) ∙ sym (map.get-empty nat_cmp q))

-- ---- one more

grown : (o : Option SetOfTerms) (others : Option (List Term)) (t : Term) → joined o (Some (list_or_none others ++ t ∷ [])) ≡ Some (list_or_none (joined o others) ++ t ∷ [])
grown None others t = refl
grown (Some terms) others t = ap Some (sym (append_assoc (members terms) (list_or_none others) (t ∷ [])))

-- after the first attestation of a customer, or after others
pub more_gathered : (firsts : TermMap) (others new : List (ℕ × List Term)) (k : ℕ) (t : Term) → MovesTo others k (Some (list_or_none (map.find nat_cmp k others) ++ t ∷ [])) new
    → gathered firsts new ≡ with_gathered (gathered firsts others) k t
more_gathered firsts others new k t moves = map.same_map nat_cmp_total map.nat_cmp-IsAntisymmetric _ _ (λ q.
    get-gathered firsts new q ∙ ap (joined (map.get firsts q)) (moves q) ∙ by_case q (eq_by_cmp nat_cmp q k) refl
    ∙ sym (map.get-insert nat_cmp_total (gathered firsts others) k (list_or_none (map.get (gathered firsts others) k) ++ t ∷ []) q)) where
      list : List Term
      list = list_or_none (map.find nat_cmp k others) ++ t ∷ []

      by_case : (q : ℕ) (b : Bool) → eq_by_cmp nat_cmp q k ≡ b → joined (map.get firsts q) (cond b (Some list) (map.find nat_cmp q others))
          ≡ cond b (Some (list_or_none (map.get (gathered firsts others) k) ++ t ∷ [])) (map.get (gathered firsts others) q)
      by_case q true is = ap (λ (x : ℕ). joined (map.get firsts x) (Some list)) (same_key q k is) ∙ grown (map.get firsts k) (map.find nat_cmp k others) t
          ∙ ap (λ (o : Option (List Term)). Some (list_or_none o ++ t ∷ [])) (sym (get-gathered firsts others k))
      by_case q false is = sym (get-gathered firsts others q)

-- the first of a customer of which there are no others
pub first_gathered : (firsts new : TermMap) (others : List (ℕ × List Term)) (k : ℕ) (t : Term) → map.get firsts k ≡ None → map.find nat_cmp k others ≡ None → new ≡ map.insert firsts k (only t)
    → gathered new others ≡ with_gathered (gathered firsts others) k t
first_gathered firsts new others k t no_first no_others is = map.same_map nat_cmp_total map.nat_cmp-IsAntisymmetric _ _ (λ q.
    get-gathered new others q
    ∙ ap (λ (o : Option SetOfTerms). joined o (map.find nat_cmp q others)) (ap (λ (m : TermMap). map.get m q) is ∙ map.get-insert nat_cmp_total firsts k (only t) q)
    ∙ by_case q (eq_by_cmp nat_cmp q k) refl
    ∙ sym (map.get-insert nat_cmp_total (gathered firsts others) k (list_or_none (map.get (gathered firsts others) k) ++ t ∷ []) q)) where
      none : map.get (gathered firsts others) k ≡ None
      none = get-gathered firsts others k ∙ (λ i. joined (no_first i) (no_others i))

      by_case : (q : ℕ) (b : Bool) → eq_by_cmp nat_cmp q k ≡ b → joined (cond b (Some (only t)) (map.get firsts q)) (map.find nat_cmp q others)
          ≡ cond b (Some (list_or_none (map.get (gathered firsts others) k) ++ t ∷ [])) (map.get (gathered firsts others) q)
      by_case q true is = (λ i. Some (members_only t i ++ list_or_none ((ap (λ (x : ℕ). map.find nat_cmp x others) (same_key q k is) ∙ no_others) i)))
          ∙ ap (λ (o : Option (List Term)). Some (list_or_none o ++ t ∷ [])) (sym none)
      by_case q false is = sym (get-gathered firsts others q)

-- what std says of a list that grew, or of one that was begun
pub appended : (firsts : TermMap) (others new : List (ℕ × List Term)) (k : ℕ) (t : Term) (list now : List Term) (whole : TermLists)
    → ((q : ℕ) → lookup (is_at (nat_cmp q)) new ≡ cond (is_at (nat_cmp k) q) (Some now) (lookup (is_at (nat_cmp q)) others))
    → now ≡ list ++ t ∷ [] → list_or_none (lookup (is_at (nat_cmp k)) others) ≡ list → gathered firsts others ≡ whole → gathered firsts new ≡ with_gathered whole k t
appended firsts others new k t list now whole updates is was whole_is = more_gathered firsts others new k t (λ q. moves_to others new k (Some now) updates q
    ∙ ap (λ (ts : List Term). cond (eq_by_cmp nat_cmp q k) (Some ts) (map.find nat_cmp q others)) (is ∙ ap (λ (ts : List Term). ts ++ t ∷ []) (sym was ∙ ap list_or_none (sym (found others k)))))
    ∙ ap (λ (m : TermLists). with_gathered m k t) whole_is

pub begun : (firsts new : TermMap) (others : List (ℕ × List Term)) (k : ℕ) (t s : Term) (whole : TermLists) → map.get firsts k ≡ None → lookup (is_at (nat_cmp k)) others ≡ None
    → new ≡ map.insert firsts k (only s) → s ≡ t → gathered firsts others ≡ whole → gathered new others ≡ with_gathered whole k t
begun firsts new others k t s whole no_first no_others is same whole_is =
    first_gathered firsts new others k t no_first (found others k ∙ no_others) (is ∙ ap (λ (u : Term). map.insert firsts k (only u)) same)
    ∙ ap (λ (m : TermLists). with_gathered m k t) whole_is

-- ---- the sets

-- the set of a customer's attestations, where a list is added
abbrev pub added : Option SetOfTerms → Option (List Term) → Option SetOfTerms
added terms None = terms
added terms (Some list) = Some (set_of (members (terms_or_none terms) ++ list))

-- what is left of the lists is still to be added
pub record Adding (firsts : TermMap) (entries left : List (ℕ × List Term)) (now : TermMap) : Type 0 where
  pub sorted : IsStrictlySortedBy nat_cmp (keys_of left)
  pub whole : (q : ℕ) → added (map.get now q) (map.find nat_cmp q left) ≡ added (map.get firsts q) (map.find nat_cmp q entries)

pub adding_start : (firsts : TermMap) (entries : List (ℕ × List Term)) → IsStrictlySortedBy nat_cmp (keys_of entries) → Adding firsts entries entries firsts
adding_start firsts entries sorted = record { sorted = sorted; whole = λ q. refl }

pub adding_next : (firsts : TermMap) (entries left : List (ℕ × List Term)) (now next : TermMap) (k : ℕ) (list : List Term) → Adding firsts entries ((k, list) ∷ left) now → next ≡ with_list now k list → Adding firsts entries left next
adding_next firsts entries left now next k list a is = record {
  sorted = sorted_tail nat_cmp k (keys_of left) a.sorted;
  whole = λ q. ap (λ (m : TermMap). added (map.get m q) (map.find nat_cmp q left)) is
      ∙ ap (λ (o : Option SetOfTerms). added o (map.find nat_cmp q left)) (map.get-insert nat_cmp_total now k set q)
      ∙ by_case q (eq_by_cmp nat_cmp q k) refl ∙ a.whole q;
} where
  set : SetOfTerms
  set = set_of (members (terms_or_none (map.get now k)) ++ list)

  by_case : (q : ℕ) (b : Bool) → eq_by_cmp nat_cmp q k ≡ b → added (cond b (Some set) (map.get now q)) (map.find nat_cmp q left) ≡ added (map.get now q) (cond b (Some list) (map.find nat_cmp q left))
  by_case q true t = ap (added (Some set)) (ap (λ (x : ℕ). map.find nat_cmp x left) (same_key q k t) ∙ absent k left a.sorted)
      ∙ ap (λ (x : ℕ). Some (set_of (members (terms_or_none (map.get now x)) ++ list))) (sym (same_key q k t))
  by_case q false t = refl

added_is : (o : Option SetOfTerms) (others : Option (List Term)) → added o others ≡ option_map set_of (joined o others)
added_is None None = refl
added_is None (Some list) = ap (λ (ts : List Term). Some (set_of (ts ++ list))) members_empty
added_is (Some terms) None = ap Some (sym (ap set_of (append-nil (members terms)) ∙ set_of_members terms))
added_is (Some terms) (Some list) = refl

pub adding_end : (firsts : TermMap) (entries : List (ℕ × List Term)) (whole : TermLists) (now : TermMap) → gathered firsts entries ≡ whole → Adding firsts entries [] now → AreTermsOf whole now
adding_end firsts entries whole now is a q = a.whole q ∙ added_is (map.get firsts q) (map.find nat_cmp q entries)
    ∙ ap (option_map set_of) (sym (get-gathered firsts entries q) ∙ ap (λ (m : TermLists). map.get m q) is)
