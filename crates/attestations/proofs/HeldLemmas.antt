-- How attestations are held in three maps, of which each customer is in one at most.
use Rattle.std.proofs.Common.{◌≡◌, ℕ, nat_eq, Bool, true, false, cond, List, [], ◌∷◌, ◌++◌, is_some, refl, ap, sym, ◌∙◌, subst}
use Rattle.std.specs.declared.option.Option.{Option}
use Rattle.std.specs.declared.option.Option.TheVariants.{Some, None}
use Rattle.std.specs.Option.{option_map}
use Rattle.std.specs.Ordering.{nat_cmp, eq_by_cmp}
use Rattle.std.specs.BTreeMap.{is_at}
use Rattle.std.specs.Map.{lookup, keys_of}
use Rattle.std.specs.Cmp.{nat_cmp_total, eq_by_cmp_equiv}
use Rattle.std.specs.FinMap as map
use Rattle.std.specs.List.{IsDistinct}
use Rattle.std.specs.List.Sorted.{IsStrictlyIncreasing, IsStrictlySortedBy}
use Rattle.path_model.specs.Rows.{HaveSets, RowMap, SetsRow}
use Rattle.path_model.specs.Sets.{IsSetOf}
use Rattle.path_model.proofs.MapLemmas.{get_rows}
use Rattle.path_model.proofs.UnionLawLemmas.{one_set}
use Rattle.attestations.specs.declared.term.Term.{Term}
use Rattle.attestations.specs.Entries.{AreEntriesOf}
use Rattle.attestations.specs.Held.{IsHeld, held}
use Rattle.attestations.specs.Terms.{SetOfTerms, HaveSetsOfProviders, each, lasting, members, never_ending, only, set_of, term_cmp, terms_of, terms_or_none}
use Rattle.attestations.proofs.EntryLemmas.{each_never_ends, first, find-append, find-each, distinct_append, distinct_each}
use Rattle.attestations.proofs.TermLemmas.{members_empty, members_of_rising, members_only, sets_only}

-- what the three have of a customer
abbrev pub of_three : Option (List ℕ) → Option Term → Option SetOfTerms → Option SetOfTerms
of_three row single many = first (option_map never_ending row) (first (option_map only single) many)

pub get-held : (rows : RowMap) (single : List (ℕ × Term)) (many : List (ℕ × SetOfTerms)) (q : ℕ)
    → map.get (held rows single many) q ≡ of_three (map.get rows q) (map.find nat_cmp q single) (map.find nat_cmp q many)
get-held rows single many q =
    map.get-from_entries nat_cmp_total (each never_ending (map.entries rows) ++ (each only single ++ many)) q
    ∙ find-append q (each never_ending (map.entries rows)) (each only single ++ many)
    ∙ (λ i. first (of_rows i) (of_others i)) where
      of_rows : map.find nat_cmp q (each never_ending (map.entries rows)) ≡ option_map never_ending (map.get rows q)
      of_rows = find-each never_ending q (map.entries rows) ∙ ap (option_map never_ending) (sym (map.get-entries rows q))

      of_others : map.find nat_cmp q (each only single ++ many) ≡ first (option_map only (map.find nat_cmp q single)) (map.find nat_cmp q many)
      of_others = find-append q (each only single) many ∙ ap (λ (o : Option SetOfTerms). first o (map.find nat_cmp q many)) (find-each only q single)

-- ---- one customer is moved

-- the same but at one customer
abbrev pub MovesTo : {X : Type 0} → List (ℕ × X) → ℕ → Option X → List (ℕ × X) → Type 0
MovesTo old k o new = (q : ℕ) → map.find nat_cmp q new ≡ cond (eq_by_cmp nat_cmp q k) o (map.find nat_cmp q old)

-- the same for rows
abbrev pub MovesRowTo : RowMap → ℕ → Option (List ℕ) → RowMap → Type 0
MovesRowTo old k o new = (q : ℕ) → map.get new q ≡ cond (eq_by_cmp nat_cmp q k) o (map.get old q)

pub found : {X : Type 0} (es : List (ℕ × X)) (q : ℕ) → map.find nat_cmp q es ≡ lookup (is_at (nat_cmp q)) es
found es q = sym (map.get-from_entries nat_cmp_total es q) ∙ get_rows es q

-- what std says of a map in which one key was inserted or removed
pub moves_to : {X : Type 0} (old new : List (ℕ × X)) (k : ℕ) (o : Option X)
    → ((q : ℕ) → lookup (is_at (nat_cmp q)) new ≡ cond (is_at (nat_cmp k) q) o (lookup (is_at (nat_cmp q)) old)) → MovesTo old k o new
moves_to old new k o h q = found new q ∙ h q ∙ ap (λ b. cond b o (lookup (is_at (nat_cmp q)) old)) ((eq_by_cmp_equiv nat_cmp_total).symm k q)
    ∙ ap (cond (eq_by_cmp nat_cmp q k) o) (sym (found old q))

-- the set of a list that is one is the list
pub set_itself : (list set : List ℕ) → IsStrictlyIncreasing list → IsSetOf list set → set ≡ list
set_itself list set ascends is = one_set list set list is (record { ascending = ascends; within = λ x h. h; all = λ x h. h })

pub row_set : (old new : RowMap) (k : ℕ) (row : List ℕ) → IsStrictlyIncreasing row → SetsRow old k row new → MovesRowTo old k (Some row) new
row_set old new k row ascends sets q = ap (λ (m : RowMap). map.get m q) sets.whole ∙ map.get-insert nat_cmp_total old k sets.row q
    ∙ ap (λ (r : List ℕ). cond (eq_by_cmp nat_cmp q k) (Some r) (map.get old q)) (set_itself row sets.row ascends sets.is_set)

pub row_removed : (old new : RowMap) (k : ℕ) → new ≡ map.remove old k → MovesRowTo old k None new
row_removed old new k is q = ap (λ (m : RowMap). map.get m q) is ∙ map.get-remove nat_cmp_total old k q

three_moved : (b : Bool) (r r0 : Option (List ℕ)) (s s0 : Option Term) (m m0 : Option SetOfTerms)
    → of_three (cond b r r0) (cond b s s0) (cond b m m0) ≡ cond b (of_three r s m) (of_three r0 s0 m0)
three_moved true r r0 s s0 m m0 = refl
three_moved false r r0 s s0 m m0 = refl

apart_moved : {X Y : Type 0} (b : Bool) (r r0 : Option X) (s s0 : Option Y) → (is_some r ≡ true → s ≡ None) → (is_some r0 ≡ true → s0 ≡ None) → is_some (cond b r r0) ≡ true → cond b s s0 ≡ None
apart_moved true r r0 s s0 here there e = here e
apart_moved false r r0 s s0 here there e = there e

sets_moved : (b : Bool) (o o0 : Option SetOfTerms) → HaveSetsOfProviders (members (terms_or_none o)) → HaveSetsOfProviders (members (terms_or_none o0)) → HaveSetsOfProviders (members (terms_or_none (cond b o o0)))
sets_moved true o o0 here there = here
sets_moved false o o0 here there = there

pub sets_none : HaveSetsOfProviders (members (terms_or_none None))
sets_none = subst HaveSetsOfProviders (sym members_empty) tt

module _ (rows : RowMap) (single : List (ℕ × Term)) (many : List (ℕ × SetOfTerms)) (rows' : RowMap) (single' : List (ℕ × Term)) (many' : List (ℕ × SetOfTerms))
    (k : ℕ) (r : Option (List ℕ)) (s : Option Term) (m : Option SetOfTerms)
    (of_rows : MovesRowTo rows k r rows') (of_single : MovesTo single k s single') (of_many : MovesTo many k m many') where
  moved : (q : ℕ) → map.get (held rows' single' many') q ≡ cond (eq_by_cmp nat_cmp q k) (of_three r s m) (map.get (held rows single many) q)
  moved q = get-held rows' single' many' q
      ∙ (λ i. of_three (of_rows q i) (of_single q i) (of_many q i))
      ∙ three_moved (eq_by_cmp nat_cmp q k) r (map.get rows q) s (map.find nat_cmp q single) m (map.find nat_cmp q many)
      ∙ ap (cond (eq_by_cmp nat_cmp q k) (of_three r s m)) (sym (get-held rows single many q))

  -- the customer has these attestations now
  pub held_inserted : (terms : SetOfTerms) → of_three r s m ≡ Some terms → held rows' single' many' ≡ map.insert (held rows single many) k terms
  held_inserted terms is = map.same_map nat_cmp_total map.nat_cmp-IsAntisymmetric _ _ (λ q. moved q
      ∙ ap (λ (o : Option SetOfTerms). cond (eq_by_cmp nat_cmp q k) o (map.get (held rows single many) q)) is
      ∙ sym (map.get-insert nat_cmp_total (held rows single many) k terms q))

  -- the customer has none
  pub held_removed : of_three r s m ≡ None → held rows' single' many' ≡ map.remove (held rows single many) k
  held_removed is = map.same_map nat_cmp_total map.nat_cmp-IsAntisymmetric _ _ (λ q. moved q
      ∙ ap (λ (o : Option SetOfTerms). cond (eq_by_cmp nat_cmp q k) o (map.get (held rows single many) q)) is
      ∙ sym (map.get-remove nat_cmp_total (held rows single many) k q))

  -- it is in one of the three at most
  pub still_held : IsHeld rows single many → (is_some r ≡ true → s ≡ None) → (is_some r ≡ true → m ≡ None) → (is_some s ≡ true → m ≡ None)
      → HaveSetsOfProviders (members (terms_or_none (of_three r s m))) → IsHeld rows' single' many'
  still_held h a b c sets = record {
    not_single = λ q e. of_single q ∙ apart_moved (eq_by_cmp nat_cmp q k) r (map.get rows q) s (map.find nat_cmp q single) a (h.not_single q) (sym (ap is_some (of_rows q)) ∙ e);
    not_many = λ q e. of_many q ∙ apart_moved (eq_by_cmp nat_cmp q k) r (map.get rows q) m (map.find nat_cmp q many) b (h.not_many q) (sym (ap is_some (of_rows q)) ∙ e);
    one_or_many = λ q e. of_many q ∙ apart_moved (eq_by_cmp nat_cmp q k) s (map.find nat_cmp q single) m (map.find nat_cmp q many) c (h.one_or_many q) (sym (ap is_some (of_single q)) ∙ e);
    sets = λ q. subst (λ (o : Option SetOfTerms). HaveSetsOfProviders (members (terms_or_none o))) (sym (moved q))
        (sets_moved (eq_by_cmp nat_cmp q k) (of_three r s m) (map.get (held rows single many) q) sets (h.sets q));
  }

-- ---- rows alone

pub held_rows : (rows : RowMap) → held rows [] [] ≡ terms_of rows
held_rows rows = map.same_map nat_cmp_total map.nat_cmp-IsAntisymmetric _ _ (λ q. get-held rows [] [] q ∙ alone (map.get rows q) ∙ sym (each_never_ends rows q)) where
  alone : (o : Option (List ℕ)) → of_three o None None ≡ option_map never_ending o
  alone None = refl
  alone (Some row) = refl

-- ---- what is lent

-- what is lent of a customer is the list of its attestations
pub lent : (list : List Term) (o : Option SetOfTerms) → IsStrictlySortedBy term_cmp list → Some (set_of list) ≡ o → list ≡ members (terms_or_none o)
lent list o rises is = sym (members_of_rising list rises) ∙ ap (λ (p : Option SetOfTerms). members (terms_or_none p)) is

listed_three : (row : Option (List ℕ)) (single : Option Term) (many : Option SetOfTerms)
    → first (option_map (λ r. lasting r ∷ []) row) (first (option_map (λ t. t ∷ []) single) (option_map members many)) ≡ option_map members (of_three row single many)
listed_three (Some row) single many = ap Some (sym (members_only (lasting row)))
listed_three None (Some term) many = ap Some (sym (members_only term))
listed_three None None (Some terms) = refl
listed_three None None None = refl

-- the three lists of entries, one after another
abbrev pub three_entries : List (ℕ × List ℕ) → List (ℕ × Term) → List (ℕ × SetOfTerms) → List (ℕ × List Term)
three_entries rows single many = each (λ row. lasting row ∷ []) rows ++ (each (λ t. t ∷ []) single ++ each members many)

pub entries_whole : (rows : RowMap) (listed : List (ℕ × List ℕ)) (single : List (ℕ × Term)) (many : List (ℕ × SetOfTerms)) → map.from_entries listed ≡ rows
    → AreEntriesOf (held rows single many) (three_entries listed single many)
entries_whole rows listed single many is q =
    find-append q (each (λ row. lasting row ∷ []) listed) (each (λ t. t ∷ []) single ++ each members many)
    ∙ (λ i. first (of_rows i) (of_others i))
    ∙ listed_three (map.get rows q) (map.find nat_cmp q single) (map.find nat_cmp q many)
    ∙ ap (option_map members) (sym (get-held rows single many q)) where
      of_rows : map.find nat_cmp q (each (λ row. lasting row ∷ []) listed) ≡ option_map (λ row. lasting row ∷ []) (map.get rows q)
      of_rows = find-each (λ row. lasting row ∷ []) q listed
          ∙ ap (option_map (λ row. lasting row ∷ [])) (sym (map.get-from_entries nat_cmp_total listed q) ∙ ap (λ (m : RowMap). map.get m q) is)

      of_others : map.find nat_cmp q (each (λ t. t ∷ []) single ++ each members many) ≡ first (option_map (λ t. t ∷ []) (map.find nat_cmp q single)) (option_map members (map.find nat_cmp q many))
      of_others = find-append q (each (λ t. t ∷ []) single) (each members many)
          ∙ (λ i. first (find-each (λ t. t ∷ []) q single i) (find-each members q many i))

is_some_map : {X Y : Type 0} (f : X → Y) (o : Option X) → is_some (option_map f o) ≡ is_some o
is_some_map f None = refl
is_some_map f (Some x) = refl

-- each customer stands once in them
pub entries_once : (rows : RowMap) (listed : List (ℕ × List ℕ)) (single : List (ℕ × Term)) (many : List (ℕ × SetOfTerms)) → map.from_entries listed ≡ rows → IsHeld rows single many
    → IsStrictlySortedBy nat_cmp (keys_of listed) → IsStrictlySortedBy nat_cmp (keys_of single) → IsStrictlySortedBy nat_cmp (keys_of many)
    → IsDistinct nat_eq (keys_of (three_entries listed single many))
entries_once rows listed single many is h a b c =
    distinct_append (each (λ row. lasting row ∷ []) listed) (each (λ t. t ∷ []) single ++ each members many)
    (distinct_each (λ row. lasting row ∷ []) listed a)
    (distinct_append (each (λ t. t ∷ []) single) (each members many) (distinct_each (λ t. t ∷ []) single b) (distinct_each members many c)
    (λ q s. find-each members q many ∙ ap (option_map members) (h.one_or_many q (single_some q s))))
    (λ q s. find-append q (each (λ t. t ∷ []) single) (each members many)
    ∙ (λ i. first ((find-each (λ t. t ∷ []) q single ∙ ap (option_map (λ t. t ∷ [])) (h.not_single q (row_some q s))) i)
    ((find-each members q many ∙ ap (option_map members) (h.not_many q (row_some q s))) i))) where
      single_some : (q : ℕ) → is_some (map.find nat_cmp q (each (λ t. t ∷ []) single)) ≡ true → is_some (map.find nat_cmp q single) ≡ true
      single_some q s = sym (ap is_some (find-each (λ t. t ∷ []) q single) ∙ is_some_map (λ t. t ∷ []) (map.find nat_cmp q single)) ∙ s

      row_some : (q : ℕ) → is_some (map.find nat_cmp q (each (λ row. lasting row ∷ []) listed)) ≡ true → is_some (map.get rows q) ≡ true
      row_some q s = sym (ap is_some (find-each (λ row. lasting row ∷ []) q listed) ∙ is_some_map (λ row. lasting row ∷ []) (map.find nat_cmp q listed)
          ∙ ap is_some (sym (map.get-from_entries nat_cmp_total listed q) ∙ ap (λ (m : RowMap). map.get m q) is)) ∙ s

pub never : {P : Type 0} → false ≡ true → P
never e = absurd cc

pub rows_held : (rows : RowMap) → HaveSets rows → IsHeld rows [] []
rows_held rows h = record {
  not_single = λ q e. refl;
  not_many = λ q e. refl;
  one_or_many = λ q e. refl;
  sets = λ q. subst (λ (o : Option SetOfTerms). HaveSetsOfProviders (members (terms_or_none o))) (sym (get-held rows [] [] q)) (of_row (map.get rows q) (h.ascending q));
} where
  of_row : (o : Option (List ℕ)) → ((row : List ℕ) → o ≡ Some row → IsStrictlyIncreasing row) → HaveSetsOfProviders (members (terms_or_none (of_three o None None)))
  of_row None each = sets_none
  of_row (Some row) each = sets_only (lasting row) (each row refl)
