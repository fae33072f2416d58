-- The lines of `attests`, performed from the start, come to the same current table.
use Rattle.std.proofs.Common.{◌≡◌, ◌≢◌, inl, inr, ℕ, nat_eq, Bool, true, false, cond, List, [], ◌∷◌, ◌++◌, map, flat_map, Some, None, refl, sym, ap, subst, ◌∙◌}
use Rattle.std.specs.FinMap as fin
use Rattle.std.specs.BTreeMap.{is_at}
use Rattle.std.specs.Cmp.{nat_cmp_total, nat_eq_equiv, unsigned_tied}
use Rattle.std.specs.List.{All, AllByRecursion, concat}
use Rattle.std.specs.List.Sorted.{IsStrictlySortedBy}
use Rattle.std.specs.Map.{keys_of}
use Rattle.std.specs.Option.{option_map}
use Rattle.std.specs.Ordering.{nat_cmp}
use Rattle.std.specs.declared.cmp.Ordering.TheVariants.{Less}
use Rattle.std.specs.declared.option.Option.{Option}
use Rattle.std.proofs.lemmas.Bool.Decides.{eqb_tells}
use Rattle.std.proofs.lemmas.List.{append-nil, append_assoc}
use Rattle.std.proofs.lemmas.List.Elements.{All-head, All-tail}
use Rattle.std.proofs.lemmas.Map.Keys.{sorted_from_strictly_increasing, sorted_head, sorted_tail}
use Rattle.path_model.specs.Authority.{has}
use Rattle.path_model.specs.Ascending.{ascending_of}
use Rattle.path_model.specs.Rows.{RowMap, Unites, row_or_empty}
use Rattle.path_model.specs.Sets.{IsSetOf}
use Rattle.attestations.specs.CurrentTable.{GoesIn, IsCurrentRow, Parts, no_parts}
use Rattle.attestations.proofs.EntryLemmas.{absent}
use Rattle.attestations.proofs.PartsLemmas.{one_row}
use Rattle.vap_table.proofs.MemberLemmas.{one_set, set_of_ascending, set_of_members}
use Rattle.report_text.specs.Assertions.{named}
use Rattle.listings.specs.Attests.{AreAttested, AreGroups, Grouped, rows_under}
use Rattle.listings.specs.Laws.{AttestsRestore, Performs}
use Rattle.listings.proofs.EntriesLemmas.{in_order}

abbrev Lines : Type 0
Lines = List (ℕ × List ℕ)

-- ---- by the assertions alone

-- each of these is united with what is asserted
abbrev Asserts : RowMap → Lines → RowMap → Type 0
Asserts old [] new = new ≡ old
Asserts old (row ∷ rows) new = (next : RowMap) × Unites old row.0 (named row.1) next × Asserts next rows new

-- the parts with these assertions
abbrev with_all : Parts → RowMap → Parts
with_all parts rows = record parts { assertions = rows }

-- what was performed
record Performed (old : Parts) (rows : Lines) (new : Parts) : Type 0 where
  all : RowMap
  asserts : Asserts old.assertions rows all
  are : new ≡ with_all old all

performed : (old : Parts) (rows : Lines) (new : Parts) → Performs old rows new → Performed old rows new
performed old [] new is = record { all = old.assertions; asserts = refl; are = is }
performed old (row ∷ rows) new (next, (m, unites, is), more) =
    let rest = performed next rows new more in
    record {
      all = rest.all;
      asserts = (m, unites, subst (λ (p : Parts). Asserts p.assertions rows rest.all) is rest.asserts);
      are = rest.are ∙ ap (λ (p : Parts). with_all p rest.all) is;
    }

united : (old : RowMap) (x : ℕ) (list : List ℕ) → (new : RowMap) × Unites old x list new
united old x list =
    let row = ascending_of (row_or_empty (fin.get old x) ++ list) in
    (fin.insert old x row, record { row = row; is_set = set_of_ascending (row_or_empty (fin.get old x) ++ list); whole = refl })

some_performed : (old : Parts) (rows : Lines) → (new : Parts) × Performs old rows new
some_performed old [] = (old, refl)
some_performed old (row ∷ rows) =
    let first = united old.assertions row.0 (named row.1) in
    let next = with_all old first.0 in
    let rest = some_performed next rows in
    (rest.0, (next, (first.0, first.1, refl), rest.1))

-- ---- rising lists

front_rises : (xs ys : List ℕ) → IsStrictlySortedBy nat_cmp (xs ++ ys) → IsStrictlySortedBy nat_cmp xs
unfolding IsStrictlySortedBy
front_rises [] ys rises = tt
front_rises (x ∷ xs) ys rises = (below xs (sorted_head nat_cmp x (xs ++ ys) rises), front_rises xs ys (sorted_tail nat_cmp x (xs ++ ys) rises)) where
  below : (zs : List ℕ) → AllByRecursion (λ y. nat_cmp x y ≡ Less) (zs ++ ys) → AllByRecursion (λ y. nat_cmp x y ≡ Less) zs
  below [] each = tt
  below (z ∷ zs) each = (each.0, below zs each.1)

-- a rising list is its own set
own_set : (list set : List ℕ) → IsStrictlySortedBy nat_cmp list → IsSetOf list set → set ≡ list
own_set list set rises is = one_set list list set (set_of_members list list rises (λ q. refl)) is

-- ---- what is asserted of a customer

-- these rows are left, the customer has this row, and the others have what they had
record Mid (old : RowMap) (customer : ℕ) (row : List ℕ) (rest : Lines) (new : RowMap) : Type 0 where
  mid : RowMap
  more : Asserts mid rest new
  here : fin.get mid customer ≡ Some row
  others : (q : ℕ) → nat_eq customer q ≡ false → fin.get mid q ≡ fin.get old q

at_itself : (x : ℕ) → is_at (nat_cmp x) x ≡ true
at_itself x = unsigned_tied x x ∙ nat_eq_equiv.refl x

at_other : (x q : ℕ) → nat_eq x q ≡ false → is_at (nat_cmp q) x ≡ false
at_other x q other = unsigned_tied q x ∙ nat_eq_equiv.symm q x ∙ other

placed : (old : RowMap) (customer : ℕ) (row : List ℕ) → fin.get (fin.insert old customer row) customer ≡ Some row
placed old customer row = fin.get-insert nat_cmp_total old customer row customer ∙ ap (λ (b : Bool). cond b (Some row) (fin.get old customer)) (at_itself customer)

passed : (old : RowMap) (customer : ℕ) (row : List ℕ) (q : ℕ) → nat_eq customer q ≡ false → fin.get (fin.insert old customer row) q ≡ fin.get old q
passed old customer row q other = fin.get-insert nat_cmp_total old customer row q ∙ ap (λ (b : Bool). cond b (Some row) (fin.get old q)) (at_other customer q other)

-- one more group
one_more : (old next : RowMap) (customer : ℕ) (front list : List ℕ) → row_or_empty (fin.get old customer) ≡ front → IsStrictlySortedBy nat_cmp (front ++ list) → Unites old customer list next
    → next ≡ fin.insert old customer (front ++ list)
one_more old next customer front list had rises unites =
    unites.whole ∙ ap (fin.insert old customer) (own_set (front ++ list) unites.row rises (subst (λ (xs : List ℕ). IsSetOf (xs ++ list) unites.row) had unites.is_set))

abbrev under : ℕ → List (List ℕ) → Lines
under customer groups = map (λ group. (customer, group)) groups

named_some : (group : List ℕ) → group ≢ [] → named group ≡ group
named_some [] some = absurd (some refl)
named_some (p ∷ ps) some = refl

more_groups : (customer : ℕ) (front : List ℕ) (groups : List (List ℕ)) (old new : RowMap) (rest : Lines) → fin.get old customer ≡ Some front
    → IsStrictlySortedBy nat_cmp (front ++ concat groups) → All (λ group. group ≢ []) groups → Asserts old (under customer groups ++ rest) new
    → Mid old customer (front ++ concat groups) rest new
more_groups customer front [] old new rest has rises some asserts =
    record { mid = old; more = asserts; here = has ∙ ap (λ (xs : List ℕ). Some xs) (sym (append-nil front)); others = λ q other. refl }
more_groups customer front (group ∷ groups) old new rest has rises some (next, unites, asserts) =
    let joined : (front ++ group) ++ concat groups ≡ front ++ concat (group ∷ groups) = append_assoc front group (concat groups) in
    let all_rise : IsStrictlySortedBy nat_cmp ((front ++ group) ++ concat groups) = subst (IsStrictlySortedBy nat_cmp) (sym joined) rises in
    let is : next ≡ fin.insert old customer (front ++ group) = one_more old next customer front group (ap row_or_empty has) (front_rises (front ++ group) (concat groups) all_rise)
    (subst (λ (xs : List ℕ). Unites old customer xs next) (named_some group (All-head (λ g. g ≢ []) group groups some)) unites) in
    let behind = more_groups customer (front ++ group) groups next new rest (ap (λ (m : RowMap). fin.get m customer) is ∙ placed old customer (front ++ group)) all_rise
    (All-tail (λ g. g ≢ []) group groups some) asserts in
    record {
      mid = behind.mid;
      more = behind.more;
      here = behind.here ∙ ap (λ (xs : List ℕ). Some xs) joined;
      others = λ q other. behind.others q other ∙ ap (λ (m : RowMap). fin.get m q) is ∙ passed old customer (front ++ group) q other;
    }

-- all groups of a row
all_groups : (customer : ℕ) (row : List ℕ) (groups : List (List ℕ)) (old new : RowMap) (rest : Lines) → fin.get old customer ≡ None → IsStrictlySortedBy nat_cmp row
    → AreGroups customer row groups → Asserts old (under customer groups ++ rest) new → Mid old customer (named row) rest new
unfolding IsStrictlySortedBy
all_groups customer row groups old new rest none rises are asserts = by row groups rises are asserts where
  first : (group : List ℕ) (next : RowMap) → IsStrictlySortedBy nat_cmp group → Unites old customer group next → next ≡ fin.insert old customer group
  first group next up unites = one_more old next customer [] group (ap row_or_empty none) up unites

  empty_row : (gs : List (List ℕ)) → gs ≡ [] ∷ [] → Asserts old (under customer gs ++ rest) new → Mid old customer (0 ∷ []) rest new
  empty_row gs are asserts =
      let all : Asserts old ((customer, []) ∷ rest) new = subst (λ (hs : List (List ℕ)). Asserts old (under customer hs ++ rest) new) are asserts in
      let is : all.0 ≡ fin.insert old customer (0 ∷ []) = first (0 ∷ []) all.0 (tt, tt) all.1 in
      record {
        mid = all.0;
        more = all.2;
        here = ap (λ (m : RowMap). fin.get m customer) is ∙ placed old customer (0 ∷ []);
        others = λ q other. ap (λ (m : RowMap). fin.get m q) is ∙ passed old customer (0 ∷ []) q other;
      }

  some_row : (gs : List (List ℕ)) → IsStrictlySortedBy nat_cmp (concat gs) → concat gs ≢ [] → All (λ group. group ≢ []) gs → Asserts old (under customer gs ++ rest) new
      → Mid old customer (concat gs) rest new
  some_row [] up nonempty some asserts = absurd (nonempty refl)
  some_row (group ∷ gs) up nonempty some (next, unites, asserts) =
      let is : next ≡ fin.insert old customer group = first group next (front_rises group (concat gs) up)
      (subst (λ (xs : List ℕ). Unites old customer xs next) (named_some group (All-head (λ g. g ≢ []) group gs some)) unites) in
      let behind = more_groups customer group gs next new rest (ap (λ (m : RowMap). fin.get m customer) is ∙ placed old customer group) up (All-tail (λ g. g ≢ []) group gs some) asserts in
      record {
        mid = behind.mid;
        more = behind.more;
        here = behind.here;
        others = λ q other. behind.others q other ∙ ap (λ (m : RowMap). fin.get m q) is ∙ passed old customer group q other;
      }

  by : (r : List ℕ) (gs : List (List ℕ)) → IsStrictlySortedBy nat_cmp r → AreGroups customer r gs → Asserts old (under customer gs ++ rest) new → Mid old customer (named r) rest new
  by [] gs up are asserts = empty_row gs are asserts
  by (p ∷ ps) gs up are asserts =
      subst (λ (xs : List ℕ). Mid old customer xs rest new) are.whole
      (some_row gs (subst (IsStrictlySortedBy nat_cmp) (sym are.whole) up) (λ none. let no : p ∷ ps ≡ [] = sym are.whole ∙ none in cc) are.some asserts)

-- ---- what is asserted of all

abbrev firsts : List Grouped → Lines
firsts grouped = map (λ g. g.0) grouped

-- each row rises
abbrev AllRise : List Grouped → Type 0
AllRise grouped = AllByRecursion (λ g. IsStrictlySortedBy nat_cmp g.0.1) grouped

abbrev either : Option (List ℕ) → Option (List ℕ) → Option (List ℕ)
either None other = other
either (Some row) other = Some row

found_first : (c : ℕ) (row : List ℕ) (es : Lines) → fin.find nat_cmp c ((c, row) ∷ es) ≡ Some row
found_first c row es = ap (λ (b : Bool). cond b (Some row) (fin.find nat_cmp c es)) (at_itself c)

found_later : (c q : ℕ) (row : List ℕ) (es : Lines) → nat_eq c q ≡ false → fin.find nat_cmp q ((c, row) ∷ es) ≡ fin.find nat_cmp q es
found_later c q row es other = ap (λ (b : Bool). cond b (Some row) (fin.find nat_cmp q es)) (at_other c q other)

-- what is found behind an entry is another customer's
behind_first : (c q : ℕ) (first row : List ℕ) (es : Lines) → IsStrictlySortedBy nat_cmp (c ∷ keys_of es) → fin.find nat_cmp q es ≡ Some row
    → (nat_eq c q ≡ false) × (fin.find nat_cmp q ((c, first) ∷ es) ≡ Some row)
behind_first c q first row es sorted found = elim (eqb_tells c q) [
  | inl same ↦
      let none : fin.find nat_cmp q es ≡ None = subst (λ (k : ℕ). fin.find nat_cmp k es ≡ None) same.1 (absent c es sorted) in
      let no : ⊥ = cc in absurd no
  | inr other ↦ (other.0, found_later c q first es other.0 ∙ found)
]

-- what is so of each row that is found is so of each entry
each_found : (P : ℕ → List ℕ → Type 0) (grouped : List Grouped) → IsStrictlySortedBy nat_cmp (keys_of (firsts grouped)) → ((q : ℕ) (row : List ℕ) → fin.find nat_cmp q (firsts grouped) ≡ Some row → P q row)
    → AllByRecursion (λ g. P g.0.0 g.0.1) grouped
each_found P [] sorted each = tt
each_found P (g ∷ gs) sorted each = (
  each g.0.0 g.0.1 (found_first g.0.0 g.0.1 (firsts gs)),
  each_found P gs (sorted_tail nat_cmp g.0.0 (keys_of (firsts gs)) sorted) (λ q row found. each q row (behind_first g.0.0 q g.0.1 row (firsts gs) sorted found).1),
)

-- the customer has its row, and another one what it had
all_asserted : (grouped : List Grouped) (old new : RowMap) → IsStrictlySortedBy nat_cmp (keys_of (firsts grouped)) → AllRise grouped
    → ((q : ℕ) (row : List ℕ) → fin.find nat_cmp q (firsts grouped) ≡ Some row → fin.get old q ≡ None) → All (λ g. AreGroups g.0.0 g.0.1 g.1) grouped
    → Asserts old (flat_map rows_under grouped) new → (q : ℕ) → fin.get new q ≡ either (option_map named (fin.find nat_cmp q (firsts grouped))) (fin.get old q)
all_asserted [] old new sorted rise fresh groups asserts q = ap (λ (m : RowMap). fin.get m q) asserts
all_asserted (g ∷ gs) old new sorted rise fresh groups asserts q =
    let c = g.0.0 in
    let row = g.0.1 in
    let state = all_groups c row g.1 old new (flat_map rows_under gs) (fresh c row (found_first c row (firsts gs))) rise.0 (All-head (λ h. AreGroups h.0.0 h.0.1 h.1) g gs groups) asserts in
    let rest = all_asserted gs state.mid new (sorted_tail nat_cmp c (keys_of (firsts gs)) sorted) rise.1
    (λ k found is. let behind = behind_first c k row found (firsts gs) sorted is in state.others k behind.0 ∙ fresh k found behind.1)
    (All-tail (λ h. AreGroups h.0.0 h.0.1 h.1) g gs groups) state.more q in
    elim (eqb_tells c q) [
      | inl same ↦
          let none : fin.find nat_cmp q (firsts gs) ≡ None = subst (λ (k : ℕ). fin.find nat_cmp k (firsts gs) ≡ None) same.1 (absent c (firsts gs) sorted) in
          let here : fin.get state.mid q ≡ Some (named row) = subst (λ (k : ℕ). fin.get state.mid k ≡ Some (named row)) same.1 state.here in
          let found : fin.find nat_cmp q (firsts (g ∷ gs)) ≡ Some row = subst (λ (k : ℕ). fin.find nat_cmp k (firsts (g ∷ gs)) ≡ Some row) same.1 (found_first c row (firsts gs)) in
          rest ∙ ap (λ (o : Option (List ℕ)). either (option_map named o) (fin.get state.mid q)) none ∙ here ∙ sym (ap (λ (o : Option (List ℕ)). either (option_map named o) (fin.get old q)) found)
      | inr other ↦
          rest ∙ ap (λ (o : Option (List ℕ)). either (option_map named (fin.find nat_cmp q (firsts gs))) o) (state.others q other.0)
          ∙ sym (ap (λ (o : Option (List ℕ)). either (option_map named o) (fin.get old q)) (found_later c q row (firsts gs) other.0))
    ]

-- ---- the current table

goes_asserted : (rows : RowMap) (x : ℕ) (given : List ℕ) → GoesIn (with_all no_parts rows) x given → fin.get rows x ≡ Some given
goes_asserted rows x given (inl sourced) = absurd sourced.2
goes_asserted rows x given (inr (inl slurm)) = let none : fin.get {X = List ℕ} {R = nat_cmp} fin.empty x ≡ None = fin.get-empty nat_cmp x in let no : ⊥ = cc in absurd no
goes_asserted rows x given (inr (inr hand)) = hand

some_same : (one other : List ℕ) → Some one ≡ Some other → one ≡ other
some_same one other is = ap row_or_empty is

-- 0 is in no row
stays : (row : List ℕ) (y : ℕ) → y ≢ 0 → has (named row) y ≡ true → has row y ≡ true
stays [] y some is = elim (eqb_tells 0 y) [
  | inl same ↦ absurd (some (sym same.1))
  | inr other ↦ let no : ⊥ = cc in absurd no
]
stays (p ∷ ps) y some is = is

named_has : (row : List ℕ) (y : ℕ) → has row y ≡ true → has (named row) y ≡ true
named_has [] y is = absurd cc
named_has (p ∷ ps) y is = is

row_after : (parts : Parts) (rows : RowMap) (x : ℕ) (row : Option (List ℕ)) → fin.get rows x ≡ option_map named row → IsCurrentRow parts x row → IsCurrentRow (with_all no_parts rows) x row
row_after parts rows x None is current = λ given goes. let found = goes_asserted rows x given goes in let no : ⊥ = cc in absurd no
row_after parts rows x (Some row) is current = record {
  some = (named row, inr (inr is));
  ascending = current.ascending;
  within = λ y here. ((current.within y here).0, (named row, inr (inr is), named_has row y here));
  all = λ y given some goes here.
      let same : given ≡ named row = some_same given (named row) (sym (goes_asserted rows x given goes) ∙ is) in
      stays row y some (subst (λ (xs : List ℕ). has xs y ≡ true) same here);
}

or_none : (o other : Option (List ℕ)) → other ≡ None → either o other ≡ o
or_none None other none = none
or_none (Some row) other none = refl

module _ (parts : Parts) (lines : Lines) (are : AreAttested parts lines) where
  sorted_firsts : IsStrictlySortedBy nat_cmp (keys_of (firsts are.grouped))
  sorted_firsts = subst (λ (es : Lines). IsStrictlySortedBy nat_cmp (keys_of es)) (sym are.entries) (in_order nat_cmp (fin.entries are.table) (fin.entries_sorted are.table))

  found_in_table : (q : ℕ) → fin.find nat_cmp q (firsts are.grouped) ≡ fin.get are.table q
  found_in_table q = ap (fin.find nat_cmp q) are.entries ∙ sym (fin.get-entries are.table q)

  -- what is so of each row of the current table is so of each that is listed
  pub each_current : (P : ℕ → List ℕ → Type 0) → ((q : ℕ) (row : List ℕ) → IsCurrentRow parts q (Some row) → P q row) → AllByRecursion (λ g. P g.0.0 g.0.1) are.grouped
  each_current P each =
      each_found P are.grouped sorted_firsts (λ q row found. each q row (subst (IsCurrentRow parts q) (sym (found_in_table q) ∙ found) (are.current q)))

  all_rows : (rows : RowMap) → Asserts fin.empty lines rows → (x : ℕ) → fin.get rows x ≡ option_map named (fin.get are.table x)
  all_rows rows asserts x =
      let rise : AllRise are.grouped = each_current (λ q row. IsStrictlySortedBy nat_cmp row) (λ q row current. sorted_from_strictly_increasing row current.ascending) in
      all_asserted are.grouped fin.empty rows sorted_firsts rise (λ q row is. fin.get-empty nat_cmp q) are.groups (subst (λ (ls : Lines). Asserts fin.empty ls rows) are.listed asserts) x
      ∙ or_none _ _ (fin.get-empty nat_cmp x) ∙ ap (option_map named) (found_in_table x)

pub attests_restore : AttestsRestore
attests_restore parts rows are = record {
  done = some_performed no_parts rows;
  same = λ after performs table current x.
      let all = performed no_parts rows after performs in
      let row : IsCurrentRow (with_all no_parts all.all) x (fin.get are.table x) =
      row_after parts all.all x (fin.get are.table x) (all_rows parts rows are all.all all.asserts x) (are.current x) in
      subst (λ (p : Parts). IsCurrentRow p x (table x)) (sym all.are)
      (subst (IsCurrentRow (with_all no_parts all.all) x) (one_row parts x (fin.get are.table x) (table x) (are.current x) (current x)) row);
}
