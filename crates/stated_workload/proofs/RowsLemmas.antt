-- Rows that are gathered customer by customer.
use Rattle.std.proofs.Common.{◌≡◌, ◌≢◌, ℕ, suc, ◌+◌, ◌%◌, ◌≤◌, nat_eq, Bool, true, false, cond, List, [], ◌∷◌, ◌++◌, length, Some, None, refl, sym, ap, subst, ◌∙◌, arith}
use Rattle.std.specs.declared.option.Option.{Option}
use Rattle.std.specs.Ordering.{nat_cmp}
use Rattle.std.specs.Cmp.{nat_cmp_total, unsigned_tied}
use Rattle.std.specs.FinMap as map
use Rattle.std.proofs.lemmas.Bool.Decides.{nat_tests}
use Rattle.rand_pcg.specs.Lcg.{Lcg}
use Rattle.rand_pcg.specs.Pcg.{pcg32}
use Rattle.path_model.specs.Rows.{RowMap, SetsRow, IsRowOf}
use Rattle.path_model.specs.Ascending.{ascending_of}
use Rattle.path_model.proofs.UnionLawLemmas.{some_set, one_set}
use Rattle.stated_workload.specs.Draws.{Draws, DrawsAs, Adds}
use Rattle.stated_workload.specs.Rows.{DrawsProviders, DrawsRows, Keeps, KeepsRow, if_some, given_in}
use Rattle.stated_workload.proofs.DrawsLemmas.{Same, IsOne, IsSome, one_draw, some_draw, one_all, some_all, one_as, some_as, draws_none, draws_more, added_all}

-- ---- what is given of one customer more

above : (first : ℕ) (lists : List (List ℕ)) (x : ℕ) → length lists + first ≤ x → given_in first lists x ≡ None
above first [] x e = refl
above first (list ∷ lists) x e = at_other (nat_eq x first) (grind (arith, nat_tests)) (above (suc first) lists x (omega arith)) where
  at_other : (b : Bool) → b ≡ false → given_in (suc first) lists x ≡ None → cond b (if_some list) (given_in (suc first) lists x) ≡ None
  at_other true f more = absurd cc
  at_other false f more = more

swapped : {A : Type 0} (b c : Bool) (p q r : A) → (b ≡ true → c ≡ true → ⊥) → cond b p (cond c q r) ≡ cond c q (cond b p r)
swapped true true p q r apart = absurd (apart refl refl)
swapped true false p q r apart = refl
swapped false true p q r apart = refl
swapped false false p q r apart = refl

given_more : (first d : ℕ) (lists : List (List ℕ)) (list : List ℕ) (x : ℕ) → length lists + first ≡ d → given_in first (lists ++ list ∷ []) x ≡ cond (nat_eq x d) (if_some list) (given_in first lists x)
given_more first d [] list x e = let same : first ≡ d = omega arith in ap (λ (k : ℕ). cond (nat_eq x k) (if_some list) None) same
given_more first d (l ∷ lists) list x e =
    ap (cond (nat_eq x first) (if_some l)) (given_more (suc first) d lists list x (omega arith))
    ∙ swapped (nat_eq x first) (nat_eq x d) (if_some l) (if_some list) (given_in (suc first) lists x) (λ s t. two_places s t)
  where
    two_places : nat_eq x first ≡ true → nat_eq x d ≡ true → ⊥
    two_places s t = grind (arith, nat_tests)

-- ---- one row more

is_none : (o : Option (List ℕ)) → IsRowOf None o → o ≡ None
is_none None is = refl
is_none (Some row) is = absurd is

-- the row at one place is as given, and at the others as before
row_at : (b : Bool) (given row own now : Option (List ℕ)) → IsRowOf given row → (b ≡ false → IsRowOf own now) → IsRowOf (cond b given own) (cond b row now)
row_at true given row own now here others = here
row_at false given row own now here others = others refl

kept_at : (rows after : RowMap) (d : ℕ) (list : List ℕ) (x : ℕ) (own : Option (List ℕ)) → Keeps list rows d after → IsRowOf own (map.get rows x) → (nat_eq x d ≡ true → own ≡ None) → IsRowOf (cond (nat_eq x d) (if_some list) own) (map.get after x)
kept_at rows after d [] x own is before none = subst (λ (m : RowMap). IsRowOf (cond (nat_eq x d) None own) (map.get m x)) (sym is) (by_case (nat_eq x d) none) where
  by_case : (b : Bool) → (b ≡ true → own ≡ None) → IsRowOf (cond b None own) (map.get rows x)
  by_case true gone = subst (λ (o : Option (List ℕ)). IsRowOf o (map.get rows x)) (gone refl) before
  by_case false gone = before
kept_at rows after d (y ∷ ys) x own sets before none =
    subst (λ (o : Option (List ℕ)). IsRowOf (cond (nat_eq x d) (Some (y ∷ ys)) own) o)
    (sym (ap (λ (m : RowMap). map.get m x) sets.whole ∙ map.get-insert nat_cmp_total rows d sets.row x ∙ ap (λ (b : Bool). cond b (Some sets.row) (map.get rows x)) (unsigned_tied x d)))
    (row_at (nat_eq x d) (Some (y ∷ ys)) (Some sets.row) own (map.get rows x) sets.is_set (λ _. before))

pub rows_none : (old : Lcg) → DrawsRows 0 old map.empty old
rows_none old = record { lists = []; drawn = draws_none (λ _. DrawsProviders) old; are = λ x. subst (λ (o : Option (List ℕ)). IsRowOf None o) (sym (map.get-empty nat_cmp x)) tt }

pub rows_more : {n : ℕ} {old mid : Lcg} {rows : RowMap} → DrawsRows n old rows mid → (list : List ℕ) (new : Lcg) (after : RowMap) → DrawsProviders mid list new → KeepsRow rows (n + 1) list after → DrawsRows (n + 1) old after new
rows_more {n} {old} {mid} {rows} so_far list new after draws keeps = record {
  lists = so_far.lists ++ list ∷ [];
  drawn = draws_more (λ _. DrawsProviders) n old mid so_far.lists so_far.drawn list new draws;
  are = λ x. subst (λ (o : Option (List ℕ)). IsRowOf o (map.get after x)) (sym (given_more 1 (n + 1) so_far.lists list x (many x)))
      (kept_at rows after (n + 1) list x (given_in 1 so_far.lists x) keeps.keeps (so_far.are x) (λ here. above 1 so_far.lists x (place x here)));
} where
  many : ℕ → length so_far.lists + 1 ≡ n + 1
  many x = ap (λ (l : ℕ). l + 1) so_far.drawn.many

  place : (x : ℕ) → nat_eq x (n + 1) ≡ true → length so_far.lists + 1 ≤ x
  place x here = let e = many x in grind (arith, nat_tests)

-- ---- what a call draws and keeps

pub providers_are : (old mid new : Lcg) (count : ℕ) (providers : List ℕ) → Draws 4 old count mid → Adds (λ _. DrawsAs) count mid [] providers new → DrawsProviders old providers new
providers_are old mid new count providers drawn adds = record { count = count; counted = mid; count_drawn = drawn; providers_drawn = added_all (λ _. DrawsAs) count mid new providers adds }

pub keeps_none : (rows : RowMap) (customer : ℕ) (providers : List ℕ) → providers ≡ [] → KeepsRow rows customer providers rows
keeps_none rows customer providers none = subst (λ (l : List ℕ). KeepsRow rows customer l rows) (sym none) (record { keeps = refl })

pub keeps_some : (rows : RowMap) (customer : ℕ) (providers : List ℕ) (new : RowMap) → providers ≢ [] → SetsRow rows customer providers new → KeepsRow rows customer providers new
keeps_some rows customer [] new some sets = absurd (some refl)
keeps_some rows customer (x ∷ xs) new some sets = record { keeps = sets }

pub ruleset row_steps = (rows_none, rows_more, providers_are, keeps_none, keeps_some)

-- ---- one outcome

pub one_providers : IsOne (λ _. DrawsProviders)
one_providers k g h s t xs ys e d f =
    let count = one_draw 4 g h d.counted f.counted d.count f.count e d.count_drawn f.count_drawn in
    one_all (λ _. DrawsAs) one_as d.count f.count d.counted f.counted s t xs ys count.0 count.1 d.providers_drawn f.providers_drawn

pub some_providers : IsSome (λ _. DrawsProviders)
some_providers k g =
    let ases = some_all (λ _. DrawsAs) some_as ((pcg32 g).0 % 4) (pcg32 g).1 in
    (ases.0, ases.1, record { count = (pcg32 g).0 % 4; counted = (pcg32 g).1; count_drawn = some_draw 4 g; providers_drawn = ases.2 })

one_row : (given row other : Option (List ℕ)) → IsRowOf given row → IsRowOf given other → row ≡ other
one_row None row other is also = is_none row is ∙ sym (is_none other also)
one_row (Some list) None other is also = absurd is
one_row (Some list) (Some row) None is also = absurd also
one_row (Some list) (Some row) (Some other) is also = ap Some (one_set list row other is also)

pub one_rows : (n : ℕ) (g s t : Lcg) (a b : RowMap) → DrawsRows n g a s → DrawsRows n g b t → Same a b s t
one_rows n g s t a b d f =
    let lists = one_all (λ _. DrawsProviders) one_providers n n g g s t d.lists f.lists refl refl d.drawn f.drawn in (
      map.same_map nat_cmp_total map.nat_cmp-IsAntisymmetric a b (λ x. one_row (given_in 1 f.lists x) (map.get a x) (map.get b x)
          (subst (λ (l : List (List ℕ)). IsRowOf (given_in 1 l x) (map.get a x)) lists.0 (d.are x)) (f.are x)),
      lists.1,
    )

-- the rows of lists
abbrev with_row : RowMap → ℕ → List ℕ → RowMap
with_row rows x [] = map.remove rows x
with_row rows x (y ∷ ys) = map.insert rows x (ascending_of (y ∷ ys))

with_row_at : (rows : RowMap) (d : ℕ) (list : List ℕ) (x : ℕ) (own : Option (List ℕ)) → IsRowOf own (map.get rows x) → IsRowOf (cond (nat_eq x d) (if_some list) own) (map.get (with_row rows d list) x)
with_row_at rows d [] x own before = subst (λ (o : Option (List ℕ)). IsRowOf (cond (nat_eq x d) None own) o)
    (sym (map.get-remove nat_cmp_total rows d x ∙ ap (λ (b : Bool). cond b None (map.get rows x)) (unsigned_tied x d)))
    (row_at (nat_eq x d) None None own (map.get rows x) tt (λ _. before))
with_row_at rows d (y ∷ ys) x own before = subst (λ (o : Option (List ℕ)). IsRowOf (cond (nat_eq x d) (Some (y ∷ ys)) own) o)
    (sym (map.get-insert nat_cmp_total rows d (ascending_of (y ∷ ys)) x ∙ ap (λ (b : Bool). cond b (Some (ascending_of (y ∷ ys))) (map.get rows x)) (unsigned_tied x d)))
    (row_at (nat_eq x d) (Some (y ∷ ys)) (Some (ascending_of (y ∷ ys))) own (map.get rows x) (some_set (y ∷ ys)) (λ _. before))

rows_of : (first : ℕ) (lists : List (List ℕ)) → (rows : RowMap) × ((x : ℕ) → IsRowOf (given_in first lists x) (map.get rows x))
rows_of first [] = (map.empty, λ x. subst (λ (o : Option (List ℕ)). IsRowOf None o) (sym (map.get-empty nat_cmp x)) tt)
rows_of first (list ∷ lists) =
    let more = rows_of (suc first) lists in
    (with_row more.0 first list, λ x. with_row_at more.0 first list x (given_in (suc first) lists x) (more.1 x))

pub some_rows : (n : ℕ) (g : Lcg) → (rows : RowMap) × (s : Lcg) × DrawsRows n g rows s
some_rows n g =
    let lists = some_all (λ _. DrawsProviders) some_providers n g in
    let rows = rows_of 1 lists.0 in
    (rows.0, lists.1, record { lists = lists.0; drawn = lists.2; are = rows.1 })
