-- What distinct keys add, one after another.
use Rattle.std.proofs.Common.{◌≡◌, ℕ, ◌+◌, ◌<◌, ◌≤◌, add-one, drop, drop-cons, length, slice_index_or, cond, Bool, true, false, ◌||◌, List, [], ◌∷◌, refl, ap, sym, ◌∙◌, subst, Ok, Err, OnOk}
use Rattle.std.specs.BTreeMap.{is_at}
use Rattle.std.specs.Cmp.{Equal-is, IsTotalOrder, tied_back, tied_itself}
use Rattle.std.specs.List.{AllByRecursion, list_any}
use Rattle.std.specs.List.Sorted.{IsStrictlySortedBy}
use Rattle.std.specs.Map.{lookup}
use Rattle.std.specs.Ordering.{is_eq}
use Rattle.std.specs.declared.cmp.Ordering.{Ordering}
use Rattle.std.specs.declared.cmp.Ordering.TheVariants.{Less, Equal}
use Rattle.std.specs.declared.option.Option.{Option}
use Rattle.std.specs.declared.result.Result.{Result}
use Rattle.std.specs.declared.option.Option.TheVariants.{Some}
use Rattle.std.proofs.Math.Bool.{or-true}
use Rattle.std.proofs.lemmas.List.{drop_all}
use Rattle.std.proofs.lemmas.Map.Keys.{sorted_head, sorted_tail}
use Rattle.listings.specs.declared.tally.Tally.{Tally}
use Rattle.listings.specs.TallySteps.{Adds, AddsTo, HasRoom, HasRoomFor, IsAmong, more, tally_at}

-- ---- steps by a property, said by another one

pub room_as : {K : Type 0} (R : K → K → Ordering) (P Q : K → Type 0) (routes : ℕ) (rows : List (K × Tally)) → HasRoomFor R P routes rows
    → ((k : K) → Q k → P k) → HasRoomFor R Q routes rows
room_as R P Q routes rows room to k q = room k (to k q)

pub adds_as : {K : Type 0} (R : K → K → Ordering) (P Q : K → Type 0) (routes : ℕ) (old new : List (K × Tally)) → AddsTo R P routes old new
    → ((k : K) → Q k → P k) → ((k : K) → P k → Q k) → AddsTo R Q routes old new
adds_as R P Q routes old new adds to from = record {
  here = λ k q. adds.here k (to k q);
  others = λ k none. adds.others k (λ p. none (from k p));
}

-- where there was memory
pub ok_adds_as : {K T E : Type 0} (result : Result T E) (R : K → K → Ordering) (P Q : K → Type 0) (routes : ℕ) (old new : List (K × Tally))
    → OnOk result (AddsTo R P routes old new) → (AddsTo R P routes old new → AddsTo R Q routes old new) → OnOk result (AddsTo R Q routes old new)
ok_adds_as (Ok done) R P Q routes old new adds step = step adds
ok_adds_as (Err none) R P Q routes old new adds step = adds

-- nothing where no key has it
pub adds_none : {K : Type 0} (R : K → K → Ordering) (P : K → Type 0) (routes : ℕ) (rows : List (K × Tally)) → ((k : K) → P k → ⊥)
    → AddsTo R P routes rows rows
adds_none R P routes rows none = record { here = λ k p. absurd (none k p); others = λ k not. refl }

-- ---- key by key

-- whether a key is among some
abbrev pub among : {K : Type 0} → (K → K → Ordering) → List K → K → Bool
among R keys k = list_any (is_at (R k)) keys

-- The keys that are left have what they had, and those that are done have so many routes more.
pub record Adding {K : Type 0} (R : K → K → Ordering) (all : List K) (routes : ℕ) (first : List (K × Tally)) (rest : List K) (now : List (K × Tally)) : Type 0 where
  pub sorted : IsStrictlySortedBy R rest
  pub within : (k : K) → among R rest k ≡ true → among R all k ≡ true
  pub waiting : (k : K) → among R rest k ≡ true → tally_at R now k ≡ tally_at R first k
  pub done : (k : K) → among R all k ≡ true → among R rest k ≡ false → tally_at R now k ≡ Some (more routes (tally_at R first k))
  pub others : (k : K) → among R all k ≡ false → tally_at R now k ≡ tally_at R first k

both_ways : (b : Bool) → b ≡ true → b ≡ false → ⊥
both_ways b so not = let clash : true ≡ false = sym so ∙ not in absurd cc

never_true : (b : Bool) → (b ≡ true → ⊥) → b ≡ false
never_true true never = absurd (never refl)
never_true false never = refl

pub adding_start : {K : Type 0} (R : K → K → Ordering) (all : List K) (routes : ℕ) (first : List (K × Tally)) → IsStrictlySortedBy R all
    → Adding R all routes first all first
adding_start R all routes first sorted = record {
  sorted = sorted;
  within = λ k h. h;
  waiting = λ k h. refl;
  done = λ k h none. absurd (both_ways (among R all k) h none);
  others = λ k none. refl;
}

pub adding_end : {K : Type 0} (R : K → K → Ordering) (all : List K) (routes i : ℕ) (first now : List (K × Tally)) → length all ≤ i
    → Adding R all routes first (drop i all) now → AddsTo R (IsAmong R all) routes first now
adding_end {K} R all routes i first now over adding =
    let added : Adding R all routes first [] now = subst (λ (rest : List K). Adding R all routes first rest now) (drop_all i all over) adding in
    record { here = λ k h. added.done k h refl; others = λ k none. added.others k (never_true (among R all k) none) }

-- the first of those that are left, which stands at this index
pub adding_at : {K : Type 0} (R : K → K → Ordering) (xs all : List K) (routes i : ℕ) (x : K) (first now : List (K × Tally)) → i < length xs
    → x ≡ slice_index_or xs i x → Adding R all routes first (drop i xs) now → Adding R all routes first (x ∷ drop (i + 1) xs) now
adding_at {K} R xs all routes i x first now within is adding =
    let e : drop i xs ≡ slice_index_or xs i x ∷ drop (i + 1) xs = rw (add-one, drop-cons xs i x) in
    subst (λ (y : K). Adding R all routes first (y ∷ drop (i + 1) xs) now) (sym is) (subst (λ (rest : List K). Adding R all routes first rest now) e adding)

module _ {K : Type 0} {R : K → K → Ordering} (total : IsTotalOrder R) where
  tied_tally : (x k : K) (rows : List (K × Tally)) → R x k ≡ Equal → tally_at R rows x ≡ tally_at R rows k
  tied_tally x k rows tied = λ i. lookup (is_at (λ (y : K). total.congr x k y tied i)) rows

  own_head : (x : K) (rest : List K) → among R (x ∷ rest) x ≡ true
  own_head x rest = ap (λ (o : Ordering). is_eq o || among R rest x) (tied_itself total x)

  later : (x k : K) (rest : List K) → among R rest k ≡ true → among R (x ∷ rest) k ≡ true
  later x k rest there = ap (λ (b : Bool). is_at (R k) x || b) there ∙ or-true (is_at (R k) x)

  -- none of the later keys is tied with the first
  none_later : (x k : K) (rest : List K) → AllByRecursion (λ y. R x y ≡ Less) rest → R x k ≡ Equal → among R rest k ≡ false
  none_later x k [] less tied = refl
  none_later x k (y ∷ ys) less tied =
      ap (λ (o : Ordering). is_eq o || among R ys k) (sym (total.congr x k y tied) ∙ less.0) ∙ none_later x k ys less.1 tied

  -- there is room for it
  pub adding_room : (x : K) (rest all : List K) (routes : ℕ) (first now : List (K × Tally)) → Adding R all routes first (x ∷ rest) now
      → HasRoomFor R (IsAmong R all) routes first → HasRoom routes (tally_at R now x)
  adding_room x rest all routes first now adding room =
      subst (λ (t : Option Tally). HasRoom routes t) (sym (adding.waiting x (own_head x rest))) (room x (adding.within x (own_head x rest)))

  module _ (x : K) (rest all : List K) (routes : ℕ) (first now next : List (K × Tally))
      (adding : Adding R all routes first (x ∷ rest) now) (updated : Adds R x routes now next) where
    -- a key that is tied with the first has so many more,
    moved : (k : K) → is_at (R x) k ≡ true → tally_at R next k ≡ Some (more routes (tally_at R first k))
    moved k at =
        let tied : R x k ≡ Equal = (Equal-is (R x k)).0 at in
        updated k ∙ ap (λ (b : Bool). cond b (Some (more routes (tally_at R now x))) (tally_at R now k)) at
        ∙ ap (λ (t : Option Tally). Some (more routes t)) (adding.waiting x (own_head x rest) ∙ tied_tally x k first tied)

    unmoved : (k : K) → is_at (R x) k ≡ false → tally_at R next k ≡ tally_at R now k
    unmoved k other = updated k ∙ ap (λ (b : Bool). cond b (Some (more routes (tally_at R now x))) (tally_at R now k)) other

    -- it is among those that were left and among none behind it,
    was_left : (k : K) → is_at (R x) k ≡ true → among R (x ∷ rest) k ≡ true
    was_left k at = ap (λ (o : Ordering). is_eq o || among R rest k) (tied_back total x k ((Equal-is (R x k)).0 at))

    not_left : (k : K) → is_at (R x) k ≡ true → among R rest k ≡ false
    not_left k at = none_later x k rest (sorted_head R x rest adding.sorted) ((Equal-is (R x k)).0 at)

    -- and each other one is among those behind it as before
    same_left : (k : K) → is_at (R x) k ≡ false → among R rest k ≡ false → among R (x ∷ rest) k ≡ false
    same_left k other none = by (is_at (R k) x) refl ∙ none where
      by : (b : Bool) → is_at (R k) x ≡ b → (is_at (R k) x || among R rest k) ≡ among R rest k
      by true at = absurd (both_ways (is_at (R x) k) ((Equal-is (R x k)).1 (tied_back total k x ((Equal-is (R k x)).0 at))) other)
      by false not = ap (λ (b : Bool). b || among R rest k) not

    waiting_by : (k : K) (b : Bool) → is_at (R x) k ≡ b → among R rest k ≡ true → tally_at R next k ≡ tally_at R first k
    waiting_by k true at there = absurd (both_ways (among R rest k) there (not_left k at))
    waiting_by k false other there = unmoved k other ∙ adding.waiting k (later x k rest there)

    done_by : (k : K) (b : Bool) → is_at (R x) k ≡ b → among R all k ≡ true → among R rest k ≡ false
        → tally_at R next k ≡ Some (more routes (tally_at R first k))
    done_by k true at there none = moved k at
    done_by k false other there none = unmoved k other ∙ adding.done k there (same_left k other none)

    others_by : (k : K) (b : Bool) → is_at (R x) k ≡ b → among R all k ≡ false → tally_at R next k ≡ tally_at R first k
    others_by k true at none = absurd (both_ways (among R all k) (adding.within k (was_left k at)) none)
    others_by k false other none = unmoved k other ∙ adding.others k none

    pub adding_next : Adding R all routes first rest next
    adding_next = record {
      sorted = sorted_tail R x rest adding.sorted;
      within = λ k there. adding.within k (later x k rest there);
      waiting = λ k there. waiting_by k (is_at (R x) k) refl there;
      done = λ k there none. done_by k (is_at (R x) k) refl there none;
      others = λ k none. others_by k (is_at (R x) k) refl none;
    }
