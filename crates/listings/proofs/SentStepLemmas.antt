-- How the verdicts of the routes that are sent are gathered route by route.
use Rattle.std.proofs.Common.{◌≡◌, ◌≢◌, ℕ, zero, suc, ◌+◌, ◌<◌, ◌≤◌, Bool, true, false, cond, is_some, List, [], ◌∷◌, ◌++◌, length, map, Some, None, IsSome, refl, sym, ap, subst, ◌∙◌, arith, inl, inr}
use Rattle.std.specs.Prelude.{replicate, set, take}
use Rattle.std.specs.FinMap as fin
use Rattle.std.specs.List.{All, count_by}
use Rattle.std.specs.declared.option.Option.{Option}
use Rattle.std.proofs.lemmas.List.{append_assoc, append-nil, get_or-set_other, get_or-set_same, take_all}
use Rattle.std.proofs.lemmas.List.Elements.{All-head, All-nil, All-push, All-tail, All-weaker}
use Rattle.std.proofs.lemmas.List.Sums.{sum_by-set}
use Rattle.path_model.specs.declared.key.Key.{Key}
use Rattle.path_model.specs.declared.role.Role.{Role}
use Rattle.path_model.specs.declared.verdict.Verdict.{Verdict}
use Rattle.path_model.specs.RightVerdict.{IsRight}
use Rattle.path_model.specs.Trail.{Path}
use Rattle.attestations.specs.ComputedTable.{table_of}
use Rattle.attestations.specs.CurrentTable.{Parts}
use Rattle.rib_store.specs.Numbered.{IsNumberOf, AreNumbered}
use Rattle.rib_store.specs.Stored.{Stored}
use Rattle.shared_cases.specs.declared.case.Case.{Case}
use Rattle.shared_cases.specs.declared.case.StoredCase.{StoredCase}
use Rattle.shared_cases.specs.Cases.{AreDistinct, at, IsShown, IsStoredAs}
use Rattle.shared_cases.proofs.NumberLemmas.{decide_eq}
use Rattle.listings.specs.EachSent.{AreHeld, AreSeen, HoldsOne, IsHeld, IsSeenCase, IsSentCase, verdict_at}
use Rattle.listings.specs.Sent.{first_of, is_sent, sent_path}

-- ---- one verdict more

-- the verdict under a number that had none
pub one_held : (verdicts new : List (Option Verdict)) (n : ℕ) (verdict : Verdict) → n < length verdicts → verdict_at verdicts n ≡ None → new ≡ set verdicts n (Some verdict)
    → (verdict_at new n ≡ Some verdict) × ((m : ℕ) → m ≢ n → verdict_at new m ≡ verdict_at verdicts m) × (count_by is_some new ≡ count_by is_some verdicts + 1)
one_held verdicts new n verdict within none is = (
  ap (λ (vs : List (Option Verdict)). verdict_at vs n) is ∙ get_or-set_same verdicts n (Some verdict) None within,
  λ m other. ap (λ (vs : List (Option Verdict)). verdict_at vs m) is ∙ get_or-set_other verdicts n m (Some verdict) None other,
  ap (count_by is_some) is ∙ omega (
    arith,
    sum_by-set (λ (o : Option Verdict). cond (is_some o) 1 0) verdicts n (Some verdict) None within,
    ap (λ (o : Option Verdict). cond {A = ℕ} (is_some o) 1 0) none,
  ),
)

pub padded : (xs : List (Option Verdict)) (n : ℕ) → verdict_at (xs ++ None ∷ []) n ≡ verdict_at xs n
padded [] zero = refl
padded [] (suc n) = refl
padded (x ∷ xs) zero = refl
padded (x ∷ xs) (suc n) = padded xs n

none_at : (k n : ℕ) → verdict_at (replicate k None) n ≡ None
none_at zero n = refl
none_at (suc k) zero = refl
none_at (suc k) (suc n) = none_at k n

-- room behind the last one
pub filled : (xs : List (Option Verdict)) (k n : ℕ) → verdict_at (xs ++ replicate k None) n ≡ verdict_at xs n
filled [] k n = none_at k n
filled (x ∷ xs) k zero = refl
filled (x ∷ xs) k (suc n) = filled xs k n

pub resized : (xs ys : List (Option Verdict)) (k m n : ℕ) → ys ≡ take k xs ++ replicate m None → length xs ≤ k → verdict_at ys n ≡ verdict_at xs n
resized xs ys k m n is within =
    ap (λ (vs : List (Option Verdict)). verdict_at vs n) (is ∙ ap (λ (vs : List (Option Verdict)). vs ++ replicate m None) (take_all k xs within)) ∙ filled xs m n

-- ---- the routes that were gone over

all_behind : {A : Type 0} (P : A → Type 0) (xs ys : List A) → All P (xs ++ ys) → All P ys
all_behind P [] ys all = all
all_behind P (x ∷ xs) ys all = all_behind P xs ys (All-tail P x (xs ++ ys) all)

module _ (stored : Stored) where
  -- of these routes, those before the ones that are left have a verdict where they are sent
  pub record Covers (verdicts : List (Option Verdict)) (left : List (Key × ℕ)) : Type 0 where
    pub all : List (Key × ℕ)
    pub are : AreNumbered stored.state stored.cases all
    pub done : List (Key × ℕ)
    pub split : all ≡ done ++ left
    pub held : All (IsHeld stored verdicts) done

  abbrev Numbers : Key × ℕ → Type 0
  Numbers e = IsNumberOf stored.state stored.cases e.0 e.1

  pub covers_none : (verdicts : List (Option Verdict)) (all : List (Key × ℕ)) → AreNumbered stored.state stored.cases all → Covers verdicts all
  covers_none verdicts all are = record { all = all; are = are; done = []; split = refl; held = All-nil (IsHeld stored verdicts) }

  -- the next one is one of them
  pub next_number : (verdicts : List (Option Verdict)) (left more : List (Key × ℕ)) (e : Key × ℕ) → left ≡ e ∷ more → Covers verdicts left → IsNumberOf stored.state stored.cases e.0 e.1
  next_number verdicts left more e is covers =
      let numbers : All Numbers (covers.done ++ left) = subst (λ (es : List (Key × ℕ)). All Numbers es) covers.split covers.are.each in
      All-head Numbers e more (subst (λ (es : List (Key × ℕ)). All Numbers es) is (all_behind Numbers covers.done left numbers))

  -- one more was
  pub covers_more : (verdicts : List (Option Verdict)) (left more : List (Key × ℕ)) (e : Key × ℕ) → left ≡ e ∷ more → Covers verdicts left → IsHeld stored verdicts e → Covers verdicts more
  covers_more verdicts left more e is covers held = record {
    all = covers.all;
    are = covers.are;
    done = covers.done ++ e ∷ [];
    split = covers.split ∙ ap (λ (es : List (Key × ℕ)). covers.done ++ es) is ∙ sym (append_assoc covers.done (e ∷ []) more);
    held = All-push (IsHeld stored verdicts) covers.done e covers.held held;
  }

  module _ (role : Role) (ases : List ℕ) (n : ℕ) (old new : List (Option Verdict)) (holds : HoldsOne stored role ases n old new) where
    some_more : (m : ℕ) → IsSome (verdict_at old m) → IsSome (verdict_at new m)
    some_more m some = elim (decide_eq m n) [
      | inl same ↦ subst (λ (o : Option Verdict). IsSome o) (sym (ap (verdict_at new) same ∙ holds.here)) refl
      | inr other ↦ subst (λ (o : Option Verdict). IsSome o) (sym (holds.others m other)) some
    ]

    -- those before have theirs still
    pub covers_still : (left : List (Key × ℕ)) → Covers old left → Covers new left
    covers_still left covers = record {
      all = covers.all;
      are = covers.are;
      done = covers.done;
      split = covers.split;
      held = All-weaker (IsHeld stored old) (IsHeld stored new) (λ e held goes. some_more e.1 (held goes)) covers.done covers.held;
    }

    pub held_here : (key : Key) → IsHeld stored new (key, n)
    held_here key goes = subst (λ (o : Option Verdict). IsSome o) (sym holds.here) refl

    -- and what is held is right
    pub seen_more : IsSentCase stored.state (at stored.cases n) → AreSeen stored role ases old → AreSeen stored role ases new
    seen_more sent seen m verdict held = elim (decide_eq m n) [
      | inl same ↦
          let e : Some holds.verdict ≡ Some verdict = sym holds.here ∙ ap (verdict_at new) (sym same) ∙ held in
          let v : holds.verdict ≡ verdict = cc in
          subst (λ (k : ℕ). IsSentCase stored.state (at stored.cases k) × IsSeenCase stored.state role ases (at stored.cases k) verdict) (sym same)
          (sent, subst (λ (w : Verdict). IsSeenCase stored.state role ases (at stored.cases n) w) v holds.seen)
      | inr other ↦ seen m verdict (sym (holds.others m other) ∙ held)
    ]

  -- the case of a route that is sent
  sent_stored : (c : Option StoredCase) (asn : ℕ) (path : Path) → IsStoredAs c asn path → is_sent stored.state.roles asn ≡ true → IsSentCase stored.state c
  sent_stored None asn path here goes = absurd here
  sent_stored (Some c) asn path here goes = ap (is_sent stored.state.roles) here.0 ∙ goes

  pub sent_case : (e : Key × ℕ) → IsNumberOf stored.state stored.cases e.0 e.1 → is_sent stored.state.roles e.0.peer.asn ≡ true → IsSentCase stored.state (at stored.cases e.1)
  sent_case e number goes = sent_stored (at stored.cases e.1) e.0.peer.asn number.path number.stored goes

  some_stored : (c : Option StoredCase) (asn : ℕ) (path : Path) → IsStoredAs c asn path → IsSome c
  some_stored None asn path here = absurd here
  some_stored (Some c) asn path here = refl

  pub has_stored : (e : Key × ℕ) → IsNumberOf stored.state stored.cases e.0 e.1 → IsSome (at stored.cases e.1)
  has_stored e number = some_stored (at stored.cases e.1) e.0.peer.asn number.path number.stored

  -- ---- all of them

  module _ (distinct : AreDistinct stored.cases) where
    same_number : (key : Key) (m n : ℕ) → IsNumberOf stored.state stored.cases key m → IsNumberOf stored.state stored.cases key n → m ≡ n
    same_number key m n one other =
        let e : Some other.path ≡ Some one.path = sym other.route ∙ one.route in
        let path : other.path ≡ one.path = cc in
        distinct m n key.peer.asn one.path one.stored (subst (λ (p : Path). IsStoredAs (at stored.cases n) key.peer.asn p) path other.stored)

    same_routes : (es fs : List (Key × ℕ)) → map (λ (e : Key × ℕ). e.0) es ≡ map (λ (e : Key × ℕ). e.0) fs → All Numbers es → All Numbers fs → es ≡ fs
    same_routes [] [] keys one other = refl
    same_routes [] (f ∷ fs) keys one other = absurd (omega (arith, ap length keys))
    same_routes (e ∷ es) [] keys one other = absurd (omega (arith, ap length keys))
    same_routes (e ∷ es) (f ∷ fs) keys one other =
        let key : e.0 ≡ f.0 = cc in
        let more : map (λ (g : Key × ℕ). g.0) es ≡ map (λ (g : Key × ℕ). g.0) fs = cc in
        let number : e.1 ≡ f.1 = same_number f.0 e.1 f.1 (subst (λ (k : Key). IsNumberOf stored.state stored.cases k e.1) key (All-head Numbers e es one)) (All-head Numbers f fs other) in
        let rest : es ≡ fs = same_routes es fs more (All-tail Numbers e es one) (All-tail Numbers f fs other) in
        λ i. (key i, number i) ∷ rest i

    -- once none is left, each route that is sent has a verdict
    pub all_held : (verdicts : List (Option Verdict)) (left : List (Key × ℕ)) → left ≡ [] → Covers verdicts left → AreHeld stored verdicts
    all_held verdicts left none covers routes numbered =
        let whole : covers.all ≡ covers.done = covers.split ∙ ap (λ (es : List (Key × ℕ)). covers.done ++ es) none ∙ append-nil covers.done in
        let same : covers.done ≡ routes = sym whole ∙ same_routes covers.all routes (covers.are.keys ∙ sym numbered.keys) covers.are.each numbered.each in
        subst (λ (es : List (Key × ℕ)). All (IsHeld stored verdicts) es) same covers.held

-- ---- one case is judged

-- what is shown of a case is seen of it
seen_shown : (stored : Stored) (role : Role) (ases : List ℕ) (c : Option StoredCase) (case : Case) (verdict : Verdict) → IsShown (Some case) c
    → IsRight (table_of stored.state.parts) role (first_of ases) (sent_path ases case.trail.now) verdict → IsSeenCase stored.state role ases c verdict
seen_shown stored role ases None case verdict shown right = absurd shown
seen_shown stored role ases (Some c) case verdict shown right =
    subst (λ (p : Path). IsRight (table_of stored.state.parts) role (first_of ases) (sent_path ases p) verdict) shown.1 right

pub holds_one : (stored : Stored) (role : Role) (ases : List ℕ) (n : ℕ) (old room : List (Option Verdict)) (verdict : Verdict) → n < length room
    → ((m : ℕ) → verdict_at room m ≡ verdict_at old m) → count_by is_some room ≡ count_by is_some old → verdict_at old n ≡ None
    → (case : Case) (shown : Option Case) → shown ≡ Some case → IsShown shown (at stored.cases n) → (parts : Parts) → parts ≡ stored.state.parts
    → IsRight (table_of parts) role (first_of ases) (sent_path ases case.trail.now) verdict
    → HoldsOne stored role ases n old (set room n (Some verdict))
holds_one stored role ases n old room verdict within same counted free case shown is case_is parts parts_are right =
    let one = one_held room (set room n (Some verdict)) n verdict within (same n ∙ free) refl in
    record {
      verdict = verdict;
      seen = seen_shown stored role ases (at stored.cases n) case verdict (subst (λ (o : Option Case). IsShown o (at stored.cases n)) is case_is)
          (subst (λ (p : Parts). IsRight (table_of p) role (first_of ases) (sent_path ases case.trail.now) verdict) parts_are right);
      here = one.0;
      others = λ m other. one.1 m other ∙ same m;
      counted = one.2 ∙ ap (λ (k : ℕ). k + 1) counted;
    }
