-- How many verdicts are held of the routes that are sent: one for each distinct pair of a peer AS and a path.
use Rattle.std.proofs.Common.{◌≡◌, ◌≢◌, ℕ, zero, suc, ◌+◌, ◌<◌, ◌≤◌, Bool, true, false, true≢false, cond, is_some, List, [], ◌∷◌, ◌++◌, length, map, Some, None, IsSome, Ok, Err, OnOk, refl, sym, ap, subst, ◌∙◌, arith, ◌⊎◌, inl, inr}
use Rattle.std.specs.Prelude.{Contains, IsErr}
use Rattle.std.specs.FinMap as fin
use Rattle.std.specs.List.{All, count_by}
use Rattle.std.specs.declared.option.Option.{Option}
use Rattle.std.specs.declared.result.Result.{Result}
use Rattle.std.proofs.lemmas.List.Elements.{All-contains, All-contains_itself, All-weaker}
use Rattle.std.proofs.lemmas.List.Sums.{sum_by-cons}
use Rattle.av_base.specs.declared.stop.Stop.{Stop}
use Rattle.path_model.specs.declared.key.Key.{Key}
use Rattle.path_model.specs.declared.role.Role.{Role}
use Rattle.path_model.specs.declared.verdict.Verdict.{Verdict}
use Rattle.path_model.specs.Trail.{Path}
use Rattle.rib_store.specs.Numbered.{IsNumberOf, AreNumbered}
use Rattle.rib_store.specs.Pairs.{ArePairs, IsPaired, Paired, has_pair, pair_of}
use Rattle.rib_store.specs.Sharing.{AreCasesOf}
use Rattle.rib_store.specs.State.{State}
use Rattle.rib_store.specs.Stored.{Stored}
use Rattle.rib_store.proofs.ApartLemmas.{apart_within}
use Rattle.rib_store.proofs.PairLemmas.{pair_decides}
use Rattle.shared_cases.specs.declared.case.StoredCase.{StoredCase}
use Rattle.shared_cases.specs.Cases.{Slots, at, IsStoredAs}
use Rattle.shared_cases.specs.Touched.{AreApart}
use Rattle.listings.specs.EachSent.{AreHeld, AreSeen, HoldsOne, IsHeld, IsSeenCase, IsSentCase, verdict_at}
use Rattle.listings.specs.Sent.{IsSentPair, TicksAsSent, is_sent}
use Rattle.listings.specs.Tallies.{IsNumberOf as IsNumber}
use Rattle.listings.proofs.TallyCountLemmas.{HasShown, in_cases, in_head, in_map, in_none, in_tail, number_by, some_member}
use Rattle.listings.proofs.TallyHitLemmas.{entry_route, route_entry}
use Rattle.listings.proofs.TallyPairsLemmas.{some_pairs}
use Rattle.listings.proofs.TallyUniqueLemmas.{number_same, shown_in}

-- ---- each state has one number of such pairs

module _ (state : State) (pairs : List Paired) (are : ArePairs state pairs) where
  -- a pair that some route has
  of_route : (p : Paired) → Contains pairs p → (key : Key) × (key.peer.asn ≡ p.asn) × (fin.get state.routes key ≡ Some p.standing.path)
  of_route p there =
      let paired : IsPaired state p = All-contains (IsPaired state) pairs p are.each there in
      let found : (e : Key × Path) × Contains (fin.entries state.routes) e × (has_pair p.asn p.standing.path e ≡ true) =
      some_member (has_pair p.asn p.standing.path) (fin.entries state.routes) (omega (arith, paired.some, paired.counted)) in
      let same = (pair_decides p.asn p.standing.path found.0).0 found.2 in (
        found.0.0,
        same.0,
        entry_route state.routes found.0.0 found.0.1 found.1 ∙ ap Some same.1,
      )

  abbrev passes : Paired → Bool
  passes p = is_sent state.roles p.asn

  sound : (y : ℕ × Path) → HasShown pair_of passes pairs y → IsSentPair state y
  sound y has =
      let route : (key : Key) × (key.peer.asn ≡ has.member.asn) × (fin.get state.routes key ≡ Some has.member.standing.path) = of_route has.member has.contained in
      record {
        sent = ap (λ (q : ℕ × Path). is_sent state.roles q.0) (sym has.shown) ∙ has.passes;
        key = route.0;
        asn = route.1 ∙ ap (λ (q : ℕ × Path). q.0) has.shown;
        route = route.2 ∙ ap (λ (q : ℕ × Path). Some q.1) has.shown;
      }

  whole : (y : ℕ × Path) → IsSentPair state y → HasShown pair_of passes pairs y
  whole y is =
      let there : Contains (map pair_of pairs) (is.key.peer.asn, y.1) = are.all is.key y.1 is.route in
      let member : (p : Paired) × Contains pairs p × (pair_of p ≡ (is.key.peer.asn, y.1)) = in_map pair_of pairs (is.key.peer.asn, y.1) there in
      let shown : pair_of member.0 ≡ y = member.2 ∙ (λ i. (is.asn i, y.1)) in
      record {
        member = member.0;
        contained = member.1;
        passes = ap (λ (q : ℕ × Path). is_sent state.roles q.0) shown ∙ is.sent;
        shown = shown;
      }

  number_here : IsNumber (IsSentPair state) (count_by passes pairs)
  number_here = number_by pair_of passes (IsSentPair state) pairs (count_by passes pairs) are.apart sound whole refl

pub some_number : (state : State) → (n : ℕ) × IsNumber (IsSentPair state) n
some_number state = let pairs = some_pairs state in (_, number_here state pairs.0 pairs.1)

-- ---- the pairs of which a verdict is held

abbrev no_pair : ℕ × Path
no_pair = (0, record { set = false; chain = [] })

abbrev pair_at : Option StoredCase → ℕ × Path
pair_at None = no_pair
pair_at (Some c) = (c.asn, c.trail)

module _ (state : State) (cases : Slots) (are : AreCasesOf state cases) where
  -- the pairs of the cases from number k on of which these verdicts are held
  abbrev members : ℕ → List (Option Verdict) → List (ℕ × Path)
  members k [] = []
  members k (None ∷ vs) = members (suc k) vs
  members k (Some v ∷ vs) = pair_at (at cases k) ∷ members (suc k) vs

  abbrev AreOfSent : ℕ → List (Option Verdict) → Type 0
  AreOfSent k vs = (n : ℕ) (v : Verdict) → verdict_at vs n ≡ Some v → IsSentCase state (at cases (k + n))

  -- where each is held of a case whose routes are sent
  pub all_of_sent : (vs : List (Option Verdict)) → ((n : ℕ) (v : Verdict) → verdict_at vs n ≡ Some v → IsSentCase state (at cases n)) → AreOfSent 0 vs
  all_of_sent vs sent n v held =
      let same : n ≡ 0 + n = omega arith in
      subst (λ (j : ℕ). IsSentCase state (at cases j)) same (sent n v held)

  as_many : (k : ℕ) (vs : List (Option Verdict)) → length (members k vs) ≡ count_by is_some vs
  as_many k [] = refl
  as_many k (None ∷ vs) = omega (arith, sum_by-cons (λ (o : Option Verdict). cond (is_some o) 1 0) None vs, as_many (suc k) vs)
  as_many k (Some v ∷ vs) = omega (arith, sum_by-cons (λ (o : Option Verdict). cond (is_some o) 1 0) (Some v) vs, as_many (suc k) vs)

  -- where a member stands
  record IsMember (k : ℕ) (vs : List (Option Verdict)) (pair : ℕ × Path) : Type 0 where
    place : ℕ
    verdict : Verdict
    held : verdict_at vs place ≡ Some verdict
    is : pair_at (at cases (k + place)) ≡ pair

  member_later : (k : ℕ) (o : Option Verdict) (vs : List (Option Verdict)) (pair : ℕ × Path) → IsMember (suc k) vs pair → IsMember k (o ∷ vs) pair
  member_later k o vs pair m =
      let same : suc k + m.place ≡ k + suc m.place = omega arith in
      record { place = suc m.place; verdict = m.verdict; held = m.held; is = ap (λ (j : ℕ). pair_at (at cases j)) (sym same) ∙ m.is }

  member_first : (k : ℕ) (v : Verdict) (vs : List (Option Verdict)) (pair : ℕ × Path) → pair_at (at cases k) ≡ pair → IsMember k (Some v ∷ vs) pair
  member_first k v vs pair is =
      let same : k + 0 ≡ k = omega arith in
      record { place = 0; verdict = v; held = refl; is = ap (λ (j : ℕ). pair_at (at cases j)) same ∙ is }

  member_of : (k : ℕ) (vs : List (Option Verdict)) (pair : ℕ × Path) → Contains (members k vs) pair → IsMember k vs pair
  member_of k [] pair there = absurd (in_none pair there)
  member_of k (None ∷ vs) pair there = member_later k None vs pair (member_of (suc k) vs pair there)
  member_of k (Some v ∷ vs) pair there = elim (in_cases (pair_at (at cases k)) (members (suc k) vs) pair there) [
    | inl first ↦ member_first k v vs pair first
    | inr later ↦ member_later k (Some v) vs pair (member_of (suc k) vs pair later)
  ]

  of_member : (k : ℕ) (vs : List (Option Verdict)) (n : ℕ) (v : Verdict) → verdict_at vs n ≡ Some v → Contains (members k vs) (pair_at (at cases (k + n)))
  of_member k [] n v held = let no : ⊥ = cc in absurd no
  of_member k (None ∷ vs) zero v held = let no : ⊥ = cc in absurd no
  of_member k (Some w ∷ vs) zero v held =
      let same : k ≡ k + 0 = omega arith in
      subst (λ (j : ℕ). Contains (members k (Some w ∷ vs)) (pair_at (at cases j))) same (in_head (pair_at (at cases k)) (members (suc k) vs))
  of_member k (None ∷ vs) (suc n) v held =
      let same : suc k + n ≡ k + suc n = omega arith in
      subst (λ (j : ℕ). Contains (members (suc k) vs) (pair_at (at cases j))) same (of_member (suc k) vs n v held)
  of_member k (Some w ∷ vs) (suc n) v held =
      let same : suc k + n ≡ k + suc n = omega arith in
      in_tail (pair_at (at cases k)) (members (suc k) vs) (pair_at (at cases (k + suc n)))
      (subst (λ (j : ℕ). Contains (members (suc k) vs) (pair_at (at cases j))) same (of_member (suc k) vs n v held))

  stored_pair : (c : Option StoredCase) → IsSentCase state c → IsStoredAs c (pair_at c).0 (pair_at c).1
  stored_pair None sent = absurd sent
  stored_pair (Some c) sent = (refl, refl)

  later_of_sent : (k : ℕ) (o : Option Verdict) (vs : List (Option Verdict)) → AreOfSent k (o ∷ vs) → AreOfSent (suc k) vs
  later_of_sent k o vs sent n v held =
      let same : k + suc n ≡ suc k + n = omega arith in
      subst (λ (j : ℕ). IsSentCase state (at cases j)) same (sent (suc n) v held)

  first_of_sent : (k : ℕ) (v : Verdict) (vs : List (Option Verdict)) → AreOfSent k (Some v ∷ vs) → IsSentCase state (at cases k)
  first_of_sent k v vs sent =
      let same : k + 0 ≡ k = omega arith in
      subst (λ (j : ℕ). IsSentCase state (at cases j)) same (sent 0 v refl)

  members_apart : (k : ℕ) (vs : List (Option Verdict)) → AreOfSent k vs → AreApart (members k vs)
  members_apart k [] sent = tt
  members_apart k (None ∷ vs) sent = members_apart (suc k) vs (later_of_sent k None vs sent)
  members_apart k (Some v ∷ vs) sent = (
    All-weaker (Contains (members (suc k) vs)) (λ (q : ℕ × Path). pair_at (at cases k) ≢ q) differs (members (suc k) vs) (All-contains_itself (members (suc k) vs)),
    members_apart (suc k) vs (later_of_sent k (Some v) vs sent),
  ) where
    differs : (q : ℕ × Path) → Contains (members (suc k) vs) q → pair_at (at cases k) ≢ q
    differs q there same =
        let m = member_of (suc k) vs q there in
        let here = stored_pair (at cases k) (first_of_sent k v vs sent) in
        let also = stored_pair (at cases (suc k + m.place)) (later_of_sent k (Some v) vs sent m.place m.verdict m.held) in
        let both : pair_at (at cases (suc k + m.place)) ≡ pair_at (at cases k) = m.is ∙ sym same in
        let number : k ≡ suc k + m.place = are.apart k (suc k + m.place) (pair_at (at cases k)).0 (pair_at (at cases k)).1 here
        (subst (λ (p : ℕ × Path). IsStoredAs (at cases (suc k + m.place)) p.0 p.1) both also) in
        absurd (omega (arith, number))

  sent_asn : (c : Option StoredCase) → IsSentCase state c → is_sent state.roles (pair_at c).0 ≡ true
  sent_asn None sent = absurd sent
  sent_asn (Some c) sent = sent

  module _ (verdicts : List (Option Verdict)) (sent : AreOfSent 0 verdicts) where
    pair_sent : (n : ℕ) → IsSentCase state (at cases n) → IsSentPair state (pair_at (at cases n))
    pair_sent n case =
        let route = are.of_a_route n (pair_at (at cases n)).0 (pair_at (at cases n)).1 (stored_pair (at cases n) case) in
        record { sent = sent_asn (at cases n) case; key = route.0; asn = route.1; route = route.2 }

    each_sent : (pair : ℕ × Path) → Contains (members 0 verdicts) pair → IsSentPair state pair
    each_sent pair there =
        let m = member_of 0 verdicts pair there in
        subst (IsSentPair state) m.is (pair_sent (0 + m.place) (sent m.place m.verdict m.held))

    -- no more than there are pairs
    pub few_held : (pairs : ℕ) → IsNumber (IsSentPair state) pairs → count_by is_some verdicts ≤ pairs
    few_held pairs number =
        let within : length (members 0 verdicts) ≤ length number.members = apart_within (members 0 verdicts) number.members (members_apart 0 verdicts sent)
        (All-weaker (Contains (members 0 verdicts)) (Contains number.members) (λ x h. (number.exact x).1 (each_sent x h)) (members 0 verdicts) (All-contains_itself (members 0 verdicts))) in
        omega (arith, within, number.counted, as_many 0 verdicts)

    stored_is : (c : Option StoredCase) (asn : ℕ) (path : Path) → IsStoredAs c asn path → pair_at c ≡ (asn, path)
    stored_is None asn path here = absurd here
    stored_is (Some c) asn path here = λ i. (here.0 i, here.1 i)

    some_verdict : (o : Option Verdict) → IsSome o → (v : Verdict) × (o ≡ Some v)
    some_verdict None is = absurd (true≢false (sym is))
    some_verdict (Some v) is = (v, refl)

    -- and as many, where one is held for each route that is sent
    pub all_counted : (routes : List (Key × ℕ)) → AreNumbered state cases routes → All (λ (e : Key × ℕ). is_sent state.roles e.0.peer.asn ≡ true → IsSome (verdict_at verdicts e.1)) routes
        → IsNumber (IsSentPair state) (count_by is_some verdicts)
    all_counted routes numbered held = record {
      members = members 0 verdicts;
      apart = members_apart 0 verdicts sent;
      exact = λ pair. (each_sent pair, λ is. there pair is);
      counted = sym (as_many 0 verdicts);
    } where
      there : (pair : ℕ × Path) → IsSentPair state pair → Contains (members 0 verdicts) pair
      there pair is =
          let key_there : Contains (map (λ (e : Key × ℕ). e.0) routes) is.key =
          subst (λ (ks : List Key). Contains ks is.key) (sym numbered.keys)
          (shown_in (λ (e : Key × Path). e.0) (fin.entries state.routes) (is.key, pair.1) (route_entry state.routes is.key pair.1 is.route)) in
          let e : (e : Key × ℕ) × Contains routes e × (e.0 ≡ is.key) = in_map (λ (f : Key × ℕ). f.0) routes is.key key_there in
          let number : IsNumberOf state cases e.0.0 e.0.1 = All-contains (λ (f : Key × ℕ). IsNumberOf state cases f.0 f.1) routes e.0 numbered.each e.1 in
          let asn : e.0.0.peer.asn ≡ pair.0 = ap (λ (k : Key). k.peer.asn) e.2 ∙ is.asn in
          let route : Some number.path ≡ Some pair.1 = sym number.route ∙ ap (fin.get state.routes) e.2 ∙ is.route in
          let path : number.path ≡ pair.1 = cc in
          let some = All-contains (λ (f : Key × ℕ). is_sent state.roles f.0.peer.asn ≡ true → IsSome (verdict_at verdicts f.1)) routes e.0 held e.1
          (ap (is_sent state.roles) asn ∙ is.sent) in
          let v = some_verdict (verdict_at verdicts e.0.1) some in
          let zero_is : 0 + e.0.1 ≡ e.0.1 = omega arith in
          subst (λ (p : ℕ × Path). Contains (members 0 verdicts) p)
          (ap (λ (j : ℕ). pair_at (at cases j)) zero_is ∙ stored_is (at cases e.0.1) e.0.0.peer.asn number.path number.stored ∙ (λ i. (asn i, path i)))
          (of_member 0 verdicts e.0.1 v.0 v.1)

-- ---- the ticks

on_ok : {T : Type 0} (P : Type 0) (result : Result T Stop) → P → OnOk result P
on_ok P (Ok x) p = p
on_ok P (Err stop) p = tt

-- all were judged
pub ticks_whole : {T : Type 0} (stored : Stored) (role : Role) (ases : List ℕ) (verdicts : List (Option Verdict)) (routes : List (Key × ℕ)) (old first new : ℕ) (result : Result T Stop)
    → AreCasesOf stored.state stored.cases → AreSeen stored role ases verdicts → AreNumbered stored.state stored.cases routes → AreHeld stored verdicts
    → first ≡ old + 1 → new ≡ first + count_by is_some verdicts → TicksAsSent stored.state old new result
ticks_whole {T} stored role ases verdicts routes old first new result are seen numbered held one rest = record {
  pairs = count_by is_some verdicts;
  are = all_counted stored.state stored.cases are verdicts (all_of_sent stored.state stored.cases are verdicts (λ n v here. (seen n v here).0)) routes numbered (held routes numbered);
  most = omega (arith, one, rest);
  whole = on_ok (new ≡ old + 1 + count_by is_some verdicts) result (omega (arith, one, rest));
}

-- memory ran out before
pub ticks_failed : {T : Type 0} (state : State) (old new : ℕ) (result : Result T Stop) → IsErr result
    → ((pairs : ℕ) → IsNumber (IsSentPair state) pairs → new ≤ old + 1 + pairs) → TicksAsSent state old new result
ticks_failed {T} state old new (Ok x) is most = absurd (true≢false (sym is))
ticks_failed {T} state old new (Err stop) is most =
    let number = some_number state in
    record { pairs = number.0; are = number.1; most = most number.0 number.1; whole = tt }

-- while they are gathered, no more than there are pairs
pub most_held : (stored : Stored) (role : Role) (ases : List ℕ) (verdicts : List (Option Verdict)) (old now new : ℕ) → AreCasesOf stored.state stored.cases → AreSeen stored role ases verdicts
    → now ≡ old + count_by is_some verdicts → new ≡ now → (pairs : ℕ) → IsNumber (IsSentPair stored.state) pairs → new ≤ old + pairs
most_held stored role ases verdicts old now new are seen so_far same pairs number =
    omega (arith, so_far, same, few_held stored.state stored.cases are verdicts (all_of_sent stored.state stored.cases are verdicts (λ n v here. (seen n v here).0)) pairs number)
