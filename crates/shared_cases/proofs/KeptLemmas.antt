-- What is kept of the cases when one of them changes.
use Rattle.std.proofs.Common.{◌≡◌, ◌≢◌, ℕ, nat_eq, Bool, not, ◌||◌, ◌&&◌, true, false, List, [], ◌∷◌, None, Some, refl, ap, sym, subst, ◌∙◌, ◌⊎◌, inl, inr, true≢false}
use Rattle.std.specs.declared.option.Option.{Option}
use Rattle.std.proofs.lemmas.Bool.{false_from_ne_true, or_left, or_right, or_parts}
use Rattle.path_model.specs.declared.verdict.Verdict.{Verdict}
use Rattle.path_model.specs.declared.verdict.Verdict.TheVariants.{Valid, Unknown, Invalid}
use Rattle.shared_cases.specs.declared.case.StoredCase.{StoredCase}
use Rattle.shared_cases.specs.declared.names.Names.{Names}
use Rattle.shared_cases.specs.Cases.{Slots, at, differs, has_differed, same_verdict, Rewrites, IsSettled, IsSameCase, AreSameCases, marked_now}
use Rattle.shared_cases.specs.Differed.{AreNewlyDiffering, AreSettledOrDiffered, HasDiffered, HaveDiffered}
use Rattle.shared_cases.specs.Kept.{AreIndexed, AreKept, Hops}
use Rattle.shared_cases.specs.Naming.{AreNamed}
use Rattle.shared_cases.specs.Numbers.{has}
use Rattle.shared_cases.specs.Owning.{owned_of, IsOwnOrAmong, SayTheSame}
use Rattle.shared_cases.specs.Peers.{ByPeer, Members}
use Rattle.shared_cases.specs.Taking.{lowered_by, raised}
use Rattle.shared_cases.proofs.CaseLemmas.{rewritten, same_names}
use Rattle.shared_cases.proofs.NamingLemmas.{IsSameName}
use Rattle.shared_cases.proofs.NumberLemmas.{decide_eq, has_cases, has_first, has_later}
use Rattle.shared_cases.proofs.OwnLemmas.{owned_among, owned_differed, owned_name, owned_settled, same_among}

-- what holds of each number
each_at : (P : ℕ → Option StoredCase → Type 0) (old new : Slots) (n m : ℕ) (v : Option StoredCase) → Rewrites old new n v → P n v → (m ≢ n → P m (at old m)) → (m ≡ n) ⊎ (m ≢ n) → P m (at new m)
each_at P old new n m v writes here was (inl e) = subst (λ (k : ℕ). P k (at new k)) (sym e) (subst (P n) (sym writes.here) here)
each_at P old new n m v writes here was (inr other) = subst (P m) (sym (writes.others m other)) (was other)

-- a case is settled or has differed, and where it has, it is among those; and its AS is among these, but where the case says that it has a role of its own
abbrev pub IsListed : List ℕ → List ℕ → ℕ → Option StoredCase → Type 0
IsListed differed ases n c = (has_differed c ≡ false → IsSettled c) × (has_differed c ≡ true → has differed n ≡ true) × IsOwnOrAmong ases c

-- and so is one that changes
each_listed : (old new : Slots) (n : ℕ) (v : Option StoredCase) (differed ases : List ℕ) → Rewrites old new n v → ((m : ℕ) → m ≢ n → IsListed differed ases m (at old m))
    → IsListed differed ases n v → (m : ℕ) → IsListed differed ases m (at new m)
each_listed old new n v differed ases writes were here m = each_at (IsListed differed ases) old new n m v writes here (were m) (decide_eq m n)

-- no cases
pub none_kept : (names : Names) (hops : Hops) (differed : List ℕ) → AreNamed [] names → ((x y n : ℕ) → hops x y n ≡ false) → AreKept [] names hops (record { members = []; defaulted = [] }) differed
none_kept names hops differed named nothing = record {
  indexed = record { named = named; indexed = nothing; members = λ asn n. refl };
  settled = λ n hasnt. tt;
  listed = λ n has_it. absurd (true≢false (sym has_it));
  defaulted = λ n. tt;
}

-- a case that is settled and hasn't differed comes or goes
pub rewritten_kept : (old new : Slots) (n : ℕ) (v : Option StoredCase) (names names' : Names) (hops hops' : Hops) (peers peers' : ByPeer) (differed : List ℕ) → AreKept old names hops peers differed
    → Rewrites old new n v → has_differed v ≡ false → IsSettled v → AreIndexed new names' hops' peers'.members
    → IsOwnOrAmong peers'.defaulted v → ((m : ℕ) → m ≢ n → IsOwnOrAmong peers.defaulted (at old m) → IsOwnOrAmong peers'.defaulted (at old m)) → AreKept new names' hops' peers' differed
rewritten_kept old new n v names names' hops hops' peers peers' differed kept writes hasnt settled indexed among stay =
    let each = each_listed old new n v differed peers'.defaulted writes (λ m other. (kept.settled m, kept.listed m, stay m other (kept.defaulted m)))
    ((λ is. settled), (λ has_it. absurd (true≢false (sym has_it ∙ hasnt))), among) in
    record { indexed = indexed; settled = λ m. (each m).0; listed = λ m. (each m).1; defaulted = λ m. (each m).2 }

module _ (old new : Slots) (n : ℕ) (names : Names) (hops : Hops) (peers : ByPeer) (differed : List ℕ) (kept : AreKept old names hops peers differed) where
  -- a case with another number of users
  rewrite_kept : (v : Option StoredCase) → Rewrites old new n v → IsSameName (at old n) v → (IsListed differed peers.defaulted n (at old n) → IsListed differed peers.defaulted n v)
      → AreKept new names hops peers differed
  rewrite_kept v writes same keeps =
      let each = each_listed old new n v differed peers.defaulted writes (λ m other. (kept.settled m, kept.listed m, kept.defaulted m)) (keeps (kept.settled n, kept.listed n, kept.defaulted n)) in
      record {
        indexed = rewritten old new n v names hops peers.members writes same kept.indexed;
        settled = λ m. (each m).0;
        listed = λ m. (each m).1;
        defaulted = λ m. (each m).2;
      }

  pub raised_kept : Rewrites old new n (raised (at old n)) → AreKept new names hops peers differed
  raised_kept writes = rewrite_kept (raised (at old n)) writes (same (at old n)) (keeps (at old n)) where
    same : (c : Option StoredCase) → IsSameName c (raised c)
    same None = tt
    same (Some c) = (refl, refl)

    keeps : (c : Option StoredCase) → IsListed differed peers.defaulted n c → IsListed differed peers.defaulted n (raised c)
    keeps None is = is
    keeps (Some c) is = is

  pub lowered_kept : (k : ℕ) → Rewrites old new n (lowered_by k (at old n)) → AreKept new names hops peers differed
  lowered_kept k writes = rewrite_kept (lowered_by k (at old n)) writes (same (at old n)) (keeps (at old n)) where
    same : (c : Option StoredCase) → IsSameName c (lowered_by k c)
    same None = tt
    same (Some c) = (refl, refl)

    keeps : (c : Option StoredCase) → IsListed differed peers.defaulted n c → IsListed differed peers.defaulted n (lowered_by k c)
    keeps None is = is
    keeps (Some c) is = is

-- ---- the same is done to each of some cases, where doing it twice is doing it once
pub record IsDoing (done : Option StoredCase → Option StoredCase) (chosen : ℕ → Bool) (first now : Slots) (rest : List ℕ) : Type 0 where
  pub done_to : (n : ℕ) → chosen n ≡ true → (has rest n ≡ true) ⊎ (at now n ≡ done (at first n))
  pub within : (n : ℕ) → has rest n ≡ true → chosen n ≡ true
  pub others : (n : ℕ) → chosen n ≡ false → at now n ≡ at first n
  pub same : (n : ℕ) → done (at now n) ≡ done (at first n)

module _ (done : Option StoredCase → Option StoredCase) (twice : (c : Option StoredCase) → done (done c) ≡ done c) (chosen : ℕ → Bool) (first now next : Slots) (x : ℕ) (rest : List ℕ)
    (so_far : IsDoing done chosen first now (x ∷ rest)) (writes : Rewrites now next x (done (at now x))) where
  done_here : (n : ℕ) → n ≡ x → at next n ≡ done (at first n)
  done_here n e = ap (at next) e ∙ writes.here ∙ so_far.same x ∙ ap (λ (k : ℕ). done (at first k)) (sym e)

  done_kept : (n : ℕ) → at now n ≡ done (at first n) → (n ≡ x) ⊎ (n ≢ x) → at next n ≡ done (at first n)
  done_kept n was (inl e) = done_here n e
  done_kept n was (inr other) = writes.others n other ∙ was

  done_next : (n : ℕ) → (has (x ∷ rest) n ≡ true) ⊎ (at now n ≡ done (at first n)) → (has rest n ≡ true) ⊎ (at next n ≡ done (at first n))
  done_next n (inl there) = elim (has_cases n x rest there) [ inl e ↦ inr (done_here n e) | inr later ↦ inl later ]
  done_next n (inr was) = inr (done_kept n was (decide_eq n x))

  same_next : (n : ℕ) → (n ≡ x) ⊎ (n ≢ x) → done (at next n) ≡ done (at first n)
  same_next n (inl e) = ap done (ap (at next) e ∙ writes.here) ∙ twice (at now x) ∙ so_far.same x ∙ ap (λ (k : ℕ). done (at first k)) (sym e)
  same_next n (inr other) = ap done (writes.others n other) ∙ so_far.same n

  pub doing_next : IsDoing done chosen first next rest
  doing_next = record {
    done_to = λ n is. done_next n (so_far.done_to n is);
    within = λ n later. so_far.within n (has_later n x rest later);
    others = λ n isnt. writes.others n (λ e. true≢false (sym (so_far.within n (has_first n x rest e)) ∙ isnt)) ∙ so_far.others n isnt;
    same = λ n. same_next n (decide_eq n x);
  }

-- ---- marking
pub marked_twice : (c : Option StoredCase) → marked_now (marked_now c) ≡ marked_now c
marked_twice None = refl
marked_twice (Some c) = refl

settled_marked : (c : Option StoredCase) → has_differed c ≡ false → IsSettled c → marked_now c ≡ c
settled_marked None hasnt settled = refl
settled_marked (Some c) hasnt settled = λ i. Some (record c { marked = sym settled i; differed = sym hasnt i })

settled_now : (c : Option StoredCase) → (has_differed (marked_now c) ≡ false) × IsSettled (marked_now c)
settled_now None = (refl, tt)
settled_now (Some c) = (refl, refl)

marked_by : (c d : Option StoredCase) (b : Bool) → (b ≡ true → d ≡ marked_now c) → (b ≡ false → d ≡ c) → (has_differed c ≡ false → IsSettled c) → (has_differed c ≡ true → b ≡ true) → d ≡ marked_now c
marked_by c d true marked others settled listed = marked refl
marked_by c d false marked others settled listed =
    let hasnt : has_differed c ≡ false = false_from_ne_true (has_differed c) (λ has_it. true≢false (sym (listed has_it))) in
    others refl ∙ sym (settled_marked c hasnt (settled hasnt))

-- each case has its verdict as the marked one: those that have differed are marked, and the others had
pub all_marked : (old new : Slots) (names : Names) (hops : Hops) (peers : ByPeer) (differed : List ℕ) → AreKept old names hops peers differed
    → ((n : ℕ) → has differed n ≡ true → at new n ≡ marked_now (at old n)) → ((n : ℕ) → has differed n ≡ false → at new n ≡ at old n) → (n : ℕ) → at new n ≡ marked_now (at old n)
all_marked old new names hops peers differed kept marked others n = marked_by (at old n) (at new n) (has differed n) (marked n) (others n) (kept.settled n) (kept.listed n)

marked_same : (c : Option StoredCase) → IsSameName c (marked_now c)
marked_same None = tt
marked_same (Some c) = (refl, refl)

marked_among : (ases : List ℕ) (c : Option StoredCase) → IsOwnOrAmong ases c → IsOwnOrAmong ases (marked_now c)
marked_among ases None is = tt
marked_among ases (Some c) is = is

pub marked_all_kept : (old new : Slots) (names : Names) (hops : Hops) (peers : ByPeer) (differed differed' : List ℕ) → AreKept old names hops peers differed
    → ((n : ℕ) → at new n ≡ marked_now (at old n)) → AreKept new names hops peers differed'
marked_all_kept old new names hops peers differed differed' kept marked = record {
  indexed = same_names old new names hops peers.members (λ n. subst (λ (o : Option StoredCase). IsSameName (at old n) o) (sym (marked n)) (marked_same (at old n))) kept.indexed;
  settled = λ n hasnt. subst (λ (o : Option StoredCase). IsSettled o) (sym (marked n)) (settled_now (at old n)).1;
  listed = λ n has_it. absurd (true≢false (sym has_it ∙ ap has_differed (marked n) ∙ (settled_now (at old n)).0));
  defaulted = λ n. subst (IsOwnOrAmong peers.defaulted) (sym (marked n)) (marked_among peers.defaulted (at old n) (kept.defaulted n));
}

-- ---- other judgements
same_case_name : (c d : Option StoredCase) → IsSameCase c d → IsSameName c d
same_case_name None None same = tt
same_case_name None (Some d) same = absurd same
same_case_name (Some c) None same = absurd same
same_case_name (Some c) (Some d) same = (same.0, same.1)

same_settled : (a b : Verdict) → not (same_verdict a b) ≡ false → a ≡ b
same_settled Valid Valid e = refl
same_settled Valid Unknown e = absurd (true≢false e)
same_settled Valid Invalid e = absurd (true≢false e)
same_settled Unknown Valid e = absurd (true≢false e)
same_settled Unknown Unknown e = refl
same_settled Unknown Invalid e = absurd (true≢false e)
same_settled Invalid Valid e = absurd (true≢false e)
same_settled Invalid Unknown e = absurd (true≢false e)
same_settled Invalid Invalid e = refl

settled_same : (a b : Verdict) → a ≡ b → not (same_verdict a b) ≡ false
settled_same a b e = subst (λ (v : Verdict). not (same_verdict a v) ≡ false) e (itself a) where
  itself : (a : Verdict) → not (same_verdict a a) ≡ false
  itself Valid = refl
  itself Unknown = refl
  itself Invalid = refl

-- a case is settled exactly where it doesn't differ
settled_from : (c : Option StoredCase) → differs c ≡ false → IsSettled c
settled_from None e = tt
settled_from (Some c) e = same_settled c.marked c.judged.verdict e

differs_not : (c : Option StoredCase) → IsSettled c → differs c ≡ false
differs_not None settled = refl
differs_not (Some c) settled = settled_same c.marked c.judged.verdict settled

-- a case that stays as it is has differed where it had
same_differed : (c : Option StoredCase) (b : Bool) → has_differed c ≡ b → (b ≡ false → IsSettled c) → HasDiffered c c
same_differed c true e settled = e ∙ sym (ap (λ (d : Bool). d || differs c) e)
same_differed c false e settled = e ∙ sym (ap (λ (d : Bool). d || differs c) e ∙ differs_not c (settled refl))

module _ (old new : Slots) (touched : List ℕ) (others : (n : ℕ) → has touched n ≡ false → at new n ≡ at old n) (settled : AreSettledOrDiffered old) where
  differed_by : (n : ℕ) (b : Bool) → has touched n ≡ b → (has touched n ≡ true → HasDiffered (at old n) (at new n)) → HasDiffered (at old n) (at new n)
  differed_by n true there here = here there
  differed_by n false there here = subst (λ (o : Option StoredCase). HasDiffered (at old n) o) (sym (others n there)) (same_differed (at old n) (has_differed (at old n)) refl (settled n))

  -- the cases that weren't judged anew have differed where they had
  pub all_differed : ((n : ℕ) → has touched n ≡ true → HasDiffered (at old n) (at new n)) → HaveDiffered old new
  all_differed here n = differed_by n (has touched n) refl (here n)

settled_by : (c d : Option StoredCase) → HasDiffered c d → has_differed d ≡ false → IsSettled d
settled_by c d had hasnt = settled_from d (or_parts (has_differed c) (differs d) (sym had ∙ hasnt)).1

listed_by : (was now old_listed newly : Bool) → newly ≡ (now && not was) → (was ≡ true → old_listed ≡ true) → now ≡ true → (old_listed || newly) ≡ true
listed_by true true old_listed newly told kept is = or_left old_listed newly (kept refl)
listed_by false true old_listed newly told kept is = or_right old_listed newly told
listed_by was false old_listed newly told kept is = absurd (true≢false (sym is))

-- cases that were judged anew
pub rejudged_kept : (old new : Slots) (names : Names) (hops : Hops) (peers : ByPeer) (differed differed' newly : List ℕ) → AreKept old names hops peers differed
    → AreSameCases old new → SayTheSame old new → HaveDiffered old new → AreNewlyDiffering old new newly → ((n : ℕ) → has differed' n ≡ (has differed n || has newly n)) → AreKept new names hops peers differed'
rejudged_kept old new names hops peers differed differed' newly kept same say have told more = record {
  indexed = same_names old new names hops peers.members (λ n. same_case_name (at old n) (at new n) (same n)) kept.indexed;
  settled = λ n hasnt. settled_by (at old n) (at new n) (have n) hasnt;
  listed = λ n has_it. more n ∙ listed_by (has_differed (at old n)) (has_differed (at new n)) (has differed n) (has newly n) (told n) (kept.listed n) has_it;
  defaulted = λ n. same_among peers.defaulted (at old n) (at new n) (same n) (say n) (kept.defaulted n);
}

-- cases of an AS with a role of its own, which say so from now on
pub owned_kept : (asn : ℕ) (old new : Slots) (names : Names) (hops : Hops) (peers peers' : ByPeer) (differed : List ℕ) → AreKept old names hops peers differed
    → ((n : ℕ) → at new n ≡ owned_of asn (at old n)) → peers'.members ≡ peers.members → ((a : ℕ) → has peers'.defaulted a ≡ (has peers.defaulted a && not (nat_eq a asn)))
    → AreKept new names hops peers' differed
owned_kept asn old new names hops peers peers' differed kept own same less = record {
  indexed = subst (λ (members : Members). AreIndexed new names hops members) (sym same)
      (same_names old new names hops peers.members (λ n. subst (λ (o : Option StoredCase). IsSameName (at old n) o) (sym (own n)) (owned_name asn (at old n))) kept.indexed);
  settled = λ n hasnt. subst (λ (o : Option StoredCase). IsSettled o) (sym (own n))
      (owned_settled asn (at old n) (kept.settled n (sym (owned_differed asn (at old n)) ∙ ap has_differed (sym (own n)) ∙ hasnt)));
  listed = λ n has_it. kept.listed n (sym (owned_differed asn (at old n)) ∙ ap has_differed (sym (own n)) ∙ has_it);
  defaulted = λ n. subst (IsOwnOrAmong peers'.defaulted) (sym (own n)) (owned_among peers.defaulted peers'.defaulted asn less (at old n) (kept.defaulted n));
}
