use Rattle.std.proofs.Common.{◌≡◌, ℕ, nat_eq, not, ◌&&◌, List, [], None, Some, ap, sym, ◌∙◌, arith, true≢false}
use Rattle.std.specs.declared.option.Option.{Option}
use Rattle.std.specs.FinMap.{get}
use Rattle.hop_index.specs.Lists.{Lists, at}
use Rattle.hop_index.specs.Kept.{is_there}
use Rattle.hop_index.specs.Numbers.{found_has}
use Rattle.hop_index.proofs.CaseLemmas.{case_less, stands_still, others_stay, are_rising, here_now}
use Rattle.hop_index.proofs.PlaceLemmas.{changed, place_within, place_absent, same_when_absent}
use Rattle.hop_index.proofs.hops.Hops.take_out.Goals as goal

pub index_mut-requires : goal.index_mut-requires
index_mut-requires c =
    omega (
      arith,
      c.self.inside.hops.ok.0,
      place_within c.self.inside.by_pair c.self.inside.hops.items c.self.invariant c.args.pair c.word.ensures.small c.in-Some.place
          (ap (get c.self.inside.by_pair) (sym c.word.ensures.same) ∙ sym c.get.ensures ∙ c.in-Some.is),
    )

pub invariant_of-self : goal.invariant_of-self
invariant_of-self c =
    let now = changed c.self.inside.by_pair c.self.inside.hops.items c.args.self.now c.self.invariant c.self.view_is c.args.pair c.word.ensures.small c.in-Some.place (ap (get c.self.inside.by_pair) (sym c.word.ensures.same) ∙ sym c.get.ensures ∙ c.in-Some.is)
    c.index_mut.result.now c.index_mut.ensures.value c.remove.new.self in
    now.placed

pub returns-in-None-clause-removed : goal.returns-in-None-clause-removed
returns-in-None-clause-removed c =
    let absent = ap (λ (es : Lists). at es c.args.pair) (sym c.self.view_is) ∙ place_absent c.self.inside.by_pair c.self.inside.hops.items c.self.invariant c.args.pair c.word.ensures.small
    (ap (get c.self.inside.by_pair) (sym c.word.ensures.same) ∙ sym c.get.ensures ∙ c.in-None.is) in
    case_less c.args.self.now c.args.self.now c.args.pair None (same_when_absent c.args.self.now c.args.pair absent) c.args.case
    (λ n. ap (λ (o : Option (List ℕ)). found_has o n && not (nat_eq n c.args.case)) (sym absent))

pub returns-in-None-clause-emptied : goal.returns-in-None-clause-emptied
returns-in-None-clause-emptied c =
    let absent = ap (λ (es : Lists). at es c.args.pair) (sym c.self.view_is) ∙ place_absent c.self.inside.by_pair c.self.inside.hops.items c.self.invariant c.args.pair c.word.ensures.small
    (ap (get c.self.inside.by_pair) (sym c.word.ensures.same) ∙ sym c.get.ensures ∙ c.in-None.is) in
    (λ h. absurd (true≢false (sym h)), λ h. let both : ◌≡◌ {A = Option (List ℕ)} None (Some []) = sym absent ∙ h in absurd cc)

pub returns-in-Some-clause-removed : goal.returns-in-Some-clause-removed
returns-in-Some-clause-removed c =
    let now = changed c.self.inside.by_pair c.self.inside.hops.items c.args.self.now c.self.invariant c.self.view_is c.args.pair c.word.ensures.small c.in-Some.place (ap (get c.self.inside.by_pair) (sym c.word.ensures.same) ∙ sym c.get.ensures ∙ c.in-Some.is)
    c.index_mut.result.now c.index_mut.ensures.value c.remove.new.self in
    case_less c.args.self.now _ c.args.pair (Some c.remove.new.self) now.updates c.args.case
    (λ n. c.remove.ensures.removed n ∙ ap (λ (o : Option (List ℕ)). found_has o n && not (nat_eq n c.args.case)) (sym now.was))

pub returns-in-Some-clause-stands : goal.returns-in-Some-clause-stands
returns-in-Some-clause-stands c =
    let now = changed c.self.inside.by_pair c.self.inside.hops.items c.args.self.now c.self.invariant c.self.view_is c.args.pair c.word.ensures.small c.in-Some.place (ap (get c.self.inside.by_pair) (sym c.word.ensures.same) ∙ sym c.get.ensures ∙ c.in-Some.is)
    c.index_mut.result.now c.index_mut.ensures.value c.remove.new.self in
    stands_still c.args.self.now _ c.args.pair (Some c.remove.new.self) now.updates (sym (ap is_there now.was))

pub returns-in-Some-clause-emptied : goal.returns-in-Some-clause-emptied
returns-in-Some-clause-emptied c =
    let now = changed c.self.inside.by_pair c.self.inside.hops.items c.args.self.now c.self.invariant c.self.view_is c.args.pair c.word.ensures.small c.in-Some.place (ap (get c.self.inside.by_pair) (sym c.word.ensures.same) ∙ sym c.get.ensures ∙ c.in-Some.is)
    c.index_mut.result.now c.index_mut.ensures.value c.remove.new.self in
    let here = here_now c.args.self.now _ c.args.pair (Some c.remove.new.self) now.updates in
    (λ h. here ∙ ap Some (c.is_empty.ensures.0 h), λ h. c.is_empty.ensures.1 (some_same _ _ (sym here ∙ h))) where
      some_same : (v w : List ℕ) → ◌≡◌ {A = Option (List ℕ)} (Some v) (Some w) → v ≡ w
      some_same v w e = cc

pub returns-in-Some-clause-others : goal.returns-in-Some-clause-others
returns-in-Some-clause-others c =
    let now = changed c.self.inside.by_pair c.self.inside.hops.items c.args.self.now c.self.invariant c.self.view_is c.args.pair c.word.ensures.small c.in-Some.place (ap (get c.self.inside.by_pair) (sym c.word.ensures.same) ∙ sym c.get.ensures ∙ c.in-Some.is)
    c.index_mut.result.now c.index_mut.ensures.value c.remove.new.self in
    others_stay c.args.self.now _ c.args.pair (Some c.remove.new.self) now.updates

pub returns-in-Some-clause-rising : goal.returns-in-Some-clause-rising
returns-in-Some-clause-rising c =
    let now = changed c.self.inside.by_pair c.self.inside.hops.items c.args.self.now c.self.invariant c.self.view_is c.args.pair c.word.ensures.small c.in-Some.place (ap (get c.self.inside.by_pair) (sym c.word.ensures.same) ∙ sym c.get.ensures ∙ c.in-Some.is)
    c.index_mut.result.now c.index_mut.ensures.value c.remove.new.self in
    are_rising c.args.self.now _ c.args.pair (Some c.remove.new.self) now.updates c.remove.ensures.rising
