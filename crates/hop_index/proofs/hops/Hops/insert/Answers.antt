use Rattle.std.proofs.Common.{ℕ, nat_eq, not, ◌||◌, List, Some, refl, ap, sym, ◌∙◌, arith}
use Rattle.std.specs.declared.option.Option.{Option}
use Rattle.std.specs.FinMap.{get}
use Rattle.hop_index.specs.Lists.{Lists, at}
use Rattle.hop_index.specs.Kept.{is_there}
use Rattle.hop_index.specs.Numbers.{found_has}
use Rattle.hop_index.proofs.CaseLemmas.{case_more, stands_more, have_cases, are_rising, one_more}
use Rattle.hop_index.proofs.PlaceLemmas.{changed, place_within, place_absent}
use Rattle.hop_index.proofs.hops.Hops.insert.Goals as goal

pub index_mut-requires : goal.index_mut-requires
index_mut-requires c =
    omega (
      arith,
      c.self.inside.hops.ok.0,
      place_within c.self.inside.by_pair c.self.inside.hops.items c.self.invariant c.args.pair c.word.ensures.small c.in-Some.place
          (ap (get c.self.inside.by_pair) (sym c.word.ensures.same) ∙ sym c.get.ensures ∙ c.in-Some.is),
    )

pub invariant_of-self : goal.invariant_of-self
invariant_of-self c =
    let now = changed c.self.inside.by_pair c.self.inside.hops.items c.args.self.now c.self.invariant c.self.view_is c.args.pair c.word.ensures.small c.in-Some.place (ap (get c.self.inside.by_pair) (sym c.word.ensures.same) ∙ sym c.get.ensures ∙ c.in-Some.is)
    c.index_mut.result.now c.index_mut.ensures.value c.insert.new.self in
    now.placed

pub invariant_of-self-in-Some : goal.invariant_of-self-in-Some
invariant_of-self-in-Some c =
    let now = changed c.self.inside.by_pair c.self.inside.hops.items c.args.self.now c.self.invariant c.self.view_is c.args.pair c.word.ensures.small c.in-Some.place (ap (get c.self.inside.by_pair) (sym c.word.ensures.same) ∙ sym c.get.ensures ∙ c.in-Some.is)
    c.index_mut.result.now c.index_mut.ensures.value c.insert.new.self in
    now.placed

pub returns-in_ok-insert-in-Some-clause-added : goal.returns-in_ok-insert-in-Some-clause-added
returns-in_ok-insert-in-Some-clause-added c =
    let now = changed c.self.inside.by_pair c.self.inside.hops.items c.args.self.now c.self.invariant c.self.view_is c.args.pair c.word.ensures.small c.in-Some.place (ap (get c.self.inside.by_pair) (sym c.word.ensures.same) ∙ sym c.get.ensures ∙ c.in-Some.is)
    c.index_mut.result.now c.index_mut.ensures.value c.insert.new.self in
    case_more c.args.self.now _ c.args.pair (Some c.insert.new.self) now.updates c.args.case
    (λ n. c.in_ok-insert-in-Some.ensures.added n ∙ ap (λ (o : Option (List ℕ)). found_has o n || nat_eq n c.args.case) (sym now.was))

pub returns-in_ok-insert-in-Some-clause-stands : goal.returns-in_ok-insert-in-Some-clause-stands
returns-in_ok-insert-in-Some-clause-stands c =
    let now = changed c.self.inside.by_pair c.self.inside.hops.items c.args.self.now c.self.invariant c.self.view_is c.args.pair c.word.ensures.small c.in-Some.place (ap (get c.self.inside.by_pair) (sym c.word.ensures.same) ∙ sym c.get.ensures ∙ c.in-Some.is)
    c.index_mut.result.now c.index_mut.ensures.value c.insert.new.self in
    stands_more c.args.self.now _ c.args.pair (Some c.insert.new.self) now.updates refl

pub returns-in_ok-insert-in-Some-clause-first : goal.returns-in_ok-insert-in-Some-clause-first
returns-in_ok-insert-in-Some-clause-first c =
    let now = changed c.self.inside.by_pair c.self.inside.hops.items c.args.self.now c.self.invariant c.self.view_is c.args.pair c.word.ensures.small c.in-Some.place (ap (get c.self.inside.by_pair) (sym c.word.ensures.same) ∙ sym c.get.ensures ∙ c.in-Some.is)
    c.index_mut.result.now c.index_mut.ensures.value c.insert.new.self in
    ap (λ (o : Option (List ℕ)). not (is_there o)) (sym now.was)

pub returns-in_ok-insert-in-Some-clause-kept : goal.returns-in_ok-insert-in-Some-clause-kept
returns-in_ok-insert-in-Some-clause-kept c =
    let now = changed c.self.inside.by_pair c.self.inside.hops.items c.args.self.now c.self.invariant c.self.view_is c.args.pair c.word.ensures.small c.in-Some.place (ap (get c.self.inside.by_pair) (sym c.word.ensures.same) ∙ sym c.get.ensures ∙ c.in-Some.is)
    c.index_mut.result.now c.index_mut.ensures.value c.insert.new.self in
    λ have. have_cases c.args.self.now _ c.args.pair (Some c.insert.new.self) now.updates (λ e. c.in_ok-insert-in-Some.ensures.some cc) (λ p other. have p)

pub returns-in_ok-insert-in-Some-clause-rising : goal.returns-in_ok-insert-in-Some-clause-rising
returns-in_ok-insert-in-Some-clause-rising c =
    let now = changed c.self.inside.by_pair c.self.inside.hops.items c.args.self.now c.self.invariant c.self.view_is c.args.pair c.word.ensures.small c.in-Some.place (ap (get c.self.inside.by_pair) (sym c.word.ensures.same) ∙ sym c.get.ensures ∙ c.in-Some.is)
    c.index_mut.result.now c.index_mut.ensures.value c.insert.new.self in
    are_rising c.args.self.now _ c.args.pair (Some c.insert.new.self) now.updates c.in_ok-insert-in-Some.ensures.rising

pub push-requires : goal.push-requires
push-requires c =
    let absent = ap (λ (es : Lists). at es c.args.pair) (sym c.self.view_is) ∙ place_absent c.self.inside.by_pair c.self.inside.hops.items c.self.invariant c.args.pair c.word.ensures.small
    (ap (get c.self.inside.by_pair) (sym c.word.ensures.same) ∙ sym c.get.ensures ∙ c.in-None.is) in
    absent

pub returns-in_ok-push-in-None-clause-added : goal.returns-in_ok-push-in-None-clause-added
returns-in_ok-push-in-None-clause-added c =
    let absent = ap (λ (es : Lists). at es c.args.pair) (sym c.self.view_is) ∙ place_absent c.self.inside.by_pair c.self.inside.hops.items c.self.invariant c.args.pair c.word.ensures.small
    (ap (get c.self.inside.by_pair) (sym c.word.ensures.same) ∙ sym c.get.ensures ∙ c.in-None.is) in
    case_more c.args.self.now c.push.new.self c.args.pair (Some c.insert-in-None.new.self) c.in_ok-push-in-None.ensures c.args.case
    (one_more c.new-cases.result c.insert-in-None.new.self _ c.args.case c.new-cases.ensures absent c.in_ok-insert-in-None.ensures.added)

pub returns-in_ok-push-in-None-clause-first : goal.returns-in_ok-push-in-None-clause-first
returns-in_ok-push-in-None-clause-first c =
    let absent = ap (λ (es : Lists). at es c.args.pair) (sym c.self.view_is) ∙ place_absent c.self.inside.by_pair c.self.inside.hops.items c.self.invariant c.args.pair c.word.ensures.small
    (ap (get c.self.inside.by_pair) (sym c.word.ensures.same) ∙ sym c.get.ensures ∙ c.in-None.is) in
    ap (λ (o : Option (List ℕ)). not (is_there o)) (sym absent)

pub returns-in_ok-push-in-None-clause-stands : goal.returns-in_ok-push-in-None-clause-stands
returns-in_ok-push-in-None-clause-stands c = stands_more c.args.self.now c.push.new.self c.args.pair (Some c.insert-in-None.new.self) c.in_ok-push-in-None.ensures refl

pub returns-in_ok-push-in-None-clause-kept : goal.returns-in_ok-push-in-None-clause-kept
returns-in_ok-push-in-None-clause-kept c = λ have.
    have_cases c.args.self.now c.push.new.self c.args.pair (Some c.insert-in-None.new.self) c.in_ok-push-in-None.ensures (λ e. c.in_ok-insert-in-None.ensures.some cc) (λ p other. have p)

pub returns-in_ok-push-in-None-clause-rising : goal.returns-in_ok-push-in-None-clause-rising
returns-in_ok-push-in-None-clause-rising c =
    are_rising c.args.self.now c.push.new.self c.args.pair (Some c.insert-in-None.new.self) c.in_ok-push-in-None.ensures c.in_ok-insert-in-None.ensures.rising
