use Rattle.std.proofs.Common.{ℕ, ◌-◌, List, length, refl, ap, sym, ◌∙◌, arith, inr}
use Rattle.std.proofs.lemmas.List.{nil_from_length}
use Rattle.hop_index.specs.Index.{has as hops_have}
use Rattle.shared_cases.specs.Cases.{at}
use Rattle.shared_cases.specs.Kept.{staying}
use Rattle.shared_cases.specs.Taking.{left_times, times, TakesOut}
use Rattle.shared_cases.proofs.FitLemmas.{fit_same, staying_all}
use Rattle.shared_cases.proofs.LeavingLemmas.{left_step, takes_both, takes_last}
use Rattle.shared_cases.proofs.leaving.leave_each.Goals as goal

pub loop-number-init : goal.loop-number-init
loop-number-init c = record {
  fit = fit_same (hops_have c.args.kept.now.index) (staying c.args.kept.now.index c.new-gone.result) c.args.slab.now.slots c.args.kept.now
      (staying_all c.args.kept.now.index c.new-gone.result c.new-gone.ensures.none) c.requires;
  left = λ n. refl;
  gathered = inr c.new-gone.ensures.none;
}

pub leave_many-requires-clause-some : goal.leave_many-requires-clause-some
leave_many-requires-clause-some c = omega (arith, c.in-Some.ensures.cases.1, c.ahead_of-rest.ensures.fewer)

pub loop-number-preserved : goal.loop-number-preserved
loop-number-preserved c =
    let x : ℕ = c.in-Some.number.now in
    let left : List ℕ = c.loop-number.left.now in
    let front : List ℕ = c.in-Some.front.now in
    let rest : List ℕ = c.ahead_of-rest.result.now in
    let takes : TakesOut left x (length left - length rest) rest = takes_both left front rest x 1 (length front - length rest) (length left - length rest)
    (takes_last left front x c.in-Some.ensures.cases.0) c.ahead_of-rest.ensures.ahead (omega (arith, c.in-Some.ensures.cases.1, c.ahead_of-rest.ensures.fewer)) in
    record {
      fit = fit_same (staying c.leave_many.new.kept.index c.leave_many.new.gone) (staying c.settled-gone.new.index c.settled-gone.result) c.leave_many.new.slab.slots c.leave_many.new.kept
          c.settled-gone.ensures.same c.in_ok-leave_many.ensures.fit;
      left = λ n. left_step c.loop-number.slab.slots c.leave_many.new.slab.slots x (length left - length rest) left rest takes c.in_ok-leave_many.ensures.left n ∙ c.loop-number.invariant.left n;
      gathered = c.settled-gone.ensures.gathered;
    }

pub loop-number-smaller : goal.loop-number-smaller
loop-number-smaller c = omega (arith, c.in-Some.ensures.cases.1, c.ahead_of-rest.ensures.fewer)

pub returns-clause-fit : goal.returns-clause-fit
returns-clause-fit c =
    fit_same (staying c.loop-number.kept.index c.loop-number.gone) (hops_have c.remove_each.new.self) c.loop-number.slab.slots c.loop-number.kept
    c.remove_each.ensures c.loop-number.invariant.fit

pub returns-clause-left : goal.returns-clause-left
returns-clause-left c = λ n.
    sym (ap (λ (xs : List ℕ). left_times (times n xs) (at c.loop-number.slab.slots n)) (nil_from_length c.loop-number.left.now c.in_default.ensures.cases)) ∙ c.loop-number.invariant.left n
