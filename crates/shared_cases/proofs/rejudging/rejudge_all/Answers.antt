use Rattle.std.proofs.Common.{◌≡◌, ℕ, ◌+◌, List, ◌∷◌, ap, subst, length, drop, get_or, arith}
use Rattle.std.proofs.lemmas.List.{drop_more}
use Rattle.shared_cases.specs.declared.kept.Kept.{Kept}
use Rattle.shared_cases.specs.Grounds.{lent}
use Rattle.shared_cases.specs.Numbers.{has}
use Rattle.shared_cases.proofs.RejudgingLemmas.{IsRejudging, rejudging_next}
use Rattle.shared_cases.proofs.TotalsLemmas.{rejudged_totals}
use Rattle.shared_cases.proofs.VerdictLemmas.{rejudged_verdicts}
use Rattle.shared_cases.proofs.rejudging.rejudge_all.Goals as goal

pub loop-short-preserved : goal.loop-short-preserved
loop-short-preserved g c =
    let touched : List ℕ = c.args.touched.now in
    let i : ℕ = c.loop-short.short-index in
    let x : ℕ = get_or touched i 0 in
    let e : drop i touched ≡ x ∷ drop (i + 1) touched = drop_more touched i 0 c.loop-short-test.true in
    record {
      so_far = rejudging_next (lent g.T.Table.rows c.args.on.now) (has touched) c.args.slab.now.slots c.loop-short.slab.slots c.judge_anew-anew.new.slab.slots x (drop (i + 1) touched)
          c.loop-short.newly c.tell.new.newly
          (subst (λ (rest : List ℕ). IsRejudging (lent g.T.Table.rows c.args.on.now) (has touched) c.args.slab.now.slots c.loop-short.slab.slots rest c.loop-short.newly) e c.loop-short.invariant.so_far)
          c.judge_anew-anew.ensures.judged c.judge_anew-anew.ensures.same c.judge_anew-anew.ensures.own c.judge_anew-anew.ensures.differed c.judge_anew-anew.ensures.others
          c.judge_anew-anew.result.newly c.judge_anew-anew.ensures.newly c.in_ok-tell.ensures;
      kept = ap (λ (k : Kept). record k { totals = c.minus-kept.result; verdicts = c.set.new.self }) c.loop-short.invariant.kept;
      verdicts = λ start. rejudged_verdicts c.loop-short.slab.slots c.judge_anew-anew.new.slab.slots x c.judge_anew-anew.result.after c.loop-short.kept.verdicts c.set.new.self
          c.judge_anew-anew.ensures.others c.judge_anew-anew.ensures.verdict c.in_ok-set.ensures (c.loop-short.invariant.verdicts start);
      counted = λ start. rejudged_totals c.loop-short.slab.slots c.judge_anew-anew.new.slab.slots x c.loop-short.kept.totals c.in_ok-both.both c.minus-kept.result
          c.of-in-loop-short.result c.of.result c.judge_anew-anew.result.before c.judge_anew-anew.result.after c.judge_anew-anew.result.users
          c.judge_anew-anew.ensures.others c.judge_anew-anew.ensures.before c.judge_anew-anew.ensures.after c.of-in-loop-short.ensures c.of.ensures
          c.in_ok-both.ensures c.minus-kept.ensures (c.loop-short.invariant.counted start);
      ticks = omega (arith, ap (λ (xs : List ℕ). length xs) e, c.loop-short.invariant.ticks, c.judge_anew-anew.ensures.ticks);
    }
