use Rattle.std.proofs.Common.{◌≡◌, ◌+◌, ◌≤◌, length, drop}
use Rattle.shared_cases.specs.Grounds.{lent}
use Rattle.shared_cases.specs.Kept.{AreOnlyRejudged}
use Rattle.shared_cases.specs.Numbers.{has}
use Rattle.shared_cases.specs.Totals.{totals_of}
use Rattle.shared_cases.specs.Verdicts.{AreVerdictsOf}
use Rattle.shared_cases.proofs.RejudgingLemmas.{IsRejudging}
use Rattle.shared_cases.proofs.rejudging.rejudge_all.Given as goal

-- each touched case is judged anew or among those to come
abbrev pub invariant-loop-short : goal.invariant-loop-short
invariant-loop-short g l = record {
  so_far : IsRejudging (lent g.T.Table.rows l.on) (has l.touched) l.fn.slab.slots l.slab.slots (drop l.short-index l.touched) l.newly;
  kept : AreOnlyRejudged l.fn.kept l.kept;
  verdicts : AreVerdictsOf l.fn.slab.slots l.fn.kept.verdicts → AreVerdictsOf l.slab.slots l.kept.verdicts;
  counted : l.fn.kept.totals ≡ totals_of l.fn.slab.slots → l.kept.totals ≡ totals_of l.slab.slots;
  ticks : l.steps + length (drop l.short-index l.touched) ≤ l.fn.steps + length l.touched;
}
