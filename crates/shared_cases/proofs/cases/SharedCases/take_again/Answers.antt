use Rattle.hop_index.specs.Index.{has as hops_have}
use Rattle.shared_cases.proofs.KeptLemmas.{raised_kept}
use Rattle.shared_cases.proofs.TotalsLemmas.{raised_totals}
use Rattle.shared_cases.proofs.VerdictLemmas.{raised_verdicts}
use Rattle.shared_cases.proofs.cases.SharedCases.take_again.Goals as goal

pub invariant_of-self-2 : goal.invariant_of-self-2
invariant_of-self-2 c = (
  raised_kept c.self.inside.slab.slots c.raise.new.slab.slots c.args.number c.self.inside.kept.names (hops_have c.self.inside.kept.index) c.self.inside.kept.peers c.self.inside.kept.differed c.self.invariant.0 c.in_ok-raise.ensures.raised,
  raised_totals c.self.inside.slab.slots c.raise.new.slab.slots c.args.number c.self.inside.kept.totals c.in_ok-totals.totals c.one_user.result c.self.invariant.1
      c.in_ok-raise.ensures.raised c.one_user.ensures c.in_ok-totals.ensures,
  raised_verdicts c.self.inside.slab.slots c.raise.new.slab.slots c.self.inside.kept.verdicts c.self.invariant.2 c.args.number c.in_ok-raise.ensures.raised,
)
