use Rattle.std.proofs.Common.{sym, ◌∙◌}
use Rattle.ramps.proofs.JudgingLemmas.{printed_up, printed_down}
use Rattle.ramps.proofs.judging.explain.Goals as goal

pub returns-in-Some-clause-printed : goal.returns-in-Some-clause-printed
returns-in-Some-clause-printed g c = c.in-Some.ensures.some (g.T.Table.rows c.args.table.now)

pub returns-in-Up-clause-printed : goal.returns-in-Up-clause-printed
returns-in-Up-clause-printed g c = printed_up (g.T.Table.rows c.args.table.now) c.args.role c.args.neighbour c.args.trail.now c.as_slice-chain.result.now c.up_ramps.result c.upstream.result
    (c.as_slice-chain.ensures ∙ c.chain.ensures.chain) (sym c.in-Up.is ∙ c.direction.ensures) c.in_default.ensures.none c.up_ramps.ensures.are c.upstream.ensures.witness

pub returns-in-Down-clause-printed : goal.returns-in-Down-clause-printed
returns-in-Down-clause-printed g c = printed_down (g.T.Table.rows c.args.table.now) c.args.role c.args.neighbour c.args.trail.now c.as_slice-chain.result.now c.up_ramps-up.result c.down_ramps_beside.result c.downstream.result
    (c.as_slice-chain.ensures ∙ c.chain.ensures.chain) (sym c.in-Down.is ∙ c.direction.ensures) c.in_default.ensures.none c.up_ramps-up.ensures.are c.down_ramps_beside.ensures.count c.downstream.ensures.witness
