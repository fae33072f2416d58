use Rattle.std.proofs.Common.{sym, ◌∙◌, rules}
use Rattle.bmp_reader.proofs.WalkLemmas.{next-step, next-shortens, next-none, seen-end}
use Rattle.bmp_reader.proofs.seen.see_capabilities.Goals as goal

pub returns-in_err-more_seen : goal.returns-in_err-more_seen
returns-in_err-more_seen c = rw c.from_residual.ensures (next-none c.loop-rest.seen c.loop-rest.rest.now (search rules) (sym c.in_err-more_seen.ensures) ∙ c.loop-rest.invariant)

pub loop-rest-smaller : goal.loop-rest-smaller
loop-rest-smaller c = next-shortens c.loop-rest.seen c.in_ok-more_seen.more_seen c.loop-rest.rest.now c.in_ok-more_seen.more.now (sym c.in_ok-more_seen.ensures)

pub loop-rest-preserved : goal.loop-rest-preserved
loop-rest-preserved c = next-step c.loop-rest.seen c.in_ok-more_seen.more_seen c.loop-rest.rest.now c.in_ok-more_seen.more.now (sym c.in_ok-more_seen.ensures) ∙ c.loop-rest.invariant

pub returns : goal.returns
returns c = seen-end c.loop-rest.seen c.loop-rest.rest.now (search rules) ∙ c.loop-rest.invariant
