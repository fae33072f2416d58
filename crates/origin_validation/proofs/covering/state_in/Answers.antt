use Rattle.origin_validation.proofs.StateLemmas.{none_there}
use Rattle.origin_validation.proofs.covering.state_in.Goals as goal

pub returns-then-is_empty : goal.returns-then-is_empty
returns-then-is_empty c = none_there c.args.prefix.now c.args.origin c.args.set.now c.args.filters.now (c.is_empty.ensures.0 c.if-is_empty.true)
