use Rattle.origin_validation.proofs.LengthLemmas.{allows_start}
use Rattle.origin_validation.proofs.covering.allows.Goals as goal

pub loop-max-init : goal.loop-max-init
loop-max-init c = allows_start c.args.set.now c.args.filters.now c.args.front.now c.args.len c.args.asn c.requires
