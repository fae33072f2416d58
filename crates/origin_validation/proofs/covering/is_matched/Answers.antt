use Rattle.origin_validation.proofs.LengthLemmas.{decides}
use Rattle.origin_validation.proofs.covering.is_matched.Goals as goal

pub returns : goal.returns
returns c =
    decides c.args.set.now c.args.filters.now c.args.front.now c.args.prefix.now c.requires.covers c.args.origin c.in-Some.asn c.len.result c.allows.result c.in-Some.is c.if-asn-eq0.false c.len.ensures.len c.allows.ensures
