use Rattle.std.proofs.lemmas.List.{nil_from_length}
use Rattle.vap_table.proofs.SteppingLemmas.{parted_at_end, parted_at_one, parted_between}
use Rattle.vap_table.proofs.stepping.parted_at.Goals as goal

pub returns-then-one-number : goal.returns-then-one-number
returns-then-one-number c =
    parted_at_one c.args.counts.now c.args.number c.place_of-place.result c.split_at.result.0.now c.split_at.result.1.now c.requires c.place_of-place.ensures.point c.split_at.ensures.front c.split_at.ensures.back
    c.in-Some.one.now c.in-Some.above.now c.in-Some.ensures.cases.0 c.if-one-number.true

pub returns : goal.returns
returns c =
    parted_between c.args.counts.now c.args.number c.place_of-place.result c.split_at.result.0.now c.split_at.result.1.now c.requires c.place_of-place.ensures.point c.split_at.ensures.front c.split_at.ensures.back
    c.in-Some.one.now c.in-Some.above.now c.in-Some.ensures.cases.0 c.if-one-number.false

pub returns-in_default : goal.returns-in_default
returns-in_default c =
    parted_at_end c.args.counts.now c.args.number c.place_of-place.result c.split_at.result.0.now c.split_at.result.1.now c.requires c.place_of-place.ensures.point c.split_at.ensures.front c.split_at.ensures.back
    (nil_from_length c.split_at.result.1.now c.in_default.ensures.cases)
