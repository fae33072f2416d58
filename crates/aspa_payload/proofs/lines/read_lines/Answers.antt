use Rattle.aspa_payload.proofs.LinesLemmas.{lines_start, lines_next, lines_end}
use Rattle.aspa_payload.proofs.lines.read_lines.Goals as goal

pub loop-line-init : goal.loop-line-init
loop-line-init c = lines_start c.args.bytes.now c.new-gathered.result c.new-gathered.ensures

pub loop-line-preserved : goal.loop-line-preserved
loop-line-preserved c =
    let read = c.in-Ok.ensures in
    lines_next c.args.bytes.now c.loop-line.rest.now c.in-Some.line.now c.in-Some.more.now c.loop-line.gathered c.read_unit.new.gathered c.loop-line.unit read.0 c.loop-line.invariant c.in-Some.ensures.first c.in-Some.ensures.less read.1 read.2

pub returns : goal.returns
returns c =
    lines_end c.args.bytes.now c.loop-line.rest.now c.loop-line.gathered c.in_ok-into_terms.field-0 c.loop-line.unit c.loop-line.invariant c.in_default.ensures.none c.in_ok-into_terms.ensures
