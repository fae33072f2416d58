use Rattle.std.proofs.Common.{◌∙◌}
use Rattle.aspa_payload.proofs.FileLemmas.{reading_start, reading_next, reading_end, same_insert}
use Rattle.aspa_payload.proofs.ReadingLemmas.{empty_if}
use Rattle.aspa_payload.proofs.file.read_many.Goals as goal

-- where the list of providers lets memory of its own go, and where it has none
pub loop-rest-preserved-in_ok-gather : goal.loop-rest-preserved-in_ok-gather
loop-rest-preserved-in_ok-gather c =
    let a = c.in-Ok.taken.0 in
    reading_next c.args.bytes.now c.loop-rest.rest.now c.in-Ok.taken.1.now c.loop-rest.gathered c.gather.new.self c.loop-rest.unit a c.loop-rest.invariant c.in-Ok.ensures
    (c.in_ok-gather.ensures.ok ∙ same_insert c.loop-rest.gathered _ a.customer _ a.providers c.customer.ensures (c.as_slice.ensures ∙ c.providers.ensures.providers))

pub loop-rest-preserved : goal.loop-rest-preserved
loop-rest-preserved c =
    let a = c.in-Ok.taken.0 in
    reading_next c.args.bytes.now c.loop-rest.rest.now c.in-Ok.taken.1.now c.loop-rest.gathered c.gather.new.self c.loop-rest.unit a c.loop-rest.invariant c.in-Ok.ensures
    (c.in_ok-gather.ensures.ok ∙ same_insert c.loop-rest.gathered _ a.customer _ a.providers c.customer.ensures (c.as_slice.ensures ∙ c.providers.ensures.providers))

pub loop-rest-init : goal.loop-rest-init
loop-rest-init c = reading_start c.args.bytes.now c.new-gathered.result c.new-gathered.ensures

pub returns : goal.returns
returns c =
    reading_end c.args.bytes.now c.loop-rest.rest.now c.loop-rest.gathered c.in_ok-into_rows.field-0 c.loop-rest.unit c.loop-rest.invariant
    (empty_if _ c.is_empty.result c.is_empty.ensures c.loop-rest-test.false) c.in_ok-into_rows.ensures
