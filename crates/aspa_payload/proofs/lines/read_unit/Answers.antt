use Rattle.std.proofs.Common.{◌∙◌, Some}
use Rattle.aspa_payload.proofs.AttestedLemmas.{same_gathered}
use Rattle.aspa_payload.proofs.ReadingLemmas.{some_if}
use Rattle.aspa_payload.proofs.lines.read_unit.Goals as goal

pub returns : goal.returns
returns c =
    let unit = c.in_ok-payload.field-0 in (
      Some unit,
      (some_if _ c.is_empty.result c.is_empty.ensures c.if-is_empty.false, c.in_ok-payload.ensures),
      c.in_ok-gather.ensures.ok ∙ same_gathered c.args.gathered.now unit _ _ c.customer.ensures (c.as_slice.ensures ∙ c.providers.ensures.providers),
    )
