use Rattle.std.proofs.Common.{rules, tests}
use Rattle.aspa_payload.proofs.ReadingLemmas.{says_parts, made_answer}
use Rattle.aspa_payload.proofs.reading.read_content.Goals as goal

pub returns : goal.returns
returns c =
    let parts = c.in_ok-version.field-0 in
    made_answer c.args.content.now (record { customer = parts.customer; providers = parts.providers })
    (says_parts c.args.content.now parts c.in_ok-version.ensures (search (rules, tests))) c.of.result c.of.ensures.ok c.of.ensures.fit c.of.ensures.err
