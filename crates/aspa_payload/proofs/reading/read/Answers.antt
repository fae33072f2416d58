use Rattle.aspa_payload.proofs.ReadingLemmas.{empty_if}
use Rattle.aspa_payload.proofs.ReadingLemmas.{whole_answer}
use Rattle.aspa_payload.proofs.reading.read.Goals as goal

pub returns : goal.returns
returns c = whole_answer c.args.bytes.now c.in_ok-content.content.now c.in_ok-content.rest.now c.in_ok-content.ensures.spelled (empty_if _ c.is_empty.result c.is_empty.ensures c.if-not-is_empty.false) c.read_content.result c.read_content.ensures
