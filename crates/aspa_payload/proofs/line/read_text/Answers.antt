use Rattle.aspa_payload.proofs.LineLemmas.{decodes_after, text_answer}
use Rattle.aspa_payload.proofs.line.read_text.Goals as goal

pub returns-in-Ok : goal.returns-in-Ok
returns-in-Ok c = text_answer c.args.text.now c.deref.result.now (decodes_after c.args.text.now _ c.deref.result.now _ c.in-Ok.ensures.ok c.clear.ensures.len c.deref.ensures.value) c.read.result c.read.ensures
