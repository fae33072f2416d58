use Rattle.aspa_top.proofs.FileLemmas.{payloads_understood, lines_understood}
use Rattle.aspa_top.proofs.files.understand_source.Goals as goal

pub returns-in-Payloads : goal.returns-in-Payloads
returns-in-Payloads c = record { comes = rw c.in-Payloads.is (payloads_understood _ _ _ _ c.read_many.ensures c.rows_outcome.ensures.comes) }

pub returns-in-PayloadLines : goal.returns-in-PayloadLines
returns-in-PayloadLines c = record { comes = rw c.in-PayloadLines.is (lines_understood _ _ _ _ c.read_lines.ensures c.terms_outcome.ensures.comes) }
