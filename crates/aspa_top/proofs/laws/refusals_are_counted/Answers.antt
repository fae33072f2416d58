use Rattle.std.proofs.Common.{◌∙◌, zero-add}
use Rattle.stream_lines.specs.Counts.{refusals_in}
use Rattle.aspa_top.specs.Tasks.{start}
use Rattle.aspa_top.proofs.TextLemmas.{Evaluates-refused}
use Rattle.aspa_top.proofs.laws.refusals_are_counted.Goals as goal

pub returns : goal.returns
returns c = λ world lines text end evaluates. Evaluates-refused world (start world) lines text end evaluates ∙ zero-add (refusals_in text)
