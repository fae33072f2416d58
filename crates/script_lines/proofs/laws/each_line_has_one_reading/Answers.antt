use Rattle.script_lines.proofs.LawLemmas as lemmas
use Rattle.script_lines.proofs.laws.each_line_has_one_reading.Goals as goal

pub returns : goal.returns
returns c = lemmas.one_reading
