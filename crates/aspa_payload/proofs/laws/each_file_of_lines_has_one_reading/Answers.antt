use Rattle.aspa_payload.proofs.LinesLawLemmas as lemmas
use Rattle.aspa_payload.proofs.laws.each_file_of_lines_has_one_reading.Goals as goal

pub returns : goal.returns
returns c = lemmas.each_file_of_lines
