use Rattle.aspa_payload.proofs.FileLawLemmas as lemmas
use Rattle.aspa_payload.proofs.laws.each_file_has_one_reading.Goals as goal

pub returns : goal.returns
returns c = lemmas.each_file
