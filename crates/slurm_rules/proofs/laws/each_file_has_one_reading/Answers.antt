use Rattle.slurm_rules.proofs.LawLemmas as lemmas
use Rattle.slurm_rules.proofs.laws.each_file_has_one_reading.Goals as goal

pub returns : goal.returns
returns c = lemmas.each_file
