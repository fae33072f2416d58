use Rattle.av_text.proofs.AnySpellingLemmas.{names_in_line}
use Rattle.report_text.proofs.RefusalLemmas.{slurm-in_line}
use Rattle.aspa_top.proofs.files.FileKind.unit_name.Goals as goal

pub returns-in-Source-clause-in_line : goal.returns-in-Source-clause-in_line
returns-in-Source-clause-in_line c = rw c.in-Source.is (names_in_line _ c.text.ensures.is_name)

pub returns-in-Slurm-clause-in_line : goal.returns-in-Slurm-clause-in_line
returns-in-Slurm-clause-in_line c = rw c.in-Slurm.is slurm-in_line
