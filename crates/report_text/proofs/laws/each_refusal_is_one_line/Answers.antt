use Rattle.report_text.proofs.RefusalLemmas.{refusal_is_one_line}
use Rattle.report_text.proofs.laws.each_refusal_is_one_line.Goals as goal

pub returns : goal.returns
returns c = refusal_is_one_line
