use Rattle.report_text.proofs.RefusalLemmas.{feed_end_is_one_line}
use Rattle.report_text.proofs.laws.each_feed_end_is_one_line.Goals as goal

pub returns : goal.returns
returns c = feed_end_is_one_line
