use Rattle.report_text.proofs.AnswerLemmas.{row_is_one_line, origin_is_one_line, leak_is_one_line, change_is_one_line, changed_is_one_line, summary_is_one_line, peer_summary_is_one_line, own_is_one_line, neighbour_is_one_line, served_is_one_line, reason_is_one_line, detail_is_one_line, suspect_is_one_line, silent_is_one_line, saying_is_one_line}
use Rattle.report_text.proofs.laws.no_answer_reads_as_a_refusal.Goals as goal

pub returns-clause-rows : goal.returns-clause-rows
returns-clause-rows c = row_is_one_line

pub returns-clause-origins : goal.returns-clause-origins
returns-clause-origins c = origin_is_one_line

pub returns-clause-leaks : goal.returns-clause-leaks
returns-clause-leaks c = leak_is_one_line

pub returns-clause-changes : goal.returns-clause-changes
returns-clause-changes c = change_is_one_line

pub returns-clause-counts : goal.returns-clause-counts
returns-clause-counts c = changed_is_one_line

pub returns-clause-summaries : goal.returns-clause-summaries
returns-clause-summaries c = summary_is_one_line

pub returns-clause-peers : goal.returns-clause-peers
returns-clause-peers c = peer_summary_is_one_line

pub returns-clause-own : goal.returns-clause-own
returns-clause-own c = own_is_one_line

pub returns-clause-neighbours : goal.returns-clause-neighbours
returns-clause-neighbours c = neighbour_is_one_line

pub returns-clause-servings : goal.returns-clause-servings
returns-clause-servings c = served_is_one_line

pub returns-clause-reasons : goal.returns-clause-reasons
returns-clause-reasons c = reason_is_one_line

pub returns-clause-details : goal.returns-clause-details
returns-clause-details c = detail_is_one_line

pub returns-clause-suspects : goal.returns-clause-suspects
returns-clause-suspects c = suspect_is_one_line

pub returns-clause-silent : goal.returns-clause-silent
returns-clause-silent c = silent_is_one_line

pub returns-clause-sayings : goal.returns-clause-sayings
returns-clause-sayings c = saying_is_one_line
