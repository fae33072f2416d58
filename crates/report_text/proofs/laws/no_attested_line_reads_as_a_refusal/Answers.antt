use Rattle.report_text.proofs.AttestedLemmas.{hop_is_one_line, assertion_is_one_line, source_is_one_line, asserted_is_one_line, filtered_is_one_line, current_is_one_line}
use Rattle.report_text.proofs.laws.no_attested_line_reads_as_a_refusal.Goals as goal

pub returns-clause-hops : goal.returns-clause-hops
returns-clause-hops c = hop_is_one_line

pub returns-clause-assertions : goal.returns-clause-assertions
returns-clause-assertions c = assertion_is_one_line

pub returns-clause-sources : goal.returns-clause-sources
returns-clause-sources c = source_is_one_line

pub returns-clause-asserted : goal.returns-clause-asserted
returns-clause-asserted c = asserted_is_one_line

pub returns-clause-filtered : goal.returns-clause-filtered
returns-clause-filtered c = filtered_is_one_line

pub returns-clause-current : goal.returns-clause-current
returns-clause-current c = current_is_one_line
