use Rattle.vap_table.proofs.CountingLemmas.{ordered_made}
use Rattle.vap_table.proofs.tallied.step_rows.Goals as goal

pub returns-clause-ordered : goal.returns-clause-ordered
returns-clause-ordered c = ordered_made (c.in_ok-counted.counted.sources, c.in_ok-counted.counted.assertions) c.in_ok-items.items.items c.tally_of.result c.tally_of.ensures c.in_ok-items.ensures.rising c.in_ok-items.ensures.held
