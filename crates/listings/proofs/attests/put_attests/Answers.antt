use Rattle.vap_table.specs.Entries.{entries_left}
use Rattle.listings.proofs.AttestsLemmas.{attests_listed}
use Rattle.listings.proofs.attests.put_attests.Goals as goal

pub returns : goal.returns
returns g c = attests_listed c.args.table.now (entries_left c.entries.result) _ _ _ c.entries.ensures.current c.entries.ensures.rising c.put_all.ensures.listed
