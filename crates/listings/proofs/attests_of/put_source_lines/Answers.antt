use Rattle.attestations.specs.Attested.{listed}
use Rattle.listings.proofs.AttestsOfLemmas.{source_listed}
use Rattle.listings.proofs.attests_of.put_source_lines.Goals as goal

pub returns : goal.returns
returns g c = source_listed c.args.moment c.args.customer c.args.source.now (listed c.in-Some.left) _ _ _ c.in-Some.ensures.whole c.put_all.ensures.listed
