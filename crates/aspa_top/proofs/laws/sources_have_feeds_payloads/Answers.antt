use Rattle.aspa_top.proofs.TiedLemmas.{sources_have_feeds_payloads}
use Rattle.aspa_top.proofs.laws.sources_have_feeds_payloads.Goals as goal

pub returns : goal.returns
returns c = sources_have_feeds_payloads
