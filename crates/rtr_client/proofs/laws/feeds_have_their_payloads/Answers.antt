use Rattle.rtr_client.proofs.TiedLemmas.{feeds_are_tied}
use Rattle.rtr_client.proofs.laws.feeds_have_their_payloads.Goals as goal

pub returns : goal.returns
returns c = feeds_are_tied
