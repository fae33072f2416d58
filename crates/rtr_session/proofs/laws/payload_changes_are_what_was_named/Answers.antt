use Rattle.rtr_session.proofs.PayloadLemmas.{payload_changes_named}
use Rattle.rtr_session.proofs.laws.payload_changes_are_what_was_named.Goals as goal

pub returns : goal.returns
returns c = payload_changes_named
