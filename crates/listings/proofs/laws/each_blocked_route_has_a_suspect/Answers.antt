use Rattle.listings.proofs.SuspectBlockedLemmas as lemmas
use Rattle.listings.proofs.laws.each_blocked_route_has_a_suspect.Goals as goal

pub returns : goal.returns
returns c = lemmas.blocked_are_suspected
