use Rattle.rtr_cache.proofs.UniqueLemmas as lemmas
use Rattle.rtr_cache.proofs.laws.each_pdu_has_one_reply.Goals as goal

pub returns : goal.returns
returns c = lemmas.one_reply
