use Rattle.rtr_cache.proofs.ExchangeLemmas as lemmas
use Rattle.rtr_cache.proofs.laws.routers_follow_the_table.Goals as goal

pub returns : goal.returns
returns c = lemmas.follows_table
