use Rattle.std.proofs.lemmas.Fmt.{decimal_injective}
use Rattle.av_text.proofs.AddressLemmas.{addr_text_injective}
use Rattle.av_text.proofs.AnySpellingLemmas.{prefix_text_injective, peer_text_injective}
use Rattle.av_text.proofs.SpellingLemmas.{role_text_injective}
use Rattle.av_text.proofs.spellings.spellings_differ.Goals as goal

pub returns-clause-numbers : goal.returns-clause-numbers
returns-clause-numbers c = decimal_injective

pub returns-clause-addresses : goal.returns-clause-addresses
returns-clause-addresses c = addr_text_injective

pub returns-clause-prefixes : goal.returns-clause-prefixes
returns-clause-prefixes c = prefix_text_injective

pub returns-clause-peers : goal.returns-clause-peers
returns-clause-peers c = peer_text_injective

pub returns-clause-roles : goal.returns-clause-roles
returns-clause-roles c = role_text_injective
