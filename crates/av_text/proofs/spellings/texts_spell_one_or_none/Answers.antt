use Rattle.av_text.proofs.AnySpellingLemmas.{number_spelled, addr_or_none, prefix_or_none, role_spelled}
use Rattle.av_text.proofs.spellings.texts_spell_one_or_none.Goals as goal

pub returns : goal.returns
returns c = record { numbers = number_spelled; addresses = addr_or_none; prefixes = prefix_or_none; roles = role_spelled }
