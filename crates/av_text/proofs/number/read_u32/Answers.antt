use Rattle.av_text.proofs.NumberLemmas.{number_again}
use Rattle.av_text.proofs.number.read_u32.Goals as goal

pub returns-clause-again : goal.returns-clause-again
returns-clause-again c = number_again c.args.text.now c.read_digits.result c.read_digits.ensures.number c.read_digits.ensures.none
