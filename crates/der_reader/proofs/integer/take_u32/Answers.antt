use Rattle.der_reader.proofs.AnswerLemmas.{integer_if_given, none_if_no_integer}
use Rattle.der_reader.proofs.integer.take_u32.Goals as goal

pub returns-clause-integer : goal.returns-clause-integer
returns-clause-integer c = integer_if_given c.args.bytes.now _ c.take_integer.ensures

pub returns-clause-none : goal.returns-clause-none
returns-clause-none c = none_if_no_integer c.args.bytes.now _ c.take_integer.ensures
