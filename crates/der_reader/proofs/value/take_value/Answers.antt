use Rattle.der_reader.proofs.AnswerLemmas.{spelled_if_given, none_if_refused}
use Rattle.der_reader.proofs.value.take_value.Goals as goal

pub returns-clause-spelled : goal.returns-clause-spelled
returns-clause-spelled c = spelled_if_given c.args.tag c.args.bytes.now _ c.take_first.ensures

pub returns-clause-none : goal.returns-clause-none
returns-clause-none c = none_if_refused c.args.tag c.args.bytes.now _ c.take_first.ensures
