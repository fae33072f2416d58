use Rattle.script_lines.proofs.ConditionReadingLemmas.{value_refused}
use Rattle.script_lines.proofs.condition_words.with_value.Goals as goal

pub returns-clause-refused : goal.returns-clause-refused
returns-clause-refused g c =
    value_refused g.K.Kind.kind c.args.word.now g.K.Kind.value c.read.result c.args.others c.both.result c.read.ensures.spelled c.read.ensures.refused c.both.ensures
