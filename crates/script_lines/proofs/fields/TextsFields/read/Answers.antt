use Rattle.std.proofs.Common.{◌∙◌}
use Rattle.av_text.specs.Words.{words_left}
use Rattle.script_lines.proofs.TextLemmas.{rest_refused, rest_spelled}
use Rattle.script_lines.proofs.fields.TextsFields.read.Goals as goal

pub returns-clause-spelled : goal.returns-clause-spelled
returns-clause-spelled c =
    rest_spelled c.read_more.result c.in-Some.word.now c.from.result (words_left c.next.new.self) (words_left c.args.words)
    c.in-Some.ensures.steps (c.from.ensures ∙ c.in_ok-first.ensures.spelled.1) (c.in_ok-first.first, c.in_ok-first.ensures.spelled) c.read_more.ensures.spelled

pub returns-clause-refused : goal.returns-clause-refused
returns-clause-refused c =
    rest_refused c.read_more.result c.in-Some.word.now (words_left c.next.new.self) (words_left c.args.words) c.in-Some.ensures.steps c.read_more.ensures.refused
