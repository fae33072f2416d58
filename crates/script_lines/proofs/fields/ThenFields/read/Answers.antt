use Rattle.std.proofs.Common.{sym, subst, List, ℕ, IfErr}
use Rattle.av_text.specs.Words.{words_left}
use Rattle.script_lines.specs.Forms.{◌then◌}
use Rattle.script_lines.specs.Fields.{RefusesWords}
use Rattle.script_lines.proofs.FormLemmas.{joined_refused}
use Rattle.script_lines.proofs.fields.ThenFields.read.Goals as goal

pub returns-clause-refused : goal.returns-clause-refused
returns-clause-refused g c =
    let P : List (List ℕ) → Type 0 = λ words. IfErr c.both.result (RefusesWords (g.K.Kind.kind then g.F.Fields.form) words) in
    subst P (sym c.in-Some.ensures.steps)
    (rw c.both.ensures (joined_refused g.K.Kind.kind g.F.Fields.form c.in-Some.word.now (words_left c.next.new.self) g.K.Kind.value g.F.Fields.build c.read.result c.read-2.result
    c.read.ensures.spelled c.read.ensures.refused c.read-2.ensures.spelled c.read-2.ensures.refused))
