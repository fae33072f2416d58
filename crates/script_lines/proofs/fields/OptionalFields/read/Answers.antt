use Rattle.std.proofs.Common.{sym, subst, List, ℕ}
use Rattle.av_text.specs.Words.{words_left}
use Rattle.script_lines.specs.Forms.{optional, IsSpelled}
use Rattle.script_lines.specs.Fields.{RefusesWords}
use Rattle.std.specs.declared.option.Option.TheVariants.{Some}
use Rattle.script_lines.proofs.FormLemmas.{optional_refused, optional_spelled}
use Rattle.script_lines.proofs.fields.OptionalFields.read.Goals as goal

pub returns-in-Ok-clause-spelled : goal.returns-in-Ok-clause-spelled
returns-in-Ok-clause-spelled g c = λ build.
    let P : List (List ℕ) → Type 0 = λ words. IsSpelled (optional g.K.Kind.kind) build words (build (Some (g.K.Kind.value c.in-Ok.value))) in
    subst P (sym c.in-Some.ensures.steps)
    (optional_spelled g.K.Kind.kind c.in-Some.word.now (words_left c.next.new.self) g.K.Kind.value (λ none command. command) c.read.result c.read-2.result
    c.both.result c.in-Ok.value c.in-Ok.field-0-1 c.read.ensures.spelled c.read-2.ensures.spelled c.both.ensures c.in-Ok.is build)

pub returns-in-Err-clause-refused : goal.returns-in-Err-clause-refused
returns-in-Err-clause-refused g c =
    let P : List (List ℕ) → Type 0 = λ words. RefusesWords (optional g.K.Kind.kind) words c.in-Err.fault in
    subst P (sym c.in-Some.ensures.steps)
    (optional_refused g.K.Kind.kind c.in-Some.word.now (words_left c.next.new.self) g.K.Kind.value (λ none command. command) c.read.result c.read-2.result
    c.both.result c.in-Err.fault c.read.ensures.spelled c.read.ensures.refused c.read-2.ensures.spelled c.read-2.ensures.refused c.both.ensures c.in-Err.is)
