use Rattle.std.proofs.Common.{◌∷◌, ℕ, List, IfOk, IfErr, ap, subst, sym, ◌∙◌}
use Rattle.av_text.specs.Words.{words_left}
use Rattle.script_lines.specs.declared.condition_words.Given.{Given}
use Rattle.script_lines.specs.Conditions.{AreConditions}
use Rattle.script_lines.specs.Fields.{RefusesWords}
use Rattle.script_lines.specs.Forms.{conditions}
use Rattle.script_lines.proofs.ConditionReadingLemmas.{with_refused, with_spelled}
use Rattle.script_lines.proofs.condition_words.+read_conditions.Goals as goal

pub returns-clause-spelled : goal.returns-clause-spelled
returns-clause-spelled t c =
    let name = c.in-Some-condition_name.name in
    let word = c.in-Some.word.now in
    let rest = words_left c.next-2.new.self in
    let others = c.read_conditions-others.result in
    let P : List (List ℕ) → Type 0 = λ words. IfOk c.with_condition.result (AreConditions c.args.given words) in
    let Q : Given → Type 0 = λ given. IfOk others (AreConditions given rest) in
    subst P (sym (c.in-Some.ensures.steps ∙ ap (λ (words : List (List ℕ)). word ∷ words) c.in-Some-next.ensures.steps))
    (with_spelled c.args.given name word c.in-Some-next.value.now rest others c.with_condition.result
    (record { named = c.in-Some-condition_name.ensures.spelled; free = sym c.has.ensures ∙ c.if-has.false })
    c.with_condition.ensures.spelled (subst Q c.with.ensures c.read_conditions-others.ensures.spelled))

pub returns-clause-refused : goal.returns-clause-refused
returns-clause-refused t c =
    let name = c.in-Some-condition_name.name in
    let word = c.in-Some.word.now in
    let rest = words_left c.next-2.new.self in
    let others = c.read_conditions-others.result in
    let P : List (List ℕ) → Type 0 = λ words. IfErr c.with_condition.result (RefusesWords (conditions c.args.given) words) in
    let Q : Given → Type 0 = λ given. IfOk others (AreConditions given rest) in
    let R : Given → Type 0 = λ given. IfErr others (RefusesWords (conditions given) rest) in
    subst P (sym (c.in-Some.ensures.steps ∙ ap (λ (words : List (List ℕ)). word ∷ words) c.in-Some-next.ensures.steps))
    (with_refused c.args.given name word c.in-Some-next.value.now rest others c.with_condition.result
    (record { named = c.in-Some-condition_name.ensures.spelled; free = sym c.has.ensures ∙ c.if-has.false })
    c.with_condition.ensures.refused (subst Q c.with.ensures c.read_conditions-others.ensures.spelled)
    (subst R c.with.ensures c.read_conditions-others.ensures.refused))
