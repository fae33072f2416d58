use Rattle.std.proofs.Common.{Some, option_map, sym, ap, ◌∙◌}
use Rattle.serde_json.specs.Find.{as_str}
use Rattle.json_fields.proofs.ObjectLemmas.{if_there_same, if_there_other}
use Rattle.json_fields.proofs.fields.text_if_there_after.Goals as goal

pub returns-in_ok-text-clause-ok : goal.returns-in_ok-text-clause-ok
returns-in_ok-text-clause-ok c = λ d ms kind before.
    c.in_ok-text.ensures.ok ∙ ap (option_map Some) kind.text
    ∙ if_there_same as_str c.args.wanted.now c.args.name.now d ms (sym c.eq.ensures ∙ c.if-eq.true)

pub returns-else-eq-clause-ok : goal.returns-else-eq-clause-ok
returns-else-eq-clause-ok c = λ d ms kind before. before ∙ if_there_other as_str c.args.wanted.now c.args.name.now d ms (sym c.eq.ensures ∙ c.if-eq.false)
