use Rattle.std.proofs.Common.{Some, option_map, sym, ap, ◌∙◌}
use Rattle.serde_json.specs.Find.{as_number}
use Rattle.serde_json.specs.View.{number_view}
use Rattle.json_fields.specs.Tokens.{numbers_kept}
use Rattle.json_fields.proofs.ObjectLemmas.{if_there_same, if_there_other, maps_there}
use Rattle.json_fields.proofs.fields.number_if_there_after.Goals as goal

pub returns-then-eq : goal.returns-then-eq
returns-then-eq c = λ d ms kind before.
    ap numbers_kept c.there.ensures ∙ maps_there number_view c.number.result ∙ ap (option_map Some) (c.number.ensures ∙ kind.number)
    ∙ if_there_same as_number c.args.wanted.now c.args.name.now d ms (sym c.eq.ensures ∙ c.if-eq.true)

pub returns-else-eq : goal.returns-else-eq
returns-else-eq c = λ d ms kind before. before ∙ if_there_other as_number c.args.wanted.now c.args.name.now d ms (sym c.eq.ensures ∙ c.if-eq.false)
