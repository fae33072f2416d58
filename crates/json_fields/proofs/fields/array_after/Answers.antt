use Rattle.std.proofs.Common.{is_some, sym, ap, ◌∙◌}
use Rattle.serde_json.specs.Find.{as_array}
use Rattle.json_fields.specs.Object.{list_of}
use Rattle.json_fields.proofs.ObjectLemmas.{array_same, array_other, some_list}
use Rattle.json_fields.proofs.fields.array_after.Goals as goal

pub returns-then-eq : goal.returns-then-eq
returns-then-eq c = λ d ms kind before. c.is_array.ensures ∙ kind.array ∙ some_list list_of (as_array d) ∙ ap is_some (array_same c.args.wanted.now c.args.name.now d ms (sym c.eq.ensures ∙ c.if-eq.true))

pub returns-else-eq : goal.returns-else-eq
returns-else-eq c = λ d ms kind before. before ∙ ap is_some (array_other c.args.wanted.now c.args.name.now d ms (sym c.eq.ensures ∙ c.if-eq.false))
