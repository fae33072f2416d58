use Rattle.std.proofs.Common.{sym, ◌∙◌}
use Rattle.json_fields.proofs.ObjectLemmas.{number_same, number_other}
use Rattle.json_fields.proofs.fields.number_after.Goals as goal

pub returns-then-eq : goal.returns-then-eq
returns-then-eq c = λ d ms kind before. c.number.ensures ∙ kind.number ∙ number_same c.args.wanted.now c.args.name.now d ms (sym c.eq.ensures ∙ c.if-eq.true)

pub returns-else-eq : goal.returns-else-eq
returns-else-eq c = λ d ms kind before. before ∙ number_other c.args.wanted.now c.args.name.now d ms (sym c.eq.ensures ∙ c.if-eq.false)
