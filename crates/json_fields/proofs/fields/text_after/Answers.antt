use Rattle.std.proofs.Common.{ℕ, List, Bor, is_some, sym, ap, ◌∙◌}
use Rattle.json_fields.proofs.ObjectLemmas.{some_list, text_same, text_other}
use Rattle.json_fields.proofs.fields.text_after.Goals as goal

pub returns-then-eq : goal.returns-then-eq
returns-then-eq c = λ d ms kind before. c.is_some.ensures ∙ some_list (λ (t : Bor (List ℕ)). t.now) c.text.result ∙ ap is_some (c.text.ensures ∙ kind.text) ∙ text_same c.args.wanted.now c.args.name.now d ms (sym c.eq.ensures ∙ c.if-eq.true)

pub returns-else-eq : goal.returns-else-eq
returns-else-eq c = λ d ms kind before. before ∙ text_other c.args.wanted.now c.args.name.now d ms (sym c.eq.ensures ∙ c.if-eq.false)
