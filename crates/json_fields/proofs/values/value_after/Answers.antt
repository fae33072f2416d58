use Rattle.std.proofs.Common.{sym, ◌∙◌}
use Rattle.json_fields.proofs.ValuesLemmas.{member_new, member_old}
use Rattle.json_fields.proofs.values.value_after.Goals as goal

pub returns-then-eq : goal.returns-then-eq
returns-then-eq g c = λ d ms kind before.
    member_new g.V.Value.see g.V.Value.stands_for c.args.wanted.now c.args.name.now d ms c.there.result c.of.result c.there.ensures (sym c.eq.ensures ∙ c.if-eq.true) (c.of.ensures d kind)

pub returns-else-eq : goal.returns-else-eq
returns-else-eq g c = λ d ms kind before.
    member_old g.V.Value.see g.V.Value.stands_for c.args.wanted.now c.args.name.now d ms c.args.before (sym c.eq.ensures ∙ c.if-eq.false) before
