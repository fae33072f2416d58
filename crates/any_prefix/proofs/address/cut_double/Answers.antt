use Rattle.std.proofs.Common.{arith, true≢false, sym, ◌∙◌}
use Rattle.any_prefix.proofs.DoubleLemmas.{first_double, no_doubles, none_next}
use Rattle.any_prefix.proofs.address.cut_double.Goals as goal

pub loop-at-preserved : goal.loop-at-preserved
loop-at-preserved c = none_next c.args.text.now c.loop-at.at (omega arith) c.loop-at.invariant (λ both. true≢false (sym (c.is_double.ensures.1 both) ∙ c.if-is_double.false))

pub returns-clause-none : goal.returns-clause-none
returns-clause-none c = no_doubles c.args.text.now c.loop-at.at (omega arith) c.loop-at.invariant

pub returns-then-is_double-clause-first : goal.returns-then-is_double-clause-first
returns-then-is_double-clause-first c = λ l r e.
    let first = first_double c.args.text.now c.loop-at.at (omega arith) c.loop-at.invariant l r e in omega (arith, first, c.split_at.ensures.front_len)
