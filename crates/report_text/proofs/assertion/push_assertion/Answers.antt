use Rattle.std.proofs.Common.{◌-◌, subst, sym, arith}
use Rattle.report_text.specs.Assertions.{IsFilled}
use Rattle.report_text.proofs.AsesLemmas.{filled_none, filled_some, none_there, prefix_short, prefixed, some_there}
use Rattle.report_text.proofs.assertion.push_assertion.Goals as goal
use Rattle.report_text.proofs.assertion.push_assertion.Goals.{then-is_empty+in_ok-push_count-2, else-is_empty+in_ok-taken}

pub overflow_sub-room-else-is_empty : goal.overflow_sub-room-else-is_empty
overflow_sub-room-else-is_empty c =
    omega (
      arith,
      c.len.ensures,
      c.len-start.ensures,
      prefixed c.args.customer c.args.out.now.items c.push_count.new.out.items (rw c.from.ensures at c.in_ok-push_count.ensures.ok),
      prefix_short c.args.customer c.ranges.customer.fits,
    )

pub push_filling-requires : goal.push_filling-requires
push_filling-requires c =
    omega (
      arith,
      c.len.ensures,
      c.len-start.ensures,
      prefixed c.args.customer c.args.out.now.items c.push_count.new.out.items (rw c.from.ensures at c.in_ok-push_count.ensures.ok),
      prefix_short c.args.customer c.ranges.customer.fits,
    )

pub returns-clause-filled : goal.returns-clause-filled
returns-clause-filled c = elim c.if-is_empty.branch [
  | then-is_empty+in_ok-push_count-2 w ↦
      filled_none c.args.customer c.if-is_empty.taken c.args.providers.now c.ranges.customer.fits (none_there c.args.providers.now c.is_empty.result c.is_empty.ensures w.if-is_empty.true) w.taken-is
  | else-is_empty+in_ok-taken w ↦
      let some = some_there c.args.providers.now c.is_empty.result c.is_empty.ensures w.if-is_empty.false in
      let room = prefixed c.args.customer c.args.out.now.items c.push_count.new.out.items (rw c.from.ensures at c.in_ok-push_count.ensures.ok) in
      subst (IsFilled c.args.customer c.args.providers.now) (sym w.taken-is)
      (filled_some c.args.customer (4096 - (w.len.result - c.len-start.result)) w.in_ok-taken.taken c.args.providers.now c.ranges.customer.fits
      (omega (arith, w.len.ensures, c.len-start.ensures, room)) some w.in_ok-taken.ensures.within (w.in_ok-taken.ensures.some some) w.in_ok-taken.ensures.fits w.in_ok-taken.ensures.full)
]
