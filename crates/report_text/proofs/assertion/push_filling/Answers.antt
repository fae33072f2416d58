use Rattle.std.proofs.Common.{arith}
use Rattle.report_text.proofs.AsesLemmas.{some_taken}
use Rattle.report_text.proofs.assertion.push_filling.Goals as goal

pub returns-then-len-start-clause-some : goal.returns-then-len-start-clause-some
returns-then-len-start-clause-some c = λ some.
    some_taken c.loop-asn.taken c.args.room c.from.result c.args.out.now.items c.loop-asn.out.items c.push_count.new.out.items c.args.ases.now
    c.requires (omega (arith, c.from.ensures, c.type_inv.ases c.loop-asn.asn-index)) c.loop-asn.invariant.so_far c.in_ok-push_count.ensures.ok
    (omega (arith, c.if-len-start.true, c.len.ensures, c.loop-asn.invariant.start))
