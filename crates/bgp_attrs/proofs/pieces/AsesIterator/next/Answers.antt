use Rattle.std.proofs.Common.{length, sym, ap, rules}
use Rattle.bgp_attrs.proofs.SegmentLemmas.{ases_first, ases_none}
use Rattle.bgp_attrs.proofs.pieces.AsesIterator.next.Goals as goal

pub returns-in_err-asn-clause-steps : goal.returns-in_err-asn-clause-steps
returns-in_err-asn-clause-steps c =
    let empty = ases_none c.args.self.now.wide c.args.self.now.rest.now (sym c.in_err-asn.ensures) in
    rw c.from_residual.ensures (empty, empty)

pub returns-clause-steps : goal.returns-clause-steps
returns-clause-steps c = ases_first c.args.self.now.wide c.args.self.now.rest.now _ c.in_ok-asn.rest.now (sym c.in_ok-asn.ensures)

pub returns-clause-goes : goal.returns-clause-goes
returns-clause-goes c =
    let shorter = ap length (ases_first c.args.self.now.wide c.args.self.now.rest.now _ c.in_ok-asn.rest.now (sym c.in_ok-asn.ensures)) in
    search rules
