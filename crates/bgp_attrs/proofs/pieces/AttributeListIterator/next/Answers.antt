use Rattle.std.proofs.Common.{length, sym, ap, rules}
use Rattle.bgp_attrs.proofs.JoinedLemmas.{shortens, whole-rest, left-none, left-some}
use Rattle.bgp_attrs.specs.Attributes.{field_at}
use Rattle.bgp_attrs.proofs.FieldLemmas.{field_reader}
use Rattle.bgp_attrs.proofs.pieces.AttributeListIterator.next.Goals as goal

pub returns-in_err-attribute-clause-steps : goal.returns-in_err-attribute-clause-steps
returns-in_err-attribute-clause-steps c =
    let empty = left-none field_at c.args.self.now.rest.now c.args.self.now.whole (sym c.in_err-attribute.ensures) in
    rw c.from_residual.ensures (empty, empty)

pub invariant_of-self : goal.invariant_of-self
invariant_of-self c = record { whole = whole-rest field_at (shortens field_reader) c.args.self.now.rest.now _ c.in_ok-attribute.rest.now c.args.self.now.whole (sym c.in_ok-attribute.ensures) }

pub returns-clause-steps : goal.returns-clause-steps
returns-clause-steps c = left-some field_at (shortens field_reader) c.args.self.now.rest.now _ c.in_ok-attribute.rest.now c.args.self.now.whole (sym c.in_ok-attribute.ensures)

pub returns-clause-goes : goal.returns-clause-goes
returns-clause-goes c =
    let shorter = ap length (left-some field_at (shortens field_reader) c.args.self.now.rest.now _ c.in_ok-attribute.rest.now c.args.self.now.whole (sym c.in_ok-attribute.ensures)) in
    search rules
