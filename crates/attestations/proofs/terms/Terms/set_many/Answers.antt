use Rattle.std.proofs.Common.{Some, None, refl, ap, ◌∙◌}
use Rattle.std.specs.FinMap as map
use Rattle.attestations.specs.Terms.{TermMap}
use Rattle.attestations.proofs.HeldLemmas.{held_inserted, moves_to, never, row_removed, still_held}
use Rattle.attestations.proofs.terms.Terms.set_many.Goals as goal

pub invariant_of-self-2 : goal.invariant_of-self-2
invariant_of-self-2 c =
    still_held c.self.inside.rows c.self.inside.single.entries c.self.inside.many.entries c.remove.new.self c.remove-2.new.self.entries c.insert.new.self.entries
    c.args.customer None None (Some c.args.terms)
    (row_removed c.self.inside.rows c.remove.new.self c.args.customer c.remove.ensures)
    (moves_to c.self.inside.single.entries c.remove-2.new.self.entries c.args.customer None c.remove-2.ensures.updates.0)
    (moves_to c.self.inside.many.entries c.insert.new.self.entries c.args.customer (Some c.args.terms) c.in_ok-insert.ensures.updates.0)
    c.self.invariant (λ e. refl) never never c.requires

pub returns-clause-ok : goal.returns-clause-ok
returns-clause-ok c =
    held_inserted c.self.inside.rows c.self.inside.single.entries c.self.inside.many.entries c.remove.new.self c.remove-2.new.self.entries c.insert.new.self.entries
    c.args.customer None None (Some c.args.terms)
    (row_removed c.self.inside.rows c.remove.new.self c.args.customer c.remove.ensures)
    (moves_to c.self.inside.single.entries c.remove-2.new.self.entries c.args.customer None c.remove-2.ensures.updates.0)
    (moves_to c.self.inside.many.entries c.insert.new.self.entries c.args.customer (Some c.args.terms) c.in_ok-insert.ensures.updates.0)
    c.args.terms refl
    ∙ ap (λ (m : TermMap). map.insert m c.args.customer c.args.terms) c.self.view_is
