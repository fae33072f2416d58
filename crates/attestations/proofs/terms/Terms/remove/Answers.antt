use Rattle.std.proofs.Common.{None, refl, ap, ◌∙◌}
use Rattle.std.specs.FinMap as map
use Rattle.attestations.specs.Terms.{TermMap}
use Rattle.attestations.proofs.HeldLemmas.{held_removed, moves_to, row_removed, sets_none, still_held}
use Rattle.attestations.proofs.terms.Terms.remove.Goals as goal

pub invariant_of-self : goal.invariant_of-self
invariant_of-self c =
    still_held c.self.inside.rows c.self.inside.single.entries c.self.inside.many.entries c.remove.new.self c.remove-2.new.self.entries c.remove-4.new.self.entries
    c.args.customer None None None
    (row_removed c.self.inside.rows c.remove.new.self c.args.customer c.remove.ensures)
    (moves_to c.self.inside.single.entries c.remove-2.new.self.entries c.args.customer None c.remove-2.ensures.updates.0)
    (moves_to c.self.inside.many.entries c.remove-4.new.self.entries c.args.customer None c.remove-4.ensures.updates.0)
    c.self.invariant (λ e. refl) (λ e. refl) (λ e. refl) sets_none

pub returns : goal.returns
returns c =
    held_removed c.self.inside.rows c.self.inside.single.entries c.self.inside.many.entries c.remove.new.self c.remove-2.new.self.entries c.remove-4.new.self.entries
    c.args.customer None None None
    (row_removed c.self.inside.rows c.remove.new.self c.args.customer c.remove.ensures)
    (moves_to c.self.inside.single.entries c.remove-2.new.self.entries c.args.customer None c.remove-2.ensures.updates.0)
    (moves_to c.self.inside.many.entries c.remove-4.new.self.entries c.args.customer None c.remove-4.ensures.updates.0)
    refl
    ∙ ap (λ (m : TermMap). map.remove m c.args.customer) c.self.view_is
