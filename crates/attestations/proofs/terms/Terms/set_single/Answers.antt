use Rattle.std.proofs.Common.{Some, None, refl, ap, ◌∙◌}
use Rattle.std.specs.FinMap as map
use Rattle.attestations.specs.Terms.{TermMap, only}
use Rattle.attestations.proofs.HeldLemmas.{held_inserted, moves_to, never, row_removed, still_held}
use Rattle.attestations.proofs.TermLemmas.{sets_only}
use Rattle.attestations.proofs.terms.Terms.set_single.Goals as goal

pub invariant_of-self-2 : goal.invariant_of-self-2
invariant_of-self-2 c =
    still_held c.self.inside.rows c.self.inside.single.entries c.self.inside.many.entries c.remove.new.self c.insert.new.self.entries c.remove-2.new.self.entries
    c.args.customer None (Some c.args.term) None
    (row_removed c.self.inside.rows c.remove.new.self c.args.customer c.remove.ensures)
    (moves_to c.self.inside.single.entries c.insert.new.self.entries c.args.customer (Some c.args.term) c.in_ok-insert.ensures.updates.0)
    (moves_to c.self.inside.many.entries c.remove-2.new.self.entries c.args.customer None c.remove-2.ensures.updates.0)
    c.self.invariant never (λ e. refl) (λ e. refl) (sets_only c.args.term c.requires)

pub returns-clause-ok : goal.returns-clause-ok
returns-clause-ok c =
    held_inserted c.self.inside.rows c.self.inside.single.entries c.self.inside.many.entries c.remove.new.self c.insert.new.self.entries c.remove-2.new.self.entries
    c.args.customer None (Some c.args.term) None
    (row_removed c.self.inside.rows c.remove.new.self c.args.customer c.remove.ensures)
    (moves_to c.self.inside.single.entries c.insert.new.self.entries c.args.customer (Some c.args.term) c.in_ok-insert.ensures.updates.0)
    (moves_to c.self.inside.many.entries c.remove-2.new.self.entries c.args.customer None c.remove-2.ensures.updates.0)
    (only c.args.term) refl
    ∙ ap (λ (m : TermMap). map.insert m c.args.customer (only c.args.term)) c.self.view_is
