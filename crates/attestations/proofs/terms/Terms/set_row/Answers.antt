use Rattle.std.proofs.Common.{Some, None, refl, ap, ◌∙◌}
use Rattle.std.specs.FinMap as map
use Rattle.attestations.specs.Terms.{TermMap, lasting, never_ending}
use Rattle.attestations.proofs.HeldLemmas.{held_inserted, moves_to, row_set, still_held}
use Rattle.attestations.proofs.TermLemmas.{sets_only}
use Rattle.attestations.proofs.terms.Terms.set_row.Goals as goal

pub invariant_of-self-2 : goal.invariant_of-self-2
invariant_of-self-2 c =
    still_held c.self.inside.rows c.self.inside.single.entries c.self.inside.many.entries c.set.new.self c.remove.new.self.entries c.remove-3.new.self.entries
    c.args.customer (Some c.args.row) None None
    (row_set c.self.inside.rows c.set.new.self c.args.customer c.args.row c.requires c.in_ok-set.ensures.ok)
    (moves_to c.self.inside.single.entries c.remove.new.self.entries c.args.customer None c.remove.ensures.updates.0)
    (moves_to c.self.inside.many.entries c.remove-3.new.self.entries c.args.customer None c.remove-3.ensures.updates.0)
    c.self.invariant (λ e. refl) (λ e. refl) (λ e. refl) (sets_only (lasting c.args.row) c.requires)

pub returns-clause-ok : goal.returns-clause-ok
returns-clause-ok c =
    held_inserted c.self.inside.rows c.self.inside.single.entries c.self.inside.many.entries c.set.new.self c.remove.new.self.entries c.remove-3.new.self.entries
    c.args.customer (Some c.args.row) None None
    (row_set c.self.inside.rows c.set.new.self c.args.customer c.args.row c.requires c.in_ok-set.ensures.ok)
    (moves_to c.self.inside.single.entries c.remove.new.self.entries c.args.customer None c.remove.ensures.updates.0)
    (moves_to c.self.inside.many.entries c.remove-3.new.self.entries c.args.customer None c.remove-3.ensures.updates.0)
    (never_ending c.args.row) refl
    ∙ ap (λ (m : TermMap). map.insert m c.args.customer (never_ending c.args.row)) c.self.view_is
