use Rattle.std.proofs.Common.{◌≡◌, List, ◌∷◌, [], sym, subst, arith}
use Rattle.attestations.specs.declared.term.Term.{Term}
use Rattle.vap_table.specs.Turning.{rows_at, IsTurned}
use Rattle.vap_table.proofs.TurningLemmas.{one_item}
use Rattle.vap_table.proofs.turning.turned_terms.Goals as goal

pub returns-in_ok-next-in-len1-clause-tally : goal.returns-in_ok-next-in-len1-clause-tally
returns-in_ok-next-in-len1-clause-tally c =
    let t : Term = c.term-item.result in
    let only : c.args.terms.now ≡ t ∷ [] = one_item c.args.terms.now t (omega (arith, c.in-len1.len_at_least)) (omega (arith, c.in-len1.len_below)) c.term-item.is in
    subst (λ (list : List Term). IsTurned (rows_at c.args.from list) (rows_at c.args.to list) c.args.tally c.in_ok-next-in-len1.next) (sym only) c.in_ok-next-in-len1.ensures.tally
