use Rattle.std.proofs.Common.{List, ap, sym, subst}
use Rattle.attestations.specs.declared.term.Term.{Term}
use Rattle.attestations.specs.Attested.{attested_list}
use Rattle.vap_table.specs.Turning.{rows_at, IsTurned}
use Rattle.vap_table.proofs.turning.turned.Goals as goal

pub returns-in_ok-next-in-Some-clause-tally : goal.returns-in_ok-next-in-Some-clause-tally
returns-in_ok-next-in-Some-clause-tally c =
    subst (λ (list : List Term). IsTurned (rows_at c.args.from list) (rows_at c.args.to list) c.args.tally c.in_ok-next-in-Some.next) (sym (ap attested_list c.in-Some.is)) c.in_ok-next-in-Some.ensures.tally
