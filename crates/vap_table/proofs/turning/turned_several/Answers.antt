use Rattle.vap_table.specs.Turning.{rows_left}
use Rattle.vap_table.proofs.TurningLemmas.{turned_parted}
use Rattle.vap_table.proofs.turning.turned_several.Goals as goal

pub returns-clause-tally : goal.returns-clause-tally
returns-clause-tally c = turned_parted c.args.from c.args.to c.args.terms.now c.args.tally c.in_ok-without.without c.in_ok-next.next
    (c.in_ok-without.ensures.tally (rows_left c.args.from c.args.to c.args.terms.now) c.in_ok-gone.ensures.rows)
    (c.in_ok-next.ensures.tally (rows_left c.args.to c.args.from c.args.terms.now) c.in_ok-come.ensures.rows)
