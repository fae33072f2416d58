use Rattle.attestations.specs.ComputedTable.{table_of}
use Rattle.listings.proofs.SilentListLemmas.{without_next, without_over}
use Rattle.listings.proofs.asked_about.without_row.Goals as goal

pub loop-asn-preserved : goal.loop-asn-preserved
loop-asn-preserved c =
    without_next (table_of c.args.table.now) c.args.ases.now c.loop-asn.asn-index c.loop-asn.silent c.loop-asn.invariant c.push_if_silent.new.silent c.loop-asn-test.true c.in_ok-push_if_silent.ensures

pub returns : goal.returns
returns c = without_over (table_of c.args.table.now) c.args.ases.now c.loop-asn.asn-index c.loop-asn.silent c.loop-asn.invariant c.loop-asn-test.false
