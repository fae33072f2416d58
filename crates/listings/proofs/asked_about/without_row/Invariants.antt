use Rattle.std.proofs.Common.{◌≡◌, ◌++◌, drop}
use Rattle.attestations.specs.ComputedTable.{table_of}
use Rattle.listings.specs.SilentSteps.{without_row}
use Rattle.listings.proofs.asked_about.without_row.Given as goal

abbrev pub invariant-loop-asn : goal.invariant-loop-asn
invariant-loop-asn l = l.silent ++ without_row (table_of l.table) (drop l.asn-index l.ases) ≡ without_row (table_of l.table) l.ases
