use Rattle.std.proofs.Common.{◌≡◌, ◌++◌, drop}
use Rattle.vap_table.specs.Shown.{shown}
use Rattle.vap_table.proofs.shown.push_shown.Given as goal

abbrev pub invariant-loop-one : goal.invariant-loop-one
invariant-loop-one l = l.row.items ++ shown l.is_filtered (drop l.one-index l.given) ≡ l.fn.row.items ++ shown l.is_filtered l.given
