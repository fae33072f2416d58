use Rattle.std.proofs.Common.{◌≡◌, drop}
use Rattle.std.specs.Option.{option_copied}
use Rattle.vap_table.specs.Counting.{missing}
use Rattle.vap_table.proofs.searching.are_held.Given as goal

-- all so far are held
abbrev pub invariant-loop-number : goal.invariant-loop-number
invariant-loop-number l = missing (option_copied l.row) (drop l.number-index l.list) ≡ missing (option_copied l.row) l.list
