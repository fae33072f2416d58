use Rattle.std.proofs.Common.{◌≡◌, ◌++◌, drop}
use Rattle.std.specs.Option.{option_copied}
use Rattle.vap_table.specs.Counting.{missing}
use Rattle.vap_table.proofs.tallying.push_missing.Given as goal

abbrev pub invariant-loop-provider : goal.invariant-loop-provider
invariant-loop-provider l = l.more ++ missing (option_copied l.row) (drop l.provider-index l.list) ≡ l.fn.more ++ missing (option_copied l.row) l.list
