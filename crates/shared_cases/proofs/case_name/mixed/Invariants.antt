use Rattle.std.proofs.Common.{◌≡◌, ◌+◌, ◌*◌, drop}
use Rattle.std.specs.Prelude.{if◌then◌else◌}
use Rattle.shared_cases.specs.Names.{mixed_into}
use Rattle.shared_cases.proofs.case_name.mixed.Given as goal

abbrev pub invariant-loop-x : goal.invariant-loop-x
invariant-loop-x l = mixed_into l.word (drop l.x-index l.x-items) ≡ mixed_into (l.asn * 2 + (if l.trail.set then 1 else 0)) l.trail.chain
