use Rattle.std.proofs.Common.{ℕ, ◌+◌, ◌-◌, ◌*◌, ◌^◌, ◌≤◌, length, drop}
use Rattle.any_prefix.specs.Group.{AreDigits}
use Rattle.any_prefix.proofs.group.read_group.Given as goal

abbrev pub invariant-loop-byte : goal.invariant-loop-byte
invariant-loop-byte l = record {
  to : (n : ℕ) → AreDigits 0 l.text n → AreDigits l.value (drop l.byte-index l.text) n;
  from : (n : ℕ) → AreDigits l.value (drop l.byte-index l.text) n → AreDigits 0 l.text n;
  fits : (l.value + 1) * 16 ^ (length l.text - l.byte-index) ≤ 65536;
}
