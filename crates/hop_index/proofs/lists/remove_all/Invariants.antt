use Rattle.std.proofs.Common.{◌≡◌, ℕ, ◌-◌, ◌≤◌, length, not, ◌&&◌, nat_eq}
use Rattle.hop_index.specs.Hops.{joins_within}
use Rattle.hop_index.specs.Lists.{has}
use Rattle.hop_index.specs.Kept.{AreKept}
use Rattle.hop_index.proofs.lists.remove_all.Given as goal

abbrev pub invariant-loop-k : goal.invariant-loop-k
invariant-loop-k l = record {
  removed : (x y n : ℕ) → has l.hops x y n ≡ (has l.fn.hops x y n && not (nat_eq n l.case && joins_within (l.k - 1) l.chain x y));
  kept : AreKept l.fn.ends.entries l.fn.hops → AreKept l.ends.entries l.hops;
  within : l.k - 1 ≤ length l.chain - 1;
}
