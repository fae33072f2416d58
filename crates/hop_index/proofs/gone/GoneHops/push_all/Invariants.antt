use Rattle.std.proofs.Common.{◌≡◌, ℕ, ◌-◌, ◌≤◌, length, ◌||◌, ◌&&◌, nat_eq}
use Rattle.hop_index.specs.Gone.{has_gone}
use Rattle.hop_index.specs.Hops.{joins_within}
use Rattle.hop_index.proofs.gone.GoneHops.push_all.Given as goal

abbrev pub invariant-loop-k : goal.invariant-loop-k
invariant-loop-k l = record {
  gathered : (x y n : ℕ) → has_gone l.self x y n ≡ (has_gone l.fn.self x y n || (nat_eq n l.case && joins_within (l.k - 1) l.chain x y));
  within : l.k - 1 ≤ length l.chain - 1;
}
