use Rattle.std.proofs.Common.{◌≡◌, ℕ, List, ◌++◌, length, slice_get}
use Rattle.path_model.specs.Trail.{chain_of}
use Rattle.path_model.proofs.trail.chain_of.Given as goal

abbrev pub invariant-loop-x : goal.invariant-loop-x
invariant-loop-x l = record {
  done : List ℕ;
  parts : l.left ++ done ≡ l.newest_first;
  chain : l.chain ≡ chain_of done;
  behind : l.behind ≡ slice_get done 0;
}

abbrev pub decreases-loop-x : goal.decreases-loop-x
decreases-loop-x l = length l.left
