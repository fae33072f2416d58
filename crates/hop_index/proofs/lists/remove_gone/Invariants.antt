use Rattle.std.proofs.Common.{take}
use Rattle.hop_index.specs.Kept.{RemovesEach}
use Rattle.hop_index.specs.Kept.{AreKept}
use Rattle.hop_index.proofs.lists.remove_gone.Given as goal

abbrev pub invariant-loop-k : goal.invariant-loop-k
invariant-loop-k l = record {
  removed : RemovesEach l.fn.hops (take l.k l.gone) l.hops;
  kept : AreKept l.fn.ends.entries l.fn.hops → AreKept l.ends.entries l.hops;
}
