use Rattle.std.proofs.Common.{◌≡◌, length}
use Rattle.hop_index.specs.Loose.{beside, not_below}
use Rattle.hop_index.specs.LooseEnds.{loose_ends}
use Rattle.hop_index.proofs.loose_through.LooseThroughIterator.next.Given as goal

abbrev pub invariant-loop-case : goal.invariant-loop-case
invariant-loop-case l = loose_ends l.self ≡ loose_ends l.fn.self

abbrev pub decreases-loop-case : goal.decreases-loop-case
decreases-loop-case l = length (not_below l.self.from (beside l.self.x l.self.loose.now))
