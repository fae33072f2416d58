use Rattle.std.proofs.Common.{◌≡◌, length}
use Rattle.hop_index.specs.Numbers.{numbers_or}
use Rattle.hop_index.specs.Ends.{listed_ends}
use Rattle.hop_index.proofs.listed_through.ListedThroughIterator.next.Given as goal

abbrev pub invariant-loop-self : goal.invariant-loop-self
invariant-loop-self l = listed_ends l.self ≡ listed_ends l.fn.self

abbrev pub decreases-loop-self : goal.decreases-loop-self
decreases-loop-self l = length (numbers_or l.self.neighbours)
