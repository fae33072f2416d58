use Rattle.std.proofs.Common.{◌≡◌, ◌-◌, length, drop}
use Rattle.hop_index.specs.Loose.{cases_from}
use Rattle.hop_index.proofs.loose_between.LooseBetweenIterator.next.Given as goal

abbrev pub invariant-loop-self : goal.invariant-loop-self
invariant-loop-self l =
    cases_from l.self-inside.x l.self-inside.y l.self-inside.next (drop l.self-inside.next l.self-inside.loose.now) ≡ l.fn.self

abbrev pub decreases-loop-self : goal.decreases-loop-self
decreases-loop-self l = length l.self-inside.loose.now - l.self-inside.next
