use Rattle.std.proofs.Common.{◌≡◌, ℕ, ◌||◌}
use Rattle.std.specs.List.{list_any}
use Rattle.hop_index.specs.Index.{has as hops_have}
use Rattle.hop_index.specs.Numbers.{has_number}
use Rattle.listings.proofs.gathering.cases_of.Given as goal

abbrev pub invariant-loop-other : goal.invariant-loop-other
invariant-loop-other l = (n : ℕ) → (has_number l.cases.items n || list_any (λ y. hops_have l.index l.asn y n) l.other-iterator)
    ≡ list_any (λ y. hops_have l.index l.asn y n) l.initial.other-iterator
