use Rattle.std.proofs.Common.{◌≡◌, ◌∙◌, rules}
use Rattle.std.specs.List.{list_any}
use Rattle.hop_index.specs.Index.{has as hops_have}
use Rattle.hop_index.specs.Numbers.{has_number}
use Rattle.shared_cases.proofs.SortLemmas.{settled_rising, settled_same}
use Rattle.listings.proofs.GatherLemmas.{asked_whole}
use Rattle.listings.proofs.gathering.cases_of.Goals as goal

pub returns-clause-whole : goal.returns-clause-whole
returns-clause-whole c = λ y n hop.
    let told : has_number c.loop-other.cases.items n ≡ list_any (λ z. hops_have c.args.index.now c.args.asn z n) c.neighbours-other-items.result = search rules in
    settled_same c.loop-other.cases.items c.sort.new.self.items c.dedup.new.self.items c.in_ok-sort.ensures.permutation c.in_ok-sort.ensures.sorted c.dedup.ensures.filtered n
    ∙ told ∙ asked_whole c.args.index.now c.args.asn c.neighbours-other-items.result y n (c.neighbours-other-items.ensures.whole y n hop) hop

pub returns-clause-rising : goal.returns-clause-rising
returns-clause-rising c = settled_rising c.loop-other.cases.items c.sort.new.self.items c.dedup.new.self.items c.in_ok-sort.ensures.permutation c.in_ok-sort.ensures.sorted c.dedup.ensures.filtered
