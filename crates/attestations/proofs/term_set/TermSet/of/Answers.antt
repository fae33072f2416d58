use Rattle.attestations.specs.Order.{term_total}
use Rattle.attestations.proofs.SetOfLemmas.{rises_sorted}
use Rattle.attestations.proofs.TermLemmas.{same_sorted}
use Rattle.attestations.proofs.term_set.TermSet.of.Goals as goal

pub invariant_of-result : goal.invariant_of-result
invariant_of-result c = rises_sorted term_total c.sort_unstable.new.self.items c.dedup.new.self.items c.sort_unstable.ensures.sorted c.dedup.ensures.filtered

pub returns : goal.returns
returns c = same_sorted c.args.terms.items c.sort_unstable.new.self.items c.dedup.new.self.items c.sort_unstable.ensures.permutation c.dedup.ensures.filtered
