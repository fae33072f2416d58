use Rattle.std.proofs.Common.{◌∙◌}
use Rattle.attestations.specs.Held.{gathered}
use Rattle.attestations.proofs.GatheredLemmas.{nothing_gathered}
use Rattle.attestations.proofs.gathered_terms.GatheredTerms.new.Goals as goal

pub returns : goal.returns
returns c = (λ i. gathered (c.new.ensures i) (c.new-2.ensures.empty i)) ∙ nothing_gathered
