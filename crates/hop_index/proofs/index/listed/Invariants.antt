use Rattle.hop_index.proofs.ListingLemmas.{HaveFirst}
use Rattle.hop_index.proofs.index.listed.Given as goal

abbrev pub invariant-loop-case : goal.invariant-loop-case
invariant-loop-case l = HaveFirst l.loose l.case l.lists
