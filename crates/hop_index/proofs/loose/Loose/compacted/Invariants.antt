use Rattle.hop_index.proofs.CompactLemmas.{HasFirst}
use Rattle.hop_index.proofs.loose.Loose.compacted.Given as goal

abbrev pub invariant-loop-case : goal.invariant-loop-case
invariant-loop-case l = HasFirst l.self l.case l.loose
