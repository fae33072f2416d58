use Rattle.hop_index.proofs.ListLemmas.{keys_inserted}
use Rattle.hop_index.proofs.chunked.insert.Goals as goal

pub returns-clause-inserted : goal.returns-clause-inserted
returns-clause-inserted c = rw c.in_ok-insert.ensures.inserted (keys_inserted c.args.numbers.now c.args.number _)
