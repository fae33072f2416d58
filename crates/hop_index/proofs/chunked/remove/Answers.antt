use Rattle.std.specs.BTreeMap.{is_at}
use Rattle.std.specs.Ordering.{nat_cmp}
use Rattle.hop_index.proofs.ListLemmas.{keys_removed}
use Rattle.hop_index.proofs.chunked.remove.Goals as goal

pub returns : goal.returns
returns c = rw c.remove.ensures.removed (keys_removed c.args.numbers.now (is_at (nat_cmp c.args.number)))
