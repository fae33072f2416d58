use Rattle.hop_index.proofs.IndexLemmas.{none_out}
use Rattle.hop_index.proofs.lists.HopLists.remove.Goals as goal

pub returns-in_default : goal.returns-in_default
returns-in_default c = none_out c.args.self.now c.args.case c.args.chain.now c.are_few.ensures c.in_default.ensures
