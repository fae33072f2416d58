use Rattle.path_model.proofs.SetLemmas.{set_of_sorted}
use Rattle.path_model.proofs.as_list.set_of.Goals as goal

pub returns : goal.returns
returns c = set_of_sorted c.args.items.items c.sort_unstable.new.self.items c.dedup.new.self.items c.sort_unstable.ensures.permutation c.sort_unstable.ensures.sorted c.dedup.ensures.filtered
