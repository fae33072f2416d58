use Rattle.std.proofs.Common.{◌∙◌}
use Rattle.shared_cases.proofs.RowLemmas.{halving_finds}
use Rattle.shared_cases.proofs.moved_rows.has.Goals as goal

pub returns-then-rises : goal.returns-then-rises
returns-then-rises c = c.is_ok.ensures.value ∙ halving_finds c.args.list.now c.args.asn c.binary_search.result (c.requires c.if-rises.true) c.binary_search.ensures.position
