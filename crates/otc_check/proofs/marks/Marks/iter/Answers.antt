use Rattle.std.proofs.Common.{ap, sym, ◌∙◌}
use Rattle.std.specs.FinMap as fin
use Rattle.otc_check.specs.Marks.{Marked}
use Rattle.otc_check.proofs.MapLemmas.{entries_whole}
use Rattle.otc_check.proofs.marks.Marks.iter.Goals as goal

pub returns-clause-whole : goal.returns-clause-whole
returns-clause-whole c = c.iter.ensures.whole
    ∙ sym (ap (λ (m : Marked). fin.entries m) (sym c.self.view_is) ∙ entries_whole c.self.inside.held c.iter.ensures.in_order)
