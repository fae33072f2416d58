use Rattle.std.proofs.Common.{sym, ◌∙◌, eqb-true, eq-eqb}
use Rattle.otc_check.proofs.MapLemmas.{no_entries, no_marks}
use Rattle.otc_check.proofs.marks.Marks.is_empty.Goals as goal

pub returns : goal.returns
returns c = (
  λ none. sym c.self.view_is ∙ no_entries c.self.inside.held (sym c.len.ensures.len ∙ eqb-true c.len.result 0 none),
  λ none. eq-eqb c.len.result 0 (c.len.ensures.len ∙ no_marks c.self.inside.held (c.self.view_is ∙ none)),
)
