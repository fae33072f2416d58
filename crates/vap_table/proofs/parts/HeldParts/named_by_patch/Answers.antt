use Rattle.std.proofs.Common.{ap, sym, ◌∙◌}
use Rattle.attestations.specs.CurrentTable.{Parts}
use Rattle.attestations.specs.Terms.{TermMap}
use Rattle.vap_table.specs.Change.{terms_in}
use Rattle.vap_table.specs.Lasts.{lasts_among}
use Rattle.vap_table.specs.Sources.{list_of, terms_or_empty}
use Rattle.vap_table.proofs.SourcesLemmas.{looked_up_terms}
use Rattle.vap_table.proofs.parts.HeldParts.named_by_patch.Goals as goal

pub returns-clause-ended : goal.returns-clause-ended
returns-clause-ended c q out said m = ap (λ (p : Parts). lasts_among (list_of (terms_in p.sources c.args.name.now) q) m) (sym c.self.view_is)
    ∙ ap (λ (terms : TermMap). lasts_among (list_of terms q) m) (sym (looked_up_terms c.self.inside.sources c.args.name.now) ∙ ap terms_or_empty (sym c.terms.ensures) ∙ sym c.terms_or-held.ensures)
    ∙ c.in_ok-names.ensures.ended q out said m
