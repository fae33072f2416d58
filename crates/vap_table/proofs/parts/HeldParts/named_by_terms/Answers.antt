use Rattle.std.proofs.Common.{ap, sym, ◌∙◌}
use Rattle.std.specs.FinMap as map
use Rattle.attestations.specs.CurrentTable.{Parts}
use Rattle.attestations.specs.Terms.{TermMap}
use Rattle.vap_table.specs.Change.{terms_in}
use Rattle.vap_table.specs.Lasts.{lasts_among}
use Rattle.vap_table.specs.Sources.{list_of, terms_or_empty}
use Rattle.vap_table.proofs.ComparingLemmas.{same_in_both, same_lasts_in_both}
use Rattle.vap_table.proofs.SourcesLemmas.{looked_up_terms}
use Rattle.vap_table.proofs.parts.HeldParts.named_by_terms.Goals as goal

pub returns-clause-all : goal.returns-clause-all
returns-clause-all c q out = ap (λ (p : Parts). map.get (terms_in p.sources c.args.name.now) q) (sym c.self.view_is)
    ∙ ap (λ (m : TermMap). map.get m q) (sym (looked_up_terms c.self.inside.sources c.args.name.now) ∙ ap terms_or_empty (sym c.terms.ensures) ∙ sym c.terms_or-held.ensures)
    ∙ same_in_both c.unended-names.result.all c.add_differing.new.self.all c.add_differing-2.new.self.all c.terms_or-held.result.now c.args.terms.now c.in_ok-add_differing.ensures.all c.in_ok-add_differing-2.ensures.all q out

pub returns-clause-ended : goal.returns-clause-ended
returns-clause-ended c q out m = ap (λ (p : Parts). lasts_among (list_of (terms_in p.sources c.args.name.now) q) m) (sym c.self.view_is)
    ∙ ap (λ (terms : TermMap). lasts_among (list_of terms q) m) (sym (looked_up_terms c.self.inside.sources c.args.name.now) ∙ ap terms_or_empty (sym c.terms.ensures) ∙ sym c.terms_or-held.ensures)
    ∙ same_lasts_in_both c.unended-names.result.ended c.add_differing.new.self.ended c.add_differing-2.new.self.ended c.terms_or-held.result.now c.args.terms.now c.in_ok-add_differing.ensures.ended c.in_ok-add_differing-2.ensures.ended q out m
