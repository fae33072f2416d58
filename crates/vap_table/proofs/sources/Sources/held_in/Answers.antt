use Rattle.std.proofs.Common.{ap, sym, ◌∙◌}
use Rattle.std.specs.Option.{option_copied}
use Rattle.attestations.specs.Terms.{TermMap}
use Rattle.vap_table.specs.Sources.{list_of, terms_or_empty}
use Rattle.vap_table.proofs.SourcesLemmas.{looked_up_terms, none_of_empty}
use Rattle.vap_table.proofs.sources.Sources.held_in.Goals as goal

pub returns-in-Some-clause-held : goal.returns-in-Some-clause-held
returns-in-Some-clause-held c = c.of_customer.ensures.whole
    ∙ ap (λ (terms : TermMap). list_of terms c.args.customer) (ap terms_or_empty (sym (ap option_copied c.in-Some.is) ∙ c.terms.ensures) ∙ looked_up_terms c.args.self.now c.args.name.now)

pub returns-in-None-clause-held : goal.returns-in-None-clause-held
returns-in-None-clause-held c = sym (ap (λ (terms : TermMap). list_of terms c.args.customer)
    (sym (looked_up_terms c.args.self.now c.args.name.now) ∙ ap terms_or_empty (sym c.terms.ensures ∙ ap option_copied c.in-None.is)) ∙ none_of_empty c.args.customer)
