use Rattle.std.proofs.Common.{rules, tests, sym, ◌∙◌, is_some}
use Rattle.std.proofs.lemmas.Iterator.{YieldsList-from_slice}
use Rattle.std.proofs.lemmas.Iterator.Search.{any_from_yields_List}
use Rattle.attestations.specs.declared.term.Term.{Term}
use Rattle.vap_table.proofs.ComparingLemmas.{none_ends}
use Rattle.vap_table.proofs.comparing.has_end.Goals as goal

pub returns : goal.returns
returns c none = none_ends c.args.terms.now (sym
    (any_from_yields_List (λ (t : Term). is_some t.until) _ _ _ c.any.ensures.ran (YieldsList-from_slice c.args.terms.now c.iter.ensures.rest) (λ x b q k. search (rules, tests)))
    ∙ none)
