use Rattle.std.proofs.Common.{◌≡◌, Bool, true, List, map, subst, arith}
use Rattle.std.proofs.lemmas.Result.{err_from_is_err_and}
use Rattle.serde_json.specs.View.{number_view}
use Rattle.serde_json.specs.declared.number.Number.{Number}
use Rattle.slurm_rules.specs.Answers.{Misses}
use Rattle.json_fields.specs.Each.{Each}
use Rattle.slurm_rules.specs.Form.{assertion_view, draft_view, prefix_assertion_view, prefix_filter_view}
use Rattle.slurm_rules.specs.Numbers.{AreAssertions, ArePrefixAssertions, HasAsns, HasAssertedAsn, HasFilteredAsn, IsAsn, IsOfAny}
use Rattle.slurm_rules.specs.declared.draft.DraftAssertion.{DraftAssertion}
use Rattle.slurm_rules.specs.declared.draft.DraftPrefixAssertion.{DraftPrefixAssertion}
use Rattle.slurm_rules.specs.declared.draft.DraftPrefixFilter.{DraftPrefixFilter}
use Rattle.slurm_rules.specs.declared.fault.SlurmFault.TheVariants.{Number as NoAsn, PrefixText}
use Rattle.slurm_rules.proofs.ContentLemmas.{no_assertions, no_attestations}
use Rattle.slurm_rules.proofs.numbers.read_content.Goals as goal

pub returns-in_err-assertions : goal.returns-in_err-assertions
returns-in_err-assertions c =
    let p = err_from_is_err_and c.from_residual-in_err-assertions.result c.from_residual-in_err-assertions.ensures.1 in
    rw (p.1, p.2) (no_attestations (draft_view c.args.draft.now) _
    (subst (λ (ds : List DraftAssertion). Misses NoAsn c.in_err-assertions.field-0.0 (AreAssertions (map assertion_view ds))) c.deref-2.ensures.value c.in_err-assertions.ensures))

pub returns-in_err-prefix_assertions : goal.returns-in_err-prefix_assertions
returns-in_err-prefix_assertions c =
    let p = err_from_is_err_and c.from_residual-in_err-prefix_assertions.result c.from_residual-in_err-prefix_assertions.ensures.1 in
    let filtered_fit : c.are_filtered_asns.result ≡ true = grind arith in
    let asserted_fit : c.are_asserted_asns.result ≡ true = grind arith in
    let filtered = subst (λ (b : Bool). IsOfAny b (Each HasFilteredAsn (map prefix_filter_view c.deref-3.result.now))) filtered_fit c.are_filtered_asns.ensures in
    let asserted = subst (λ (b : Bool). IsOfAny b (Each HasAssertedAsn (map prefix_assertion_view c.deref-4.result.now))) asserted_fit c.are_asserted_asns.ensures in
    let attested = subst (λ (ds : List DraftAssertion). AreAssertions (map assertion_view ds) c.in_ok-assertions.assertions) c.deref-2.ensures.value c.in_ok-assertions.ensures in
    let has : HasAsns (draft_view c.args.draft.now) = record {
      customers = c.in_ok-filters.filters;
      are_customers = subst (λ (ns : List Number). Each IsAsn (map number_view ns) c.in_ok-filters.filters) c.deref.ensures.value c.in_ok-filters.ensures;
      attestations = attested.attestations;
      are_attested = attested.each;
      filtered = filtered.0;
      are_filtered = subst (λ (fs : List DraftPrefixFilter). Each HasFilteredAsn (map prefix_filter_view fs) filtered.0) c.deref-3.ensures.value filtered.1;
      asserted = asserted.0;
      are_asserted = subst (λ (ps : List DraftPrefixAssertion). Each HasAssertedAsn (map prefix_assertion_view ps) asserted.0) c.deref-4.ensures.value asserted.1;
    } in
    rw (p.1, p.2) (no_assertions (draft_view c.args.draft.now) _ has
    (subst (λ (ps : List DraftPrefixAssertion). Misses PrefixText c.in_err-prefix_assertions.field-0.0 (ArePrefixAssertions (map prefix_assertion_view ps))) c.deref-6.ensures.value c.in_err-prefix_assertions.ensures))
