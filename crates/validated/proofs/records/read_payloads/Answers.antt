use Rattle.std.proofs.Common.{List, map, subst}
use Rattle.std.proofs.lemmas.Result.{err_from_is_err_and}
use Rattle.json_fields.specs.Tokens.{items_view}
use Rattle.slurm_rules.specs.Form.{prefix_assertion_view, prefix_assertions_view}
use Rattle.slurm_rules.specs.Numbers.{ArePrefixAssertions}
use Rattle.slurm_rules.specs.declared.draft.DraftPrefixAssertion.{DraftPrefixAssertion}
use Rattle.validated.specs.Answers.{Finds}
use Rattle.validated.specs.Form.{roa_view}
use Rattle.validated.specs.declared.fault.ValidatedFault.TheVariants.{Prefix}
use Rattle.validated.proofs.AnswerLemmas.{no_assertions, payloads_are}
use Rattle.validated.proofs.records.read_payloads.Goals as goal

pub returns-in_err-assertions : goal.returns-in_err-assertions
returns-in_err-assertions c =
    let p = err_from_is_err_and c.from_residual.result c.from_residual.ensures.1 in
    rw (p.1, p.2) (no_assertions ((items_view roa_view) c.args.roas) _ c.in_err-assertions.ensures)

pub returns : goal.returns
returns c = payloads_are ((items_view roa_view) c.args.roas) (prefix_assertions_view c.in_ok-assertions.assertions) c.in_ok-assertions.ensures c.read_prefixes.result
    (subst (λ (xs : List DraftPrefixAssertion). Finds Prefix c.read_prefixes.result (ArePrefixAssertions (map prefix_assertion_view xs))) c.deref.ensures.value c.read_prefixes.ensures)
