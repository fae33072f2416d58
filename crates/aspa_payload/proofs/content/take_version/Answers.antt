use Rattle.aspa_payload.proofs.ReadingLemmas.{some_if}
use Rattle.std.proofs.lemmas.Grind.{common_steps}
use Rattle.std.proofs.Common.{refl, arith, rules}
use Rattle.std.proofs.lemmas.Result.{err_from_is_err_and}
use Rattle.aspa_payload.proofs.ContentLemmas.{no_explicit, no_inner, no_number, not_alone}
use Rattle.aspa_payload.proofs.content.take_version.Goals as goal

pub returns-in_err-inner : goal.returns-in_err-inner
returns-in_err-inner c =
    let p = err_from_is_err_and c.from_residual.result c.from_residual.ensures.1 in
    rw (p.1, p.2) (refl, no_explicit c.args.content.now (search rules) (no_inner c.args.content.now c.in_err-inner.ensures.none))

pub returns-in_err-version : goal.returns-in_err-version
returns-in_err-version c =
    let p = err_from_is_err_and c.from_residual-in_err-version.result c.from_residual-in_err-version.ensures.1 in
    rw (p.1, p.2) (refl, no_explicit c.args.content.now (search rules) (no_number c.args.content.now c.in_ok-inner.inner.now c.in_ok-inner.rest.now c.in_ok-inner.ensures.spelled c.in_err-version.ensures.none))

pub returns-then-not-is_empty : goal.returns-then-not-is_empty
returns-then-not-is_empty c =
    (refl, no_explicit c.args.content.now (grind (arith, common_steps)) (not_alone c.args.content.now c.in_ok-inner.inner.now c.in_ok-inner.rest.now c.in_ok-version.after.now c.in_ok-version.version c.in_ok-inner.ensures.spelled c.in_ok-version.ensures.integer (some_if _ c.is_empty.result c.is_empty.ensures c.if-not-is_empty.true)))
