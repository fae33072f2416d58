use Rattle.aspa_payload.proofs.ReadingLemmas.{some_if}
use Rattle.std.proofs.Common.{refl, Option, ℕ, List}
use Rattle.std.proofs.lemmas.Result.{err_from_is_err_and}
use Rattle.aspa_payload.specs.Content.{TakesVersion, AreIntegers, IsContent}
use Rattle.aspa_payload.specs.declared.fault.PayloadFault.TheVariants.{NotDer}
use Rattle.aspa_payload.proofs.ContentLemmas.{misses_by, no_customer, no_list, no_end, no_providers}
use Rattle.aspa_payload.proofs.content.read_parts.Goals as goal

pub returns-in_err-version : goal.returns-in_err-version
returns-in_err-version c =
    let p = err_from_is_err_and c.from_residual.result c.from_residual.ensures.1 in
    rw (p.1, p.2) (misses_by NotDer (λ (y : Option ℕ × List ℕ). TakesVersion c.args.content.now y.0 y.1) (IsContent c.args.content.now) _ (λ none parts s. none (parts.version, s.after_version) s.version) c.in_err-version.ensures)

pub returns-in_err-customer : goal.returns-in_err-customer
returns-in_err-customer c =
    let p = err_from_is_err_and c.from_residual-in_err-customer.result c.from_residual-in_err-customer.ensures.1 in
    rw (p.1, p.2) (refl, no_customer c.args.content.now c.in_ok-version.rest.now c.in_ok-version.version c.in_ok-version.ensures c.in_err-customer.ensures.none)

pub returns-in_err-list : goal.returns-in_err-list
returns-in_err-list c =
    let p = err_from_is_err_and c.from_residual-in_err-list.result c.from_residual-in_err-list.ensures.1 in
    rw (p.1, p.2) (refl, no_list c.args.content.now c.in_ok-version.rest.now c.in_ok-version.version c.in_ok-version.ensures c.in_ok-customer.rest.now c.in_ok-customer.customer c.in_ok-customer.ensures.integer c.in_err-list.ensures.none)

pub returns-then-not-is_empty : goal.returns-then-not-is_empty
returns-then-not-is_empty c = (
  refl,
  no_end c.args.content.now c.in_ok-version.rest.now c.in_ok-version.version c.in_ok-version.ensures c.in_ok-customer.rest.now c.in_ok-customer.customer c.in_ok-customer.ensures.integer
      c.in_ok-list.list.now c.in_ok-list.rest.now c.in_ok-list.ensures.spelled (some_if _ c.is_empty.result c.is_empty.ensures c.if-not-is_empty.true),
)

pub returns-in_err-providers : goal.returns-in_err-providers
returns-in_err-providers c =
    let p = err_from_is_err_and c.from_residual-in_err-providers.result c.from_residual-in_err-providers.ensures.1 in
    rw (p.1, p.2) (misses_by NotDer (AreIntegers c.in_ok-list.list.now) (IsContent c.args.content.now) _
    (no_providers c.args.content.now c.in_ok-version.rest.now c.in_ok-version.version c.in_ok-version.ensures c.in_ok-customer.rest.now c.in_ok-customer.customer c.in_ok-customer.ensures.integer
    c.in_ok-list.list.now c.in_ok-list.rest.now c.in_ok-list.ensures.spelled) c.in_err-providers.ensures)
