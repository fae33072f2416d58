use Rattle.std.proofs.Common.{sym, subst, ◌∙◌, true≢false}
use Rattle.std.specs.Prelude.{IfSome}
use Rattle.std.specs.BTreeMap.Range.{IsEntryInRange, IsLeBy}
use Rattle.std.specs.List.{slice_get}
use Rattle.std.specs.declared.ops.Bound.TheVariants.{Included, Unbounded}
use Rattle.origin_validation.specs.Held.{Entries, HasNoneUnder, pair_cmp}
use Rattle.origin_validation.proofs.UnderLemmas.{if_none, none_from, none_from_first}
use Rattle.origin_validation.proofs.held.first_under.Goals as goal

pub returns-in_err-pair-clause-none : goal.returns-in_err-pair-clause-none
returns-in_err-pair-clause-none c =
    let range = c.range.ensures.in_range tt in
    if_none c.from_residual.result (HasNoneUnder c.args.held.now.entries c.args.prefix.now)
    (none_from c.args.prefix.now c.args.held.now.entries (range.5 c.in_err-pair.ensures.steps.0))

pub returns-then-not-covers-clause-none : goal.returns-then-not-covers-clause-none
returns-then-not-covers-clause-none c =
    let range = c.range.ensures.in_range tt in
    let steps = c.in_ok-pair.ensures.steps in
    let entry = subst (λ (r : Entries). IfSome (slice_get r 0) (IsEntryInRange pair_cmp (Included (c.args.prefix.now, 0)) Unbounded c.args.held.now)) steps range.1 in
    none_from_first c.args.prefix.now c.args.held.now.entries c.in_ok-pair.pair.now c.len-len.ensures.is_subnet
    (λ covers. true≢false (sym (c.covers.ensures.1 covers) ∙ c.if-not-covers.true)) entry.0.0
    (λ q from there. subst (λ (r : Entries). IfSome (slice_get r 0) (λ e. IsLeBy pair_cmp e.0 q)) steps (range.2 q from there))
