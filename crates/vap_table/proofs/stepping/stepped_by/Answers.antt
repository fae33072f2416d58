use Rattle.std.proofs.Common.{◌≡◌, ◌-◌, ℕ, List, length, sym, ap, subst, ◌++◌, ◌∙◌, unwrap_or, arith}
use Rattle.std.proofs.lemmas.List.{nil_from_length}
use Rattle.vap_table.specs.declared.tally.Given.{Given}
use Rattle.vap_table.specs.Stepping.{listed, stepped, times, uncounted, AreStepped}
use Rattle.vap_table.proofs.SteppingLemmas.{IsFirst, Stepping, first_behind, stepping_start, stepping_at, stepping_end}
use Rattle.vap_table.proofs.stepping.stepped_by.Goals as goal

pub loop-number-init : goal.loop-number-init
loop-number-init c = stepping_start c.args.step c.args.given.now c.args.list.now c.in_ok-done.done.items c.in_ok-done.ensures.items c.requires.counted c.requires.held c.requires.rising

pub parted_at-one-requires : goal.parted_at-one-requires
parted_at-one-requires c = c.loop-number.invariant.counts_rise

pub loop-number-preserved : goal.loop-number-preserved
loop-number-preserved c =
    let n : ℕ = c.in-Some.number.now in
    let numbers : List ℕ = c.loop-number.numbers.now in
    let left : List ℕ = c.behind-left.result.now in
    let often : ℕ = length numbers - length left in
    let parted = c.parted_at-one.result in
    let done : List Given = c.loop-number.done.items in
    let first : IsFirst numbers n often left = first_behind numbers n c.in-Some.more.now left c.in-Some.ensures.cases.0 c.behind-left.ensures.behind c.loop-number.invariant.numbers_rise in
    let taken : c.in_ok-taken.field-0 ≡ stepped c.args.step often (unwrap_or parted.one (uncounted n))
    = c.in_ok-taken.ensures ∙ ap (stepped c.args.step often) (c.unwrap_or.ensures ∙ ap (unwrap_or parted.one) c.uncounted.ensures) in
    subst (λ (items : List Given). Stepping c.args.step c.args.given.now c.args.list.now items parted.above.now left)
    (sym (c.in_ok-push_counted.ensures ∙ ap (λ (items : List Given). items ++ listed c.in_ok-taken.field-0) c.in_ok-extend_from_slice.ensures.items
    ∙ ap (λ (one : Given). (done ++ parted.below.now) ++ listed one) taken))
    (stepping_at c.args.step c.args.given.now c.args.list.now done c.loop-number.counts.now numbers n often left parted.below.now parted.one parted.above.now
    first c.parted_at-one.ensures c.loop-number.invariant)

pub loop-number-smaller : goal.loop-number-smaller
loop-number-smaller c = omega (arith, c.in-Some.ensures.cases.1, c.behind-left.ensures.fewer)

pub returns : goal.returns
returns c =
    subst (λ (items : List Given). AreStepped c.args.step c.args.given.now (times c.args.list.now) items) (sym c.in_ok-extend_from_slice-2.ensures.items)
    (stepping_end c.args.step c.args.given.now c.args.list.now c.loop-number.done.items c.loop-number.counts.now c.loop-number.numbers.now
    (nil_from_length c.loop-number.numbers.now c.in_default.ensures.cases) c.loop-number.invariant)
