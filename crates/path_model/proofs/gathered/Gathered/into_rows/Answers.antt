use Rattle.std.proofs.Common.{ℕ, List, ap, sym, ◌∙◌, subst}
use Rattle.std.specs.FinMap as map
use Rattle.std.specs.Ordering.{nat_cmp}
use Rattle.std.specs.List.Sorted.{IsStrictlySortedBy}
use Rattle.std.specs.Map.{keys_of}
use Rattle.path_model.proofs.RowLemmas.{Normal, normal_start, normal_next, normal_end}
use Rattle.path_model.proofs.gathered.Gathered.into_rows.Goals as goal

pub loop-customer-init : goal.loop-customer-init
loop-customer-init c =
    let gives = c.into_iter-customer-iterator.ensures.into_iter_gives in
    normal_start _ c.new-rows.result (subst (λ (es : List (ℕ × List ℕ)). IsStrictlySortedBy nat_cmp (keys_of es)) (sym gives.0) gives.5) c.new-rows.ensures

pub loop-customer-preserved : goal.loop-customer-preserved
loop-customer-preserved c =
    normal_next c.into_iter-customer-iterator.result c.next.new.self c.loop-customer.rows c.set.new.self c.in-Some.customer c.in-Some.list
    (subst (λ (es : List (ℕ × List ℕ)). Normal c.into_iter-customer-iterator.result es c.loop-customer.rows) c.in-Some.ensures.steps c.loop-customer.invariant)
    c.in_ok-set.ensures.ok

pub returns : goal.returns
returns c =
    normal_end c.into_iter-customer-iterator.result c.args.self c.loop-customer.rows
    (ap (λ (es : List (ℕ × List ℕ)). map.from_entries es) c.into_iter-customer-iterator.ensures.into_iter_gives.0 ∙ c.self.view_is)
    (subst (λ (es : List (ℕ × List ℕ)). Normal c.into_iter-customer-iterator.result es c.loop-customer.rows) c.in-None.ensures.steps.0 c.loop-customer.invariant)
