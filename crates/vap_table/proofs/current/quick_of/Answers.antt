use Rattle.std.proofs.Common.{◌≡◌, ℕ, List, ◌∷◌, cond, nat_cmp, ap, sym, subst, ◌∙◌}
use Rattle.std.specs.declared.option.Option.{Option}
use Rattle.std.specs.BTreeMap.{is_at}
use Rattle.std.specs.Map.Iter.{deref}
use Rattle.std.proofs.lemmas.Map.Iter.{rest_more}
use Rattle.vap_table.specs.Current.{kept_row}
use Rattle.vap_table.specs.Quick.{quick_row}
use Rattle.vap_table.proofs.CurrentLemmas.{Copying, copying_put, row_here}
use Rattle.vap_table.proofs.current.quick_of.Goals as goal

pub loop-customer-preserved : goal.loop-customer-preserved
loop-customer-preserved c =
    let x : ℕ = c.in-Some.customer.now in
    let e : c.loop-customer.customer-iterator ≡ x ∷ c.next.new.self = rest_more deref c.loop-customer.customer-iterator c.next.new.self c.next.result c.in-Some.customer c.in-Some.is c.next.ensures.steps in
    let table = kept_row c.args.current.now c.args.parts.now.moment c.args.parts.now.sources in
    let rows = quick_row c.loop-customer.quick in
    let so_far : Copying table c.args.current.now.customers (x ∷ c.next.new.self) rows = subst (λ (rest : List ℕ). Copying table c.args.current.now.customers rest rows) e c.loop-customer.invariant in
    copying_put table c.args.current.now.customers c.next.new.self x rows (quick_row c.set.new.self) so_far
    (λ q. c.in_ok-set.ensures q ∙ ap (λ (o : Option (List ℕ)). cond (is_at (nat_cmp x) q) o (rows q)) (c.row.ensures ∙ sym (row_here table c.args.current.now.customers c.next.new.self x rows so_far)))
