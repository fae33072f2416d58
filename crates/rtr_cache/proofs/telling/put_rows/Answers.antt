use Rattle.std.proofs.Common.{ℕ, List, sym, ap, subst, ◌∙◌}
use Rattle.std.specs.FinMap as map
use Rattle.path_model.specs.Rows.{RowMap}
use Rattle.path_model.specs.declared.rows.RowEntries.{RowEntries}
use Rattle.path_model.specs.Entries.{rows_left}
use Rattle.path_model.proofs.MapLemmas.{get_rows}
use Rattle.rtr_cache.proofs.TellingLemmas.{TellingRows, row_writable, telling_end, telling_item, telling_next, telling_start}
use Rattle.rtr_cache.proofs.telling.put_rows.Goals as goal

pub loop-customer-init : goal.loop-customer-init
loop-customer-init c =
    subst (λ (it : RowEntries). TellingRows c.args.rows.now (rows_left it) c.args.out.now.items c.args.out.now.items) (sym c.into_iter-customer-iterator.ensures.into_iter_gives)
    (telling_start c.args.rows.now (rows_left c.entries-customer-items.result) c.args.out.now.items c.entries-customer-items.ensures.rising
    (λ q. ap (λ (m : RowMap). map.get m q) (sym c.entries-customer-items.ensures.whole) ∙ get_rows (rows_left c.entries-customer-items.result) q))

pub put_told-requires : goal.put_told-requires
put_told-requires c = row_writable c.in-Some.customer c.in-Some.row.now (c.requires c.in-Some.customer c.in-Some.row.now
    (telling_item c.args.rows.now c.in-Some.customer c.in-Some.row.now (rows_left c.next.new.self) c.args.out.now.items c.loop-customer.out.items
    (subst (λ (left : List (ℕ × List ℕ)). TellingRows c.args.rows.now left c.args.out.now.items c.loop-customer.out.items) c.in-Some.ensures.steps c.loop-customer.invariant)))

pub loop-customer-preserved : goal.loop-customer-preserved
loop-customer-preserved c = telling_next c.args.rows.now c.in-Some.customer c.in-Some.row.now (rows_left c.next.new.self) c.args.out.now.items c.loop-customer.out.items c.put_told.new.out.items
    (subst (λ (left : List (ℕ × List ℕ)). TellingRows c.args.rows.now left c.args.out.now.items c.loop-customer.out.items) c.in-Some.ensures.steps c.loop-customer.invariant)
    c.in_ok-put_told.ensures

pub returns : goal.returns
returns c = telling_end c.args.rows.now c.args.out.now.items c.loop-customer.out.items
    (subst (λ (left : List (ℕ × List ℕ)). TellingRows c.args.rows.now left c.args.out.now.items c.loop-customer.out.items) c.in-None.ensures.steps.0 c.loop-customer.invariant)
