use Rattle.std.proofs.Common.{ℕ, List, Option, None, sym, ap, subst, ◌∙◌}
use Rattle.std.specs.Ordering.{nat_cmp}
use Rattle.std.specs.FinMap as map
use Rattle.path_model.specs.Rows.{RowMap}
use Rattle.path_model.proofs.MapLemmas.{get_rows}
use Rattle.attestations.specs.ComputedTable.{table_of}
use Rattle.attestations.proofs.PartsLemmas.{one_row, table_is_current}
use Rattle.vap_table.specs.declared.entries.Entries.{Entries}
use Rattle.vap_table.specs.Entries.{entries_left, rows_of}
use Rattle.rtr_cache.specs.Kept.{row_taken}
use Rattle.rtr_cache.proofs.FollowingLemmas.{all_taken, taken_set}
use Rattle.rtr_cache.proofs.VisitLemmas.{Visiting, visiting_end, visiting_item, visiting_next, visiting_start}
use Rattle.rtr_cache.proofs.following.rows_of.Goals as goal

pub loop-customer-init : goal.loop-customer-init
loop-customer-init c =
    subst (λ (now : ℕ → Option (List ℕ)). Visiting (table_of c.args.table.now) row_taken (λ q. None) (entries_left c.into_iter-customer-iterator.result) now)
    (λ i q. sym (ap (λ (m : RowMap). map.get m q) c.new-rows.ensures ∙ map.get-empty nat_cmp q) i)
    (subst (λ (it : Entries). Visiting (table_of c.args.table.now) row_taken (λ q. None) (entries_left it) (λ q. None)) (sym c.into_iter-customer-iterator.ensures.into_iter_gives)
    (visiting_start (table_of c.args.table.now) row_taken (λ q. None) (entries_left c.entries-customer-items.result) c.entries-customer-items.ensures.rising
    (λ q. one_row c.args.table.now q (table_of c.args.table.now q) (map.get (rows_of (entries_left c.entries-customer-items.result)) q) (table_is_current c.args.table.now q) (c.entries-customer-items.ensures.current q) ∙ get_rows (entries_left c.entries-customer-items.result) q)))

pub give-requires : goal.give-requires
give-requires c = taken_set c.args.table.now c.in-Some.customer c.in-Some.row.now
    (visiting_item (table_of c.args.table.now) row_taken (λ q. None) c.in-Some.customer c.in-Some.row.now (entries_left c.next.new.self) (λ q. map.get c.loop-customer.rows q)
    (subst (λ (left : List (ℕ × List ℕ)). Visiting (table_of c.args.table.now) row_taken (λ q. None) left (λ q. map.get c.loop-customer.rows q)) c.in-Some.ensures.steps c.loop-customer.invariant))

pub loop-customer-preserved : goal.loop-customer-preserved
loop-customer-preserved c =
    visiting_next (table_of c.args.table.now) row_taken (λ q. None) c.in-Some.customer c.in-Some.row.now (entries_left c.next.new.self) (λ q. map.get c.loop-customer.rows q) (λ q. map.get c.give.new.rows q)
    (subst (λ (left : List (ℕ × List ℕ)). Visiting (table_of c.args.table.now) row_taken (λ q. None) left (λ q. map.get c.loop-customer.rows q)) c.in-Some.ensures.steps c.loop-customer.invariant)
    c.in_ok-give.ensures

pub returns : goal.returns
returns c = all_taken (table_of c.args.table.now) c.loop-customer.rows
    (visiting_end (table_of c.args.table.now) row_taken (λ q. None) (λ q. map.get c.loop-customer.rows q)
    (subst (λ (left : List (ℕ × List ℕ)). Visiting (table_of c.args.table.now) row_taken (λ q. None) left (λ q. map.get c.loop-customer.rows q)) c.in-None.ensures.steps.0 c.loop-customer.invariant))
