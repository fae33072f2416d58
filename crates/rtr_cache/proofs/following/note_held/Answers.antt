use Rattle.std.proofs.Common.{◌≡◌, ℕ, nat_eq, cond, List, Option, Some, sym, ap, subst, ◌∙◌}
use Rattle.std.specs.Option.{option_copied}
use Rattle.std.specs.FinMap as map
use Rattle.attestations.specs.ComputedTable.{table_of}
use Rattle.path_model.specs.Rows.{RowMap}
use Rattle.path_model.specs.declared.rows.RowEntries.{RowEntries}
use Rattle.path_model.specs.Entries.{rows_left}
use Rattle.path_model.proofs.MapLemmas.{get_rows}
use Rattle.rtr_cache.specs.Kept.{held_noted}
use Rattle.attestations.specs.Moves.{same_rows}
use Rattle.rtr_cache.proofs.FollowingLemmas.{row_looked}
use Rattle.rtr_cache.proofs.VisitLemmas.{Visiting, visiting_end, visiting_item, visiting_next, visiting_start}
use Rattle.rtr_cache.proofs.following.note_held.Goals as goal

pub loop-customer-init : goal.loop-customer-init
loop-customer-init c =
    subst (λ (it : RowEntries). Visiting (λ q. map.get c.args.rows.now q) (held_noted (table_of c.args.table.now)) (λ q. map.get c.args.back.now q) (rows_left it) (λ q. map.get c.args.back.now q)) (sym c.into_iter-customer-iterator.ensures.into_iter_gives)
    (visiting_start (λ q. map.get c.args.rows.now q) (held_noted (table_of c.args.table.now)) (λ q. map.get c.args.back.now q) (rows_left c.entries-customer-items.result) c.entries-customer-items.ensures.rising
    (λ q. ap (λ (m : RowMap). map.get m q) (sym c.entries-customer-items.ensures.whole) ∙ get_rows (rows_left c.entries-customer-items.result) q))

pub note_if_differs-requires : goal.note_if_differs-requires
note_if_differs-requires c = c.entries-customer-items.ensures.sets.ascending c.in-Some.customer c.in-Some.row.now
    (visiting_item (λ q. map.get c.args.rows.now q) (held_noted (table_of c.args.table.now)) (λ q. map.get c.args.back.now q) c.in-Some.customer c.in-Some.row.now (rows_left c.next.new.self) (λ q. map.get c.loop-customer.back q)
    (subst (λ (left : List (ℕ × List ℕ)). Visiting (λ q. map.get c.args.rows.now q) (held_noted (table_of c.args.table.now)) (λ q. map.get c.args.back.now q) left (λ q. map.get c.loop-customer.back q)) c.in-Some.ensures.steps c.loop-customer.invariant))

pub loop-customer-preserved : goal.loop-customer-preserved
loop-customer-preserved c =
    visiting_next (λ q. map.get c.args.rows.now q) (held_noted (table_of c.args.table.now)) (λ q. map.get c.args.back.now q) c.in-Some.customer c.in-Some.row.now (rows_left c.next.new.self) (λ q. map.get c.loop-customer.back q) (λ q. map.get c.note_if_differs.new.back q)
    (subst (λ (left : List (ℕ × List ℕ)). Visiting (λ q. map.get c.args.rows.now q) (held_noted (table_of c.args.table.now)) (λ q. map.get c.args.back.now q) left (λ q. map.get c.loop-customer.back q)) c.in-Some.ensures.steps c.loop-customer.invariant)
    (subst (λ (o : Option (List ℕ)). (p : ℕ) → map.get c.note_if_differs.new.back p ≡ cond (nat_eq c.in-Some.customer p) (cond (same_rows (Some c.in-Some.row.now) o) (map.get c.loop-customer.back c.in-Some.customer) (Some (Some c.in-Some.row.now))) (map.get c.loop-customer.back p))
    (row_looked c.args.table.now c.in-Some.customer (option_copied c.row.result) c.row.ensures) c.in_ok-note_if_differs.ensures)

pub returns : goal.returns
returns c =
    visiting_end (λ q. map.get c.args.rows.now q) (held_noted (table_of c.args.table.now)) (λ q. map.get c.args.back.now q) (λ q. map.get c.loop-customer.back q)
    (subst (λ (left : List (ℕ × List ℕ)). Visiting (λ q. map.get c.args.rows.now q) (held_noted (table_of c.args.table.now)) (λ q. map.get c.args.back.now q) left (λ q. map.get c.loop-customer.back q)) c.in-None.ensures.steps.0 c.loop-customer.invariant)
