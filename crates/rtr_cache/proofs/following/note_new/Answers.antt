use Rattle.std.proofs.Common.{◌≡◌, ℕ, nat_eq, cond, is_some, None, List, Option, Some, sym, subst, ◌∙◌}
use Rattle.std.specs.FinMap as map
use Rattle.attestations.specs.ComputedTable.{table_of}
use Rattle.path_model.proofs.MapLemmas.{get_rows}
use Rattle.attestations.proofs.PartsLemmas.{one_row, table_is_current}
use Rattle.vap_table.specs.declared.entries.Entries.{Entries}
use Rattle.vap_table.specs.Entries.{entries_left, rows_of}
use Rattle.rtr_cache.specs.Kept.{new_noted}
use Rattle.rtr_cache.proofs.VisitLemmas.{Visiting, visiting_end, visiting_next, visiting_start}
use Rattle.rtr_cache.proofs.following.note_new.Goals as goal

pub loop-customer-init : goal.loop-customer-init
loop-customer-init c =
    subst (λ (it : Entries). Visiting (table_of c.args.table.now) (new_noted c.args.rows.now) (λ q. map.get c.args.back.now q) (entries_left it) (λ q. map.get c.args.back.now q)) (sym c.into_iter-customer-iterator.ensures.into_iter_gives)
    (visiting_start (table_of c.args.table.now) (new_noted c.args.rows.now) (λ q. map.get c.args.back.now q) (entries_left c.entries-customer-items.result) c.entries-customer-items.ensures.rising
    (λ q. one_row c.args.table.now q (table_of c.args.table.now q) (map.get (rows_of (entries_left c.entries-customer-items.result)) q) (table_is_current c.args.table.now q) (c.entries-customer-items.ensures.current q) ∙ get_rows (entries_left c.entries-customer-items.result) q))

pub loop-customer-preserved : goal.loop-customer-preserved
loop-customer-preserved c =
    visiting_next (table_of c.args.table.now) (new_noted c.args.rows.now) (λ q. map.get c.args.back.now q) c.in-Some.customer c.in-Some.field-0-1.now (entries_left c.next.new.self) (λ q. map.get c.loop-customer.back q) (λ q. map.get c.note_if_none.new.back q)
    (subst (λ (left : List (ℕ × List ℕ)). Visiting (table_of c.args.table.now) (new_noted c.args.rows.now) (λ q. map.get c.args.back.now q) left (λ q. map.get c.loop-customer.back q)) c.in-Some.ensures.steps c.loop-customer.invariant)
    (subst (λ (o : Option (List ℕ)). (p : ℕ) → map.get c.note_if_none.new.back p ≡ cond (nat_eq c.in-Some.customer p) (cond (is_some o) (map.get c.loop-customer.back c.in-Some.customer) (Some None)) (map.get c.loop-customer.back p))
    c.row.ensures.row c.in_ok-note_if_none.ensures)

pub returns : goal.returns
returns c =
    visiting_end (table_of c.args.table.now) (new_noted c.args.rows.now) (λ q. map.get c.args.back.now q) (λ q. map.get c.loop-customer.back q)
    (subst (λ (left : List (ℕ × List ℕ)). Visiting (table_of c.args.table.now) (new_noted c.args.rows.now) (λ q. map.get c.args.back.now q) left (λ q. map.get c.loop-customer.back q)) c.in-None.ensures.steps.0 c.loop-customer.invariant)
