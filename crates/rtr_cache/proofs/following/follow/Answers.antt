use Rattle.std.proofs.Common.{◌≡◌, ℕ, nat_eq, cond, List, Option, sym, ap, subst, ◌∙◌}
use Rattle.std.specs.Option.{option_copied}
use Rattle.std.specs.FinMap as map
use Rattle.attestations.specs.ComputedTable.{table_of}
use Rattle.path_model.specs.Rows.{PatchMap}
use Rattle.path_model.specs.declared.patch.PatchEntries.{PatchEntries}
use Rattle.path_model.specs.Entries.{patches_left}
use Rattle.path_model.proofs.MapLemmas.{get_rows}
use Rattle.rtr_cache.specs.Kept.{table_row}
use Rattle.rtr_cache.proofs.FollowingLemmas.{row_looked, table_set}
use Rattle.rtr_cache.proofs.VisitLemmas.{Visiting, visiting_end, visiting_next, visiting_start}
use Rattle.rtr_cache.proofs.following.follow.Goals as goal

pub loop-customer-init : goal.loop-customer-init
loop-customer-init c =
    subst (λ (it : PatchEntries). Visiting (λ q. map.get c.args.back.now q) (table_row (table_of c.args.table.now)) (λ q. map.get c.args.rows.now q) (patches_left it) (λ q. map.get c.args.rows.now q)) (sym c.into_iter-customer-iterator.ensures.into_iter_gives)
    (visiting_start (λ q. map.get c.args.back.now q) (table_row (table_of c.args.table.now)) (λ q. map.get c.args.rows.now q) (patches_left c.entries-customer-items.result) c.entries-customer-items.ensures.rising
    (λ q. ap (λ (m : PatchMap). map.get m q) (sym c.entries-customer-items.ensures.whole) ∙ get_rows (patches_left c.entries-customer-items.result) q))

pub give-requires : goal.give-requires
give-requires c = table_set c.args.table.now _ (option_copied c.row.result) c.row.ensures

pub loop-customer-preserved : goal.loop-customer-preserved
loop-customer-preserved c =
    visiting_next (λ q. map.get c.args.back.now q) (table_row (table_of c.args.table.now)) (λ q. map.get c.args.rows.now q) c.in-Some.customer c.in-Some.field-0-1.now (patches_left c.next.new.self) (λ q. map.get c.loop-customer.rows q) (λ q. map.get c.give.new.rows q)
    (subst (λ (left : List (ℕ × Option (List ℕ))). Visiting (λ q. map.get c.args.back.now q) (table_row (table_of c.args.table.now)) (λ q. map.get c.args.rows.now q) left (λ q. map.get c.loop-customer.rows q)) c.in-Some.ensures.steps c.loop-customer.invariant)
    (subst (λ (o : Option (List ℕ)). (p : ℕ) → map.get c.give.new.rows p ≡ cond (nat_eq c.in-Some.customer p) o (map.get c.loop-customer.rows p))
    (row_looked c.args.table.now c.in-Some.customer (option_copied c.row.result) c.row.ensures) c.in_ok-give.ensures)

pub returns : goal.returns
returns c =
    visiting_end (λ q. map.get c.args.back.now q) (table_row (table_of c.args.table.now)) (λ q. map.get c.args.rows.now q) (λ q. map.get c.loop-customer.rows q)
    (subst (λ (left : List (ℕ × Option (List ℕ))). Visiting (λ q. map.get c.args.back.now q) (table_row (table_of c.args.table.now)) (λ q. map.get c.args.rows.now q) left (λ q. map.get c.loop-customer.rows q)) c.in-None.ensures.steps.0 c.loop-customer.invariant)
