use Rattle.std.proofs.Common.{ℕ, List, Option, sym, ap, subst, ◌∙◌}
use Rattle.std.specs.FinMap as map
use Rattle.path_model.specs.Rows.{PatchMap}
use Rattle.path_model.specs.declared.patch.PatchEntries.{PatchEntries}
use Rattle.path_model.specs.Entries.{patches_left}
use Rattle.path_model.proofs.MapLemmas.{get_rows}
use Rattle.rtr_cache.specs.Kept.{given_now}
use Rattle.rtr_cache.proofs.VisitLemmas.{Visiting, visiting_end, visiting_item, visiting_next, visiting_start}
use Rattle.rtr_cache.proofs.TellingLemmas.{given_set}
use Rattle.rtr_cache.proofs.telling.override_with.Goals as goal

pub loop-customer-init : goal.loop-customer-init
loop-customer-init c =
    subst (λ (it : PatchEntries). Visiting (λ q. map.get c.args.patch.now q) given_now (λ q. map.get c.args.whole.now q) (patches_left it) (λ q. map.get c.args.whole.now q)) (sym c.into_iter-customer-iterator.ensures.into_iter_gives)
    (visiting_start (λ q. map.get c.args.patch.now q) given_now (λ q. map.get c.args.whole.now q) (patches_left c.entries-customer-items.result) c.entries-customer-items.ensures.rising
    (λ q. ap (λ (m : PatchMap). map.get m q) (sym c.entries-customer-items.ensures.whole) ∙ get_rows (patches_left c.entries-customer-items.result) q))

pub put_given-requires : goal.put_given-requires
put_given-requires c = given_set c.args.patch.now c.in-Some.customer c.in-Some.row.now c.entries-customer-items.ensures.sets
    (visiting_item (λ q. map.get c.args.patch.now q) given_now (λ q. map.get c.args.whole.now q) c.in-Some.customer c.in-Some.row.now (patches_left c.next.new.self) (λ q. map.get c.loop-customer.whole q)
    (subst (λ (left : List (ℕ × Option (List ℕ))). Visiting (λ q. map.get c.args.patch.now q) given_now (λ q. map.get c.args.whole.now q) left (λ q. map.get c.loop-customer.whole q)) c.in-Some.ensures.steps c.loop-customer.invariant))

pub loop-customer-preserved : goal.loop-customer-preserved
loop-customer-preserved c =
    visiting_next (λ q. map.get c.args.patch.now q) given_now (λ q. map.get c.args.whole.now q) c.in-Some.customer c.in-Some.row.now (patches_left c.next.new.self) (λ q. map.get c.loop-customer.whole q) (λ q. map.get c.put_given.new.whole q)
    (subst (λ (left : List (ℕ × Option (List ℕ))). Visiting (λ q. map.get c.args.patch.now q) given_now (λ q. map.get c.args.whole.now q) left (λ q. map.get c.loop-customer.whole q)) c.in-Some.ensures.steps c.loop-customer.invariant)
    c.in_ok-put_given.ensures

pub returns : goal.returns
returns c =
    visiting_end (λ q. map.get c.args.patch.now q) given_now (λ q. map.get c.args.whole.now q) (λ q. map.get c.loop-customer.whole q)
    (subst (λ (left : List (ℕ × Option (List ℕ))). Visiting (λ q. map.get c.args.patch.now q) given_now (λ q. map.get c.args.whole.now q) left (λ q. map.get c.loop-customer.whole q)) c.in-None.ensures.steps.0 c.loop-customer.invariant)
