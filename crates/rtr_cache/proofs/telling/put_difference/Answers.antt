use Rattle.std.proofs.Common.{ℕ, List, [], ◌∷◌, Option, cond, sym, ap, subst, ◌∙◌}
use Rattle.std.specs.Option.{option_copied}
use Rattle.rtr_cache.specs.Kept.{Appended}
use Rattle.attestations.specs.Moves.{same_rows}
use Rattle.rtr_cache.specs.Served.{told}
use Rattle.std.specs.FinMap as map
use Rattle.path_model.specs.Rows.{PatchMap}
use Rattle.path_model.specs.declared.patch.PatchEntries.{PatchEntries}
use Rattle.path_model.specs.Entries.{patches_left}
use Rattle.path_model.proofs.MapLemmas.{get_rows}
use Rattle.rtr_cache.proofs.TellingLemmas.{TellingChanged, changing_end, changing_next, changing_start, looked_writable}
use Rattle.rtr_cache.proofs.telling.put_difference.Goals as goal

pub loop-customer-init : goal.loop-customer-init
loop-customer-init c =
    subst (λ (it : PatchEntries). TellingChanged c.args.rows.now c.args.back.now (patches_left it) c.args.out.now.items c.args.out.now.items) (sym c.into_iter-customer-iterator.ensures.into_iter_gives)
    (changing_start c.args.rows.now c.args.back.now (patches_left c.entries-customer-items.result) c.args.out.now.items c.entries-customer-items.ensures.rising
    (λ q. ap (λ (m : PatchMap). map.get m q) (sym c.entries-customer-items.ensures.whole) ∙ get_rows (patches_left c.entries-customer-items.result) q))

pub put_if_changed-requires : goal.put_if_changed-requires
put_if_changed-requires c = looked_writable c.args.rows.now c.in-Some.customer _ c.requires c.row.ensures.row

pub loop-customer-preserved : goal.loop-customer-preserved
loop-customer-preserved c =
    changing_next c.args.rows.now c.args.back.now c.in-Some.customer c.in-Some.before.now (option_copied c.row.result) (patches_left c.next.new.self) c.args.out.now.items c.loop-customer.out.items c.put_if_changed.new.out.items
    (subst (λ (left : List (ℕ × Option (List ℕ))). TellingChanged c.args.rows.now c.args.back.now left c.args.out.now.items c.loop-customer.out.items) c.in-Some.ensures.steps c.loop-customer.invariant)
    c.row.ensures.row
    (subst (λ (before : Option (List ℕ)). Appended (cond (same_rows before (option_copied c.row.result)) [] (told c.in-Some.customer (option_copied c.row.result) ∷ [])) c.loop-customer.out.items c.put_if_changed.new.out.items)
    c.as_ref.ensures.value c.in_ok-put_if_changed.ensures)

pub returns : goal.returns
returns c = changing_end c.args.rows.now c.args.back.now c.args.out.now.items c.loop-customer.out.items
    (subst (λ (left : List (ℕ × Option (List ℕ))). TellingChanged c.args.rows.now c.args.back.now left c.args.out.now.items c.loop-customer.out.items) c.in-None.ensures.steps.0 c.loop-customer.invariant)
