use Rattle.std.proofs.Common.{◌≡◌, List, [], ◌∷◌, ◌++◌, None, map, sym, ap, subst, ◌∙◌, arith}
use Rattle.std.proofs.lemmas.Result.{err_from_is_err_and}
use Rattle.json.specs.Json.{after_end_array}
use Rattle.serde_json.specs.Data.{Data}
use Rattle.json_fields.specs.Tokens.{AreOr, value_in}
use Rattle.json_fields.proofs.FaultLemmas.{fault_by}
use Rattle.json_fields.proofs.ListsLemmas.{are_more}
use Rattle.json_fields.proofs.TurnsLemmas.{value_shorter, items_start, items_next, items_done, items_refused}
use Rattle.json_fields.proofs.lists.read_items.Goals as goal

pub items-init : goal.items-init
items-init g c = ([], items_start c.args.depth c.args.reader.now, rw c.new.ensures.items tt)

pub returns-in_err-item : goal.returns-in_err-item
returns-in_err-item g c =
    let p = err_from_is_err_and c.from_residual.result c.from_residual.ensures.1 in
    let l = c.items in
    let going : (after_end_array l.reader ≡ None) × (c.take_end_array.new.self ≡ l.reader) = grind arith in
    rw (p.1, p.2) (fault_by _ (λ none. items_refused c.args.depth c.args.reader.now l.reader l.invariant.0 l.invariant.1 going.0 (ap (value_in c.args.depth) (sym going.1) ∙ none)) c.in_err-item.ensures)

pub items-smaller : goal.items-smaller
items-smaller g c =
    let l = c.items in
    let going : (after_end_array l.reader ≡ None) × (c.take_end_array.new.self ≡ l.reader) = grind arith in
    let here = c.in_ok-item.ensures in
    value_shorter c.args.depth l.reader c.read.new.reader here.0 (ap (value_in c.args.depth) (sym going.1) ∙ here.1)

pub items-preserved : goal.items-preserved
items-preserved g c =
    let l = c.items in
    let going : (after_end_array l.reader ≡ None) × (c.take_end_array.new.self ≡ l.reader) = grind arith in
    let here = c.in_ok-item.ensures in (
      l.invariant.0 ++ here.0 ∷ [],
      items_next c.args.depth c.args.reader.now l.reader c.read.new.reader l.invariant.0 here.0 l.invariant.1 going.0 (ap (value_in c.args.depth) (sym going.1) ∙ here.1),
      are_more g.E.Element.stands_for g.E.Element.see l.list c.in_ok-more.more c.in_ok-item.item l.invariant.0 here.0 c.in_ok-more.ensures.ok l.invariant.2 here.2,
    )

pub returns : goal.returns
returns g c =
    let l = c.items in
    let done = items_done c.args.depth c.args.reader.now l.reader c.take_end_array.new.self l.invariant.0 l.invariant.1 (grind arith) in
    (done.0, done.1, subst (λ (ds : List Data). AreOr (λ v. map g.E.Element.see v.items) g.E.Element.stands_for l.list ds) done.2 l.invariant.2)
