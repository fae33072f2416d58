use Rattle.std.proofs.Common.{◌≡◌, [], ◌∷◌, ◌++◌, Some, None, sym, ap, subst, ◌∙◌, arith}
use Rattle.std.proofs.lemmas.Result.{err_from_is_err_and}
use Rattle.json.specs.Json.{after_end_array, read_key}
use Rattle.json.proofs.Grammar.{read_key-shorter}
use Rattle.serde_json.specs.Data.{array, object, no_members, put}
use Rattle.json_fields.specs.Tokens.{OpensAs, value_in}
use Rattle.json_fields.specs.declared.kind.Kind.{Kind}
use Rattle.json_fields.proofs.FaultLemmas.{fault_by}
use Rattle.json_fields.proofs.TokensLemmas.{array_value, array_fault, object_value, object_fault, kind_array, kind_object}
use Rattle.json_fields.proofs.TurnsLemmas.{value_shorter, items_next, items_done, items_refused, members_start, members_next, members_done, members_no_name, members_refused}
use Rattle.json_fields.proofs.passing.+pass.Goals as goal

pub pass-returns-in_err-pass_items-in-Array : goal.pass-returns-in_err-pass_items-in-Array
pass-returns-in_err-pass_items-in-Array t c =
    let p = err_from_is_err_and c.from_residual-in_err-pass_items-in-Array.result c.from_residual-in_err-pass_items-in-Array.ensures.1 in
    let opened = subst (λ (k : Kind). OpensAs k c.args.depth c.args.reader.now c.open.new.reader) c.in-Array.is c.in_ok-kind.ensures in
    rw (p.1, p.2) (array_fault c.args.depth c.args.reader.now c.open.new.reader opened.0 opened.1 _ c.in_err-pass_items-in-Array.ensures)

pub pass-returns-in_err-pass_members-in-Object : goal.pass-returns-in_err-pass_members-in-Object
pass-returns-in_err-pass_members-in-Object t c =
    let p = err_from_is_err_and c.from_residual-in_err-pass_members-in-Object.result c.from_residual-in_err-pass_members-in-Object.ensures.1 in
    let opened = subst (λ (k : Kind). OpensAs k c.args.depth c.args.reader.now c.open.new.reader) c.in-Object.is c.in_ok-kind.ensures in
    rw (p.1, p.2) (object_fault c.args.depth c.args.reader.now c.open.new.reader opened.0 opened.1 _ c.in_err-pass_members-in-Object.ensures)

pub pass-returns-in_ok-pass_items-in-Array : goal.pass-returns-in_ok-pass_items-in-Array
pass-returns-in_ok-pass_items-in-Array t c =
    let opened = subst (λ (k : Kind). OpensAs k c.args.depth c.args.reader.now c.open.new.reader) c.in-Array.is c.in_ok-kind.ensures in
    let done = c.in_ok-pass_items-in-Array.ensures in
    (array done.0, array_value c.args.depth c.args.reader.now c.open.new.reader opened.0 opened.1 done.0 c.pass_items.new.reader done.1, kind_array c.in_ok-kind.kind done.0 c.in-Array.is)

pub pass-returns-in_ok-pass_members-in-Object : goal.pass-returns-in_ok-pass_members-in-Object
pass-returns-in_ok-pass_members-in-Object t c =
    let opened = subst (λ (k : Kind). OpensAs k c.args.depth c.args.reader.now c.open.new.reader) c.in-Object.is c.in_ok-kind.ensures in
    let done = c.in_ok-pass_members-in-Object.ensures in
    (object done.0, object_value c.args.depth c.args.reader.now c.open.new.reader opened.0 opened.1 done.0 c.pass_members.new.reader done.1, kind_object c.in_ok-kind.kind done.0 c.in-Object.is)

pub pass_items-items-smaller : goal.pass_items-items-smaller
pass_items-items-smaller t c =
    let l = c.items in
    let going : (after_end_array l.reader ≡ None) × (c.take_end_array.new.self ≡ l.reader) = grind arith in
    let here = c.in_ok-pass.ensures in
    value_shorter c.args.depth l.reader c.pass.new.reader here.0 (ap (value_in c.args.depth) (sym going.1) ∙ here.1)

pub pass_items-items-preserved : goal.pass_items-items-preserved
pass_items-items-preserved t c =
    let l = c.items in
    let going : (after_end_array l.reader ≡ None) × (c.take_end_array.new.self ≡ l.reader) = grind arith in
    let here = c.in_ok-pass.ensures in (
      l.invariant.0 ++ here.0 ∷ [],
      items_next c.args.depth c.args.reader.now l.reader c.pass.new.reader l.invariant.0 here.0 l.invariant.1 going.0 (ap (value_in c.args.depth) (sym going.1) ∙ here.1),
    )

pub pass_items-returns-in_err-pass : goal.pass_items-returns-in_err-pass
pass_items-returns-in_err-pass t c =
    let p = err_from_is_err_and c.from_residual.result c.from_residual.ensures.1 in
    let l = c.items in
    let going : (after_end_array l.reader ≡ None) × (c.take_end_array.new.self ≡ l.reader) = grind arith in
    rw (p.1, p.2) (fault_by _ (λ none. items_refused c.args.depth c.args.reader.now l.reader l.invariant.0 l.invariant.1 going.0 (ap (value_in c.args.depth) (sym going.1) ∙ none)) c.in_err-pass.ensures)

pub pass_items-returns : goal.pass_items-returns
pass_items-returns t c =
    let l = c.items in
    let done = items_done c.args.depth c.args.reader.now l.reader c.take_end_array.new.self l.invariant.0 l.invariant.1 (grind arith) in
    (done.0, done.1, tt)

pub pass_members-members-init : goal.pass_members-members-init
pass_members-members-init t c = (no_members, members_start c.args.depth c.args.reader.now)

pub pass_members-returns-in_err-next_key : goal.pass_members-returns-in_err-next_key
pass_members-returns-in_err-next_key t c =
    let p = err_from_is_err_and c.from_residual.result c.from_residual.ensures.1 in
    let l = c.members in
    rw (p.1, p.2) (members_no_name c.args.depth c.args.reader.now l.reader l.invariant.0 l.invariant.1 c.in_err-next_key.ensures.value)

pub pass_members-members-smaller : goal.pass_members-members-smaller
pass_members-members-smaller t c =
    let l = c.members in
    let k = c.in-Some.field-0.now in
    let s = c.next_key.new.self in
    let named : read_key l.reader ≡ Some (Some k, s) = grind arith in
    let here = c.in_ok-pass.ensures in
    omega (arith, read_key-shorter l.reader (Some k) s named, value_shorter c.args.depth s c.pass.new.reader here.0 here.1)

pub pass_members-members-preserved : goal.pass_members-members-preserved
pass_members-members-preserved t c =
    let l = c.members in
    let k = c.in-Some.field-0.now in
    let s = c.next_key.new.self in
    let named : read_key l.reader ≡ Some (Some k, s) = grind arith in
    let here = c.in_ok-pass.ensures in
    (put k here.0 l.invariant.0, members_next c.args.depth c.args.reader.now l.reader s c.pass.new.reader l.invariant.0 k here.0 l.invariant.1 named here.1)

pub pass_members-returns-in_err-pass : goal.pass_members-returns-in_err-pass
pass_members-returns-in_err-pass t c =
    let p = err_from_is_err_and c.from_residual-in_err-pass.result c.from_residual-in_err-pass.ensures.1 in
    let l = c.members in
    let k = c.in-Some.field-0.now in
    let s = c.next_key.new.self in
    let named : read_key l.reader ≡ Some (Some k, s) = grind arith in
    rw (p.1, p.2) (fault_by _ (λ none. members_refused c.args.depth c.args.reader.now l.reader s l.invariant.0 k l.invariant.1 named none) c.in_err-pass.ensures)

pub pass_members-returns : goal.pass_members-returns
pass_members-returns t c =
    let l = c.members in
    (l.invariant.0, members_done c.args.depth c.args.reader.now l.reader c.next_key.new.self l.invariant.0 l.invariant.1 (grind arith), tt)
