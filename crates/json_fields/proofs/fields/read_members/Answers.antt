use Rattle.std.proofs.Common.{◌≡◌, Some, arith}
use Rattle.std.proofs.lemmas.Result.{err_from_is_err_and}
use Rattle.json.specs.Json.{read_key}
use Rattle.json.proofs.Grammar.{read_key-shorter}
use Rattle.serde_json.specs.Data.{put}
use Rattle.json_fields.proofs.FaultLemmas.{fault_by}
use Rattle.json_fields.proofs.TurnsLemmas.{value_shorter, members_next, members_done, members_no_name, members_refused}
use Rattle.json_fields.proofs.fields.read_members.Goals as goal

pub returns-in_err-name : goal.returns-in_err-name
returns-in_err-name g c =
    let p = err_from_is_err_and c.from_residual.result c.from_residual.ensures.1 in
    let l = c.members in
    rw (p.1, p.2) (members_no_name c.args.depth c.args.reader.now l.reader l.invariant.0 l.invariant.1 c.in_err-name.ensures.value)

pub returns-in_err-more : goal.returns-in_err-more
returns-in_err-more g c =
    let p = err_from_is_err_and c.from_residual-in_err-more.result c.from_residual-in_err-more.ensures.1 in
    let l = c.members in
    let k = c.in-Some.name.now in
    let s = c.next_key.new.self in
    let named : read_key l.reader ≡ Some (Some k, s) = grind arith in
    rw (p.1, p.2) (fault_by _ (λ none. members_refused c.args.depth c.args.reader.now l.reader s l.invariant.0 k l.invariant.1 named none) c.in_err-more.ensures)

pub members-smaller : goal.members-smaller
members-smaller g c =
    let l = c.members in
    let k = c.in-Some.name.now in
    let s = c.next_key.new.self in
    let named : read_key l.reader ≡ Some (Some k, s) = grind arith in
    let here = c.in_ok-more.ensures in
    omega (arith, read_key-shorter l.reader (Some k) s named, value_shorter c.args.depth s c.keep.new.reader here.0 here.1)

pub members-preserved : goal.members-preserved
members-preserved g c =
    let l = c.members in
    let k = c.in-Some.name.now in
    let s = c.next_key.new.self in
    let named : read_key l.reader ≡ Some (Some k, s) = grind arith in
    let here = c.in_ok-more.ensures in (
      put k here.0 l.invariant.0,
      members_next c.args.depth c.args.reader.now l.reader s c.keep.new.reader l.invariant.0 k here.0 l.invariant.1 named here.1,
      here.2 l.invariant.0 l.invariant.2,
    )

pub returns : goal.returns
returns g c =
    let l = c.members in
    (l.invariant.0, members_done c.args.depth c.args.reader.now l.reader c.next_key.new.self l.invariant.0 l.invariant.1 (grind arith), l.invariant.2)
