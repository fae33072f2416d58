use Rattle.std.proofs.Common.{refl, subst}
use Rattle.std.proofs.lemmas.Result.{err_from_is_err_and}
use Rattle.serde_json.specs.Data.{object}
use Rattle.json_fields.specs.Tokens.{OpensAs}
use Rattle.json_fields.specs.declared.kind.Kind.{Kind}
use Rattle.json_fields.proofs.TokensLemmas.{object_value, object_fault}
use Rattle.json_fields.proofs.passing.opens_array.Goals as goal

pub returns-in_err-pass_members-in-Object : goal.returns-in_err-pass_members-in-Object
returns-in_err-pass_members-in-Object c =
    let p = err_from_is_err_and c.from_residual-in_err-pass_members-in-Object.result c.from_residual-in_err-pass_members-in-Object.ensures.1 in
    let opened = subst (λ (k : Kind). OpensAs k c.args.depth c.args.reader.now c.open.new.reader) c.in-Object.is c.in_ok-kind.ensures in
    rw (p.1, p.2) (object_fault c.args.depth c.args.reader.now c.open.new.reader opened.0 opened.1 _ c.in_err-pass_members-in-Object.ensures)

pub returns-in_ok-pass_members-in-Object : goal.returns-in_ok-pass_members-in-Object
returns-in_ok-pass_members-in-Object c =
    let opened = subst (λ (k : Kind). OpensAs k c.args.depth c.args.reader.now c.open.new.reader) c.in-Object.is c.in_ok-kind.ensures in
    let done = c.in_ok-pass_members-in-Object.ensures in
    (object done.0, object_value c.args.depth c.args.reader.now c.open.new.reader opened.0 opened.1 done.0 c.pass_members.new.reader done.1, refl)
