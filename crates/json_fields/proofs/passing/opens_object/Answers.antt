use Rattle.std.proofs.Common.{refl, subst}
use Rattle.std.proofs.lemmas.Result.{err_from_is_err_and}
use Rattle.serde_json.specs.Data.{array}
use Rattle.json_fields.specs.Tokens.{OpensAs}
use Rattle.json_fields.specs.declared.kind.Kind.{Kind}
use Rattle.json_fields.proofs.TokensLemmas.{array_value, array_fault}
use Rattle.json_fields.proofs.passing.opens_object.Goals as goal

pub returns-in_err-pass_items-in-Array : goal.returns-in_err-pass_items-in-Array
returns-in_err-pass_items-in-Array c =
    let p = err_from_is_err_and c.from_residual-in_err-pass_items-in-Array.result c.from_residual-in_err-pass_items-in-Array.ensures.1 in
    let opened = subst (λ (k : Kind). OpensAs k c.args.depth c.args.reader.now c.open.new.reader) c.in-Array.is c.in_ok-kind.ensures in
    rw (p.1, p.2) (array_fault c.args.depth c.args.reader.now c.open.new.reader opened.0 opened.1 _ c.in_err-pass_items-in-Array.ensures)

pub returns-in_ok-pass_items-in-Array : goal.returns-in_ok-pass_items-in-Array
returns-in_ok-pass_items-in-Array c =
    let opened = subst (λ (k : Kind). OpensAs k c.args.depth c.args.reader.now c.open.new.reader) c.in-Array.is c.in_ok-kind.ensures in
    let done = c.in_ok-pass_items-in-Array.ensures in
    (array done.0, array_value c.args.depth c.args.reader.now c.open.new.reader opened.0 opened.1 done.0 c.pass_items.new.reader done.1, refl)
