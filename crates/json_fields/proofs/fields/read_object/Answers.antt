use Rattle.std.proofs.Common.{◌≡◌, Bool, true, subst, arith}
use Rattle.std.specs.declared.result.Result.TheVariants.{Ok}
use Rattle.json_fields.specs.Tokens.{OpensObject}
use Rattle.json_fields.proofs.ListsLemmas.{object_taken}
use Rattle.json_fields.proofs.fields.read_object.Goals as goal

pub returns : goal.returns
returns g c =
    let is : c.in_ok-opens.opens ≡ true = grind arith in
    let opened = subst (λ (b : Bool). OpensObject c.args.depth c.args.reader.now c.opens_object.new.reader (Ok b)) is c.in_ok-opens.ensures in
    object_taken g.F.Fields.keeps c.args.depth c.args.reader.now c.opens_object.new.reader c.read_members.new.reader c.read_members.result opened.0 opened.1 c.read_members.ensures
