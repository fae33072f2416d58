use Rattle.std.proofs.Common.{◌≡◌, Bool, true, map, subst, arith}
use Rattle.std.specs.declared.result.Result.TheVariants.{Ok}
use Rattle.json_fields.specs.Tokens.{OpensArray}
use Rattle.json_fields.proofs.ListsLemmas.{array_taken}
use Rattle.json_fields.proofs.lists.read_list.Goals as goal

pub returns : goal.returns
returns g c =
    let is : c.in_ok-opens.opens ≡ true = grind arith in
    let opened = subst (λ (b : Bool). OpensArray c.args.depth c.args.reader.now c.opens_array.new.reader (Ok b)) is c.in_ok-opens.ensures in
    array_taken (λ v. map g.E.Element.see v.items) g.E.Element.stands_for c.args.depth c.args.reader.now c.opens_array.new.reader c.read_items.new.reader c.read_items.result opened.0 opened.1 c.read_items.ensures
