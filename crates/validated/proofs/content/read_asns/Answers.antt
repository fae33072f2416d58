use Rattle.std.proofs.Common.{None, get_or, refl}
use Rattle.std.proofs.lemmas.List.{get_or_default}
use Rattle.json_fields.proofs.EachLemmas.{each_grown, each_refused}
use Rattle.json_fields.proofs.FoundLemmas.{none_found}
use Rattle.validated.specs.Content.{IsNumber}
use Rattle.validated.specs.Form.{numeral_view}
use Rattle.validated.specs.declared.draft.Numeral.{Numeral}
use Rattle.validated.proofs.content.read_asns.Goals as goal

pub returns-in_default : goal.returns-in_default
returns-in_default c =
    let list = c.args.numerals.now in
    let i = c.loop-numeral.numeral-index in
    let none : Numeral = record { number = None } in (
      refl,
      each_refused IsNumber numeral_view list i (get_or list i none) c.loop-numeral-test.true (get_or_default list i none (get_or list i none) c.loop-numeral-test.true)
          (λ x e. none_found (get_or list i none).number x c.in_default.is e),
    )

pub loop-numeral-preserved : goal.loop-numeral-preserved
loop-numeral-preserved c =
    let list = c.args.numerals.now in
    let i = c.loop-numeral.numeral-index in
    let none : Numeral = record { number = None } in
    each_grown IsNumber numeral_view list i (get_or list i none) c.loop-numeral.asns c.push.new.self c.in-Some.asn c.loop-numeral-test.true
    (get_or_default list i none (get_or list i none) c.loop-numeral-test.true) c.loop-numeral.invariant c.in-Some.is c.in_ok-push.ensures.ok
