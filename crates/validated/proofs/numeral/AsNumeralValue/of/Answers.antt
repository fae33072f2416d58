use Rattle.std.proofs.Common.{option_map, sym, ap, ◌∙◌}
use Rattle.serde_json.specs.View.{number_view}
use Rattle.validated.proofs.NumeralLemmas.{as_of_number}
use Rattle.validated.proofs.numeral.AsNumeralValue.of.Goals as goal

pub returns-in-Some : goal.returns-in-Some
returns-in-Some c = λ d kind.
    as_of_number d c.read_asn-number.result (number_view c.in-Some.number) (sym (c.number.ensures ∙ kind.number) ∙ ap (option_map number_view) c.in-Some.is)
    c.read_asn-number.ensures.some c.read_asn-number.ensures.none
