use Rattle.std.proofs.Common.{option_map, sym, ap, ◌∙◌}
use Rattle.serde_json.specs.View.{number_view}
use Rattle.validated.proofs.NumeralLemmas.{moment_of_number, moment_of_other}
use Rattle.validated.proofs.numeral.MomentNumeralValue.of.Goals as goal

pub returns-in-Some : goal.returns-in-Some
returns-in-Some c = λ d kind.
    moment_of_number d c.read_asn-number.result (number_view c.in-Some.number) (sym (c.number.ensures ∙ kind.number) ∙ ap (option_map number_view) c.in-Some.is)
    c.read_asn-number.ensures.some c.read_asn-number.ensures.none

pub returns-in-None : goal.returns-in-None
returns-in-None c = λ d kind.
    moment_of_other d (sym (c.number.ensures ∙ kind.number) ∙ ap (option_map number_view) c.in-None.is)
