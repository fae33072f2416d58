use Rattle.std.proofs.Common.{map, take}
use Rattle.json_fields.specs.Each.{Each}
use Rattle.validated.specs.Content.{IsNumber}
use Rattle.validated.specs.Form.{numeral_view}
use Rattle.validated.proofs.content.read_asns.Given as goal

abbrev pub invariant-loop-numeral : goal.invariant-loop-numeral
invariant-loop-numeral l = Each IsNumber (map numeral_view (take l.numeral-index l.numerals)) l.asns
