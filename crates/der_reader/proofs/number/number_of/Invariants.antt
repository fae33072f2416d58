use Rattle.std.proofs.Common.{◌≡◌, ◌<◌, ◌^◌, drop}
use Rattle.der_reader.specs.Number.{number, number_from}
use Rattle.der_reader.proofs.number.number_of.Given as goal

abbrev pub invariant-loop-digit : goal.invariant-loop-digit
invariant-loop-digit l = record { rest : number_from l.number (drop l.digit-index l.digits) ≡ number l.digits; small : l.number < 256 ^ l.digit-index }
