use Rattle.std.proofs.Common.{◌<◌, ◌^◌, arith}
use Rattle.der_reader.proofs.NumberLemmas.{number_fits}
use Rattle.der_reader.proofs.number.number_of.Goals as goal

pub overflow_mul-number : goal.overflow_mul-number
overflow_mul-number c =
    let small : c.loop-digit.number < 2 ^ 24 = number_fits _ c.loop-digit.digit-index c.loop-digit.invariant.small (omega arith) in omega arith
