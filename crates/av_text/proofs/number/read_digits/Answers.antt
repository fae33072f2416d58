use Rattle.std.proofs.Common.{◌≡◌, ◌+◌, ◌*◌, ◌^◌, ◌<◌, ◌≤◌, get_or, arith}
use Rattle.std.specs.Char.{digit_value}
use Rattle.av_text.proofs.NumberLemmas.{no_number-large, read_more}
use Rattle.av_text.proofs.number.read_digits.Goals as goal

pub returns-in_err-value-clause-none : goal.returns-in_err-value-clause-none
returns-in_err-value-clause-none c =
    let digit : digit_value (get_or c.args.text.now c.loop-byte.byte-index 0) ≡ c.in_ok-digit.digit = grind arith in
    let large : 2 ^ 32 ≤ c.loop-byte.value * 10 + c.in_ok-digit.digit = omega (arith, c.in_err-value.ensures, c.in_ok-checked_mul.ensures) in
    rw c.from_residual-in_err-value.ensures (no_number-large c.args.text.now _ _ _ c.loop-byte-test.true c.loop-byte.invariant digit large)

pub loop-byte-preserved : goal.loop-byte-preserved
loop-byte-preserved c =
    let digit : digit_value (get_or c.args.text.now c.loop-byte.byte-index 0) ≡ c.in_ok-digit.digit = grind arith in
    let small : c.in_ok-digit.digit < 10 = grind arith in
    let sum : c.in_ok-value.value ≡ c.loop-byte.value * 10 + c.in_ok-digit.digit = omega (arith, c.in_ok-value.ensures, c.in_ok-checked_mul.ensures) in
    read_more c.args.text.now _ _ _ _ c.loop-byte-test.true c.loop-byte.invariant digit small sum
