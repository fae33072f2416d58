use Rattle.std.proofs.Common.{◌+◌, ◌%◌, sym, arith}
use Rattle.std.proofs.lemmas.Fmt.{decimal_digit, decimal_step}
use Rattle.std.proofs.lemmas.Grind.{common_steps}
use Rattle.report_text.proofs.DigitLemmas.{behind, respelled, length_one, length_more, one_more}
use Rattle.report_text.proofs.digits.+write_digits.Goals as goal

pub bounds-line-at : goal.bounds-line-at
bounds-line-at t c = omega (arith, c.requires, length_one c.args.n c.if-n-lt10.true)

pub returns-then-n-lt10-clause-written : goal.returns-then-n-lt10-clause-written
returns-then-n-lt10-clause-written t c =
    let inside = bounds-line-at t c in
    record { front = rw (decimal_digit c.args.n c.if-n-lt10.true) (grind (arith, common_steps)) }

pub returns-then-n-lt10-clause-end : goal.returns-then-n-lt10-clause-end
returns-then-n-lt10-clause-end t c = omega (arith, length_one c.args.n c.if-n-lt10.true)

pub write_digits-end-requires : goal.write_digits-end-requires
write_digits-end-requires t c = (omega arith, omega (arith, c.requires, length_more c.args.n c.if-n-lt10.false (omega arith)))

pub bounds-line-end : goal.bounds-line-end
bounds-line-end t c = omega (arith, c.requires, c.write_digits-end.ensures.end, length_more c.args.n c.if-n-lt10.false (omega arith))

pub returns-clause-written : goal.returns-clause-written
returns-clause-written t c =
    let inside = bounds-line-end t c in
    respelled (behind c.write_digits-end.ensures.written (one_more c.write_digits-end.new.line c.write_digits-end.result (48 + c.args.n % 10) (omega (arith, c.write_digits-end.auto.line))))
    (sym (decimal_step c.args.n c.if-n-lt10.false (omega arith)))

pub returns-clause-end : goal.returns-clause-end
returns-clause-end t c = omega (arith, c.write_digits-end.ensures.end, length_more c.args.n c.if-n-lt10.false (omega arith))
