use Rattle.std.proofs.Common.{arith}
use Rattle.std.proofs.lemmas.Fmt.{decimal_digit}
use Rattle.std.proofs.lemmas.Grind.{common_steps}
use Rattle.report_text.proofs.DigitLemmas.{decimal_two, decimal_three}
use Rattle.report_text.proofs.digits.write_octet.Goals as goal

pub returns-then-n-lt10-clause-written : goal.returns-then-n-lt10-clause-written
returns-then-n-lt10-clause-written c = record { front = rw (decimal_digit c.args.n c.if-n-lt10.true) (grind (arith, common_steps)) }

pub returns-then-n-lt100-clause-written : goal.returns-then-n-lt100-clause-written
returns-then-n-lt100-clause-written c = record { front = rw (decimal_two c.args.n c.if-n-lt10.false c.if-n-lt100.true) (grind (arith, common_steps)) }

pub returns-else-n-lt100-clause-written : goal.returns-else-n-lt100-clause-written
returns-else-n-lt100-clause-written c = record { front = rw (decimal_three c.args.n c.if-n-lt100.false (omega arith)) (grind (arith, common_steps)) }
