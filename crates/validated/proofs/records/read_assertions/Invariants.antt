use Rattle.std.proofs.Common.{length}
use Rattle.validated.proofs.AssertingLemmas.{Asserting}
use Rattle.validated.proofs.records.read_assertions.Given as goal

abbrev pub invariant-loop-roa : goal.invariant-loop-roa
invariant-loop-roa l = Asserting l.fn.roas.items (length l.yielded) l.assertions.items
