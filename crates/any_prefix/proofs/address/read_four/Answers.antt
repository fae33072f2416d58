use Rattle.path_model.specs.declared.addr.Addr.TheVariants.{V4}
use Rattle.any_prefix.proofs.RunLemmas.{other_family}
use Rattle.any_prefix.proofs.address.read_four.Goals as goal

pub returns-in_err-number-clause-none : goal.returns-in_err-number-clause-none
returns-in_err-number-clause-none c = rw c.from_residual.ensures (λ n is. c.in_err-number.ensures.none (V4 n) is.0 is.1)

pub returns-in-V6-clause-none : goal.returns-in-V6-clause-none
returns-in-V6-clause-none c = λ n is. other_family c.in-V6.field-0 n c.in_ok-number.field-0 c.in-V6.is (c.in_ok-number.ensures.again (V4 n) is)
