use Rattle.std.proofs.Common.{ℕ, arith, sym, ap, subst, ◌∙◌, true≢false}
use Rattle.path_model.specs.declared.addr.Addr.{Addr}
use Rattle.path_model.specs.declared.addr.Addr.TheVariants.{V4}
use Rattle.av_text.specs.AddressText.{IsAddrText}
use Rattle.any_prefix.proofs.RunLemmas.{end_none, group_read, quad_read, other_family}
use Rattle.any_prefix.proofs.run.read_end.Goals as goal

pub returns-in-Some-clause-some : goal.returns-in-Some-clause-some
returns-in-Some-clause-some c = group_read c.args.last c.args.text.now c.args.most c.in-Some.group _ c.in-Some.ensures.some.0 c.in-Some.ensures.some.1 (omega arith) (ap (λ (n : ℕ). record { count = 1; number = n }) c.from-number.ensures)

pub returns-then-not-last-clause-none : goal.returns-then-not-last-clause-none
returns-then-not-last-clause-none c = λ groups run some few. end_none c.args.last c.args.text.now groups c.requires.lacks run some c.in_default.ensures.none (λ n end is two. true≢false (sym end ∙ c.if-not-last.true))

pub returns-then-most-lt2-clause-none : goal.returns-then-most-lt2-clause-none
returns-then-most-lt2-clause-none c = λ groups run some few. end_none c.args.last c.args.text.now groups c.requires.lacks run some c.in_default.ensures.none (λ n end is two. omega (arith, two, few, c.if-most-lt2.true))

pub returns-in_err-bits-clause-none : goal.returns-in_err-bits-clause-none
returns-in_err-bits-clause-none c = rw c.from_residual.ensures (λ groups run some few. end_none c.args.last c.args.text.now groups c.requires.lacks run some c.in_default.ensures.none (λ n end is two. c.in_err-bits.ensures.none (V4 n) is.0 is.1))

pub returns-in-V4-clause-some : goal.returns-in-V4-clause-some
returns-in-V4-clause-some c = quad_read c.args.last c.args.text.now c.args.most c.in-V4.bits _ c.if-not-last.false
    (subst (λ (a : Addr). IsAddrText c.args.text.now a) c.in-V4.is c.in_ok-bits.ensures.spelled) (omega arith) (ap (λ (n : ℕ). record { count = 2; number = n }) c.from-number-in-V4.ensures)

pub returns-in-V6-clause-none : goal.returns-in-V6-clause-none
returns-in-V6-clause-none c = λ groups run some few. end_none c.args.last c.args.text.now groups c.requires.lacks run some c.in_default.ensures.none
    (λ n end is two. other_family c.in-V6.field-0 n c.in_ok-bits.field-0 c.in-V6.is (c.in_ok-bits.ensures.again (V4 n) is))
