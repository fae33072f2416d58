use Rattle.std.proofs.Common.{ℕ, ◌+◌, ◌-◌, ◌*◌, ◌^◌, ◌≤◌, length, drop, add-one, sym, subst, arith}
use Rattle.any_prefix.specs.Group.{AreDigits}
use Rattle.any_prefix.proofs.GroupLemmas.{less_none, four_fit, fits_now, fits_next, step_to, step_from, no_digit, all_read}
use Rattle.any_prefix.proofs.group.read_group.Goals as goal

pub loop-byte-init : goal.loop-byte-init
loop-byte-init c = let few : length c.args.text.now ≤ 4 = omega arith in record { to = λ n h. h; from = λ n h. h; fits = subst (λ (k : ℕ). (0 + 1) * 16 ^ k ≤ 65536) (less_none (length c.args.text.now)) (four_fit (length c.args.text.now) few) }

pub loop-byte-preserved : goal.loop-byte-preserved
loop-byte-preserved c = record {
  to = λ n h. subst (λ (k : ℕ). AreDigits (c.loop-byte.value * 16 + c.in_ok-digit.digit) (drop k c.args.text.now) n) (sym (add-one c.loop-byte.byte-index))
      (step_to c.loop-byte.value c.in_ok-digit.digit c.loop-byte.byte-index n c.args.text.now c.loop-byte-test.true c.in_ok-digit.ensures.only (c.loop-byte.invariant.to n h));
  from = λ n h. c.loop-byte.invariant.from n (step_from c.loop-byte.value c.in_ok-digit.digit c.loop-byte.byte-index n c.args.text.now c.loop-byte-test.true c.in_ok-digit.ensures.some.0
      (subst (λ (k : ℕ). AreDigits (c.loop-byte.value * 16 + c.in_ok-digit.digit) (drop k c.args.text.now) n) (add-one c.loop-byte.byte-index) h));
  fits = subst (λ (k : ℕ). (c.loop-byte.value * 16 + c.in_ok-digit.digit + 1) * 16 ^ (length c.args.text.now - k) ≤ 65536) (sym (add-one c.loop-byte.byte-index))
      (fits_next c.loop-byte.value c.in_ok-digit.digit c.loop-byte.byte-index (length c.args.text.now) c.loop-byte-test.true c.in_ok-digit.ensures.some.1 c.loop-byte.invariant.fits);
}

pub overflow_mul-value : goal.overflow_mul-value
overflow_mul-value c = omega (arith, fits_now c.loop-byte.value (length c.args.text.now - c.loop-byte.byte-index) c.loop-byte.invariant.fits)

pub overflow_add-value : goal.overflow_add-value
overflow_add-value c = omega (arith, fits_now c.loop-byte.value (length c.args.text.now - c.loop-byte.byte-index) c.loop-byte.invariant.fits, c.in_ok-digit.ensures.some.1)

pub returns-clause-some : goal.returns-clause-some
returns-clause-some c = (
  record { some = omega arith; few = omega arith; digits = c.loop-byte.invariant.from c.loop-byte.value (all_read c.loop-byte.value c.loop-byte.byte-index c.args.text.now c.loop-byte-test.false) },
  omega (arith, fits_now c.loop-byte.value (length c.args.text.now - c.loop-byte.byte-index) c.loop-byte.invariant.fits),
)

pub returns-in_err-digit-clause-none : goal.returns-in_err-digit-clause-none
returns-in_err-digit-clause-none c = rw c.from_residual.ensures (λ n is. no_digit c.loop-byte.value c.loop-byte.byte-index n c.args.text.now c.loop-byte-test.true c.in_err-digit.ensures.none (c.loop-byte.invariant.to n is.digits))
