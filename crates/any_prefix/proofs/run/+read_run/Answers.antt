use Rattle.std.proofs.Common.{ℕ, ◌+◌, ◌*◌, length, arith, ap, ◌∙◌}
use Rattle.any_prefix.proofs.TextLemmas.{pow_fits}
use Rattle.any_prefix.proofs.RunLemmas.{splits, more_read, run_fits}
use Rattle.any_prefix.proofs.run.+read_run.Goals as goal

pub returns-in_err-high-in-Some-clause-none : goal.returns-in_err-high-in-Some-clause-none
returns-in_err-high-in-Some-clause-none t c = rw c.from_residual.ensures (λ groups run some few.
    let s = splits c.args.last c.args.text.now c.in-Some.first.now c.in-Some.rest.now groups c.in-Some.ensures.whole c.in-Some.ensures.first run some in c.in_err-high-in-Some.ensures.none s.head s.group)

pub returns-in_err-low-in-Some-clause-none : goal.returns-in_err-low-in-Some-clause-none
returns-in_err-low-in-Some-clause-none t c = rw c.from_residual-in_err-low-in-Some.ensures (λ groups run some few.
    let s = splits c.args.last c.args.text.now c.in-Some.first.now c.in-Some.rest.now groups c.in-Some.ensures.whole c.in-Some.ensures.first run some in
    c.in_err-low-in-Some.ensures.none s.more s.run s.some (omega (arith, ap length s.is, few)))

pub pow-requires : goal.pow-requires
pow-requires t c = let fits = pow_fits 65536 c.in_ok-low-in-Some.low.count 7 (omega arith) (omega (arith, c.in_ok-low-in-Some.ensures.some.few, c.requires)) in omega (arith, fits)

pub overflow_mul-result : goal.overflow_mul-result
overflow_mul-result t c =
    let fits = run_fits c.in_ok-low-in-Some.low.count c.in_ok-high-in-Some.high c.in_ok-low-in-Some.low.number (omega (arith, c.in_ok-low-in-Some.ensures.some.few, c.requires)) c.in_ok-high-in-Some.ensures.some.1 c.in_ok-low-in-Some.ensures.some.small in
    rw (c.from.ensures, c.pow.ensures) (omega (arith, fits))

pub overflow_add-result-in-Some : goal.overflow_add-result-in-Some
overflow_add-result-in-Some t c =
    let fits = run_fits c.in_ok-low-in-Some.low.count c.in_ok-high-in-Some.high c.in_ok-low-in-Some.low.number (omega (arith, c.in_ok-low-in-Some.ensures.some.few, c.requires)) c.in_ok-high-in-Some.ensures.some.1 c.in_ok-low-in-Some.ensures.some.small in
    rw (c.from.ensures, c.pow.ensures) (omega (arith, fits))

pub returns-in_ok-low-in-Some-clause-some : goal.returns-in_ok-low-in-Some-clause-some
returns-in_ok-low-in-Some-clause-some t c = more_read c.args.last c.args.text.now c.in-Some.first.now c.in-Some.rest.now c.args.most c.in_ok-high-in-Some.high c.in_ok-low-in-Some.low _ c.in-Some.ensures.whole c.in_ok-high-in-Some.ensures.some.0 c.in_ok-high-in-Some.ensures.some.1 (omega arith) c.in_ok-low-in-Some.ensures.some
    (ap (λ (h : ℕ). record { count = c.in_ok-low-in-Some.low.count + 1; number = h * c.pow.result + c.in_ok-low-in-Some.low.number }) c.from.ensures
    ∙ ap (λ (k : ℕ). record { count = c.in_ok-low-in-Some.low.count + 1; number = c.in_ok-high-in-Some.high * k + c.in_ok-low-in-Some.low.number }) c.pow.ensures)
