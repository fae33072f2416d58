use Rattle.std.proofs.Common.{false, arith, ap, ◌+◌, ◌*◌, ◌-◌, ℕ}
use Rattle.any_prefix.proofs.TextLemmas.{pow_fits}
use Rattle.any_prefix.proofs.DoubleLemmas.{both_fit, both_read}
use Rattle.any_prefix.proofs.RunLemmas.{part_count}
use Rattle.any_prefix.proofs.address.read_compressed.Goals as goal

pub returns-in_err-low-clause-none : goal.returns-in_err-low-clause-none
returns-in_err-low-clause-none c = rw c.from_residual-in_err-low.ensures (λ high low hr lr le.
    let s = c.in_ok-high.ensures.some in
    let e = part_count false c.args.left.now s.groups high s.is hr in
    c.in_err-low.ensures.none low lr (omega (arith, e, s.count, le)))

pub pow-requires : goal.pow-requires
pow-requires c = let fits = pow_fits 65536 (8 - c.in_ok-high.high.count) 7 (omega arith) (omega (arith, c.if-high-eq0.false)) in omega (arith, fits)

pub overflow_mul-result : goal.overflow_mul-result
overflow_mul-result c =
    let fits = both_fit c.in_ok-high.high.count c.in_ok-low.low.count c.in_ok-high.high.number c.in_ok-low.low.number (omega (arith, c.if-high-eq0.false)) c.in_ok-high.ensures.some.few c.in_ok-low.ensures.some.few c.in_ok-high.ensures.some.small c.in_ok-low.ensures.some.small in
    rw c.pow.ensures (omega (arith, fits))

pub overflow_add-result : goal.overflow_add-result
overflow_add-result c =
    let fits = both_fit c.in_ok-high.high.count c.in_ok-low.low.count c.in_ok-high.high.number c.in_ok-low.low.number (omega (arith, c.if-high-eq0.false)) c.in_ok-high.ensures.some.few c.in_ok-low.ensures.some.few c.in_ok-high.ensures.some.small c.in_ok-low.ensures.some.small in
    rw c.pow.ensures (omega (arith, fits))

pub returns-clause-some : goal.returns-clause-some
returns-clause-some c = both_read c.args.left.now c.args.right.now 7 c.in_ok-high.high c.in_ok-low.low _ c.in_ok-high.ensures.some c.in_ok-low.ensures.some (omega (arith, c.if-high-eq0.false)) (omega arith)
    (ap (λ (k : ℕ). c.in_ok-high.high.number * k + c.in_ok-low.low.number) c.pow.ensures)
