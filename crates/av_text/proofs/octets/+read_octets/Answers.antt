use Rattle.std.proofs.Common.{ℕ, ◌≡◌, ◌<◌, ◌+◌, ◌*◌, ◌^◌, decimal, arith}
use Rattle.av_text.specs.AddressText.{octets_text}
use Rattle.av_text.proofs.PartLemmas.{parts_some, parts_not_cut, parts_not_high, parts_not_low, parts_fit, pow_fits, octets_apart}
use Rattle.av_text.proofs.octets.+read_octets.Goals as goal

pub returns-in_err-first-clause-none : goal.returns-in_err-first-clause-none
returns-in_err-first-clause-none t c = rw c.from_residual.ensures (parts_not_cut decimal 46 256 c.args.dots c.args.text.now c.if-dots-eq0.false c.in_err-first.ensures.none)

pub returns-in_err-high-clause-none : goal.returns-in_err-high-clause-none
returns-in_err-high-clause-none t c = rw c.from_residual-in_err-high.ensures (parts_not_high decimal 46 256 c.args.dots c.args.text.now _ _ c.if-dots-eq0.false (omega arith) octets_apart c.in_ok-first.ensures.whole c.in_ok-first.ensures.first c.in_err-high.ensures.none)

pub returns-in_err-low-clause-none : goal.returns-in_err-low-clause-none
returns-in_err-low-clause-none t c = rw c.from_residual-in_err-low.ensures (parts_not_low decimal 46 256 c.args.dots c.args.text.now _ _ c.if-dots-eq0.false (omega arith) octets_apart c.in_ok-first.ensures.whole c.in_ok-first.ensures.first c.in_err-low.ensures.none)

pub pow-requires : goal.pow-requires
pow-requires t c = let fits = pow_fits 256 c.args.dots 3 (omega arith) c.requires in omega arith

-- the value that is read
whole : (t : ℕ) (c : goal.After-pow t) → (c.in_ok-high.high * 256 ^ c.args.dots + c.in_ok-low.low < 256 ^ (c.args.dots + 1)) × (c.args.text.now ≡ octets_text c.args.dots (c.in_ok-high.high * 256 ^ c.args.dots + c.in_ok-low.low))
whole t c = parts_some decimal 46 256 c.args.dots c.in_ok-high.high c.in_ok-low.low c.args.text.now _ _ c.if-dots-eq0.false c.in_ok-first.ensures.whole c.in_ok-high.ensures.some.0 c.in_ok-high.ensures.some.1 c.in_ok-low.ensures.some.0 c.in_ok-low.ensures.some.1

-- and that it fits
fits : (t : ℕ) (c : goal.After-pow t) → c.in_ok-high.high * 256 ^ c.args.dots + c.in_ok-low.low < 4294967296
fits t c = parts_fit 256 c.args.dots 3 c.in_ok-high.high c.in_ok-low.low (omega arith) c.requires (whole t c).0

pub overflow_mul-result : goal.overflow_mul-result
overflow_mul-result t c = let small = fits t c in rw c.pow.ensures (omega arith)

pub overflow_add-result : goal.overflow_add-result
overflow_add-result t c = let small = fits t c in rw c.pow.ensures (omega arith)

pub returns-clause-some : goal.returns-clause-some
returns-clause-some t c = rw c.pow.ensures (whole t c)
