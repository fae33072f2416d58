use Rattle.std.proofs.Common.{◌∙◌, sym, arith}
use Rattle.std.proofs.lemmas.Fmt.{decimal_injective}
use Rattle.any_prefix.proofs.UniqueLemmas.{parts_no_slash, parts_cut}
use Rattle.any_prefix.proofs.prefix.read_parts.Goals as goal

pub returns-in_err-front-clause-none : goal.returns-in_err-front-clause-none
returns-in_err-front-clause-none c = rw c.from_residual.ensures (λ a n. parts_no_slash c.args.text.now a n c.in_err-front.ensures.none)

pub returns-in_err-addr-clause-none : goal.returns-in_err-addr-clause-none
returns-in_err-addr-clause-none c = rw c.from_residual-in_err-addr.ensures
    (λ a n parts. c.in_err-addr.ensures.none a (parts_cut c.args.text.now c.in_ok-front.front.now c.in_ok-front.back.now a n c.in_ok-front.ensures.whole c.in_ok-front.ensures.first parts).0)

pub returns-in_err-len-clause-none : goal.returns-in_err-len-clause-none
returns-in_err-len-clause-none c = rw c.from_residual-in_err-len.ensures (λ a n parts.
    let e = parts_cut c.args.text.now c.in_ok-front.front.now c.in_ok-front.back.now a n c.in_ok-front.ensures.whole c.in_ok-front.ensures.first parts in
    c.in_err-len.ensures.none n (omega (arith, e.2)) e.1)

pub returns-then-len-gt255-clause-none : goal.returns-then-len-gt255-clause-none
returns-then-len-gt255-clause-none c = λ a n parts.
    let e = parts_cut c.args.text.now c.in_ok-front.front.now c.in_ok-front.back.now a n c.in_ok-front.ensures.whole c.in_ok-front.ensures.first parts in
    let number = c.in_ok-len.ensures.number in
    let same = decimal_injective c.in_ok-len.len n (omega (arith, number.0)) (omega (arith, e.2)) (sym number.1 ∙ e.1) in
    omega (arith, same, e.2, c.if-len-gt255.true)
