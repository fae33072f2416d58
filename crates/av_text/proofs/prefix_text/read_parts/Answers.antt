use Rattle.av_text.proofs.PrefixLemmas.{parts_not_slash, parts_not_addr, parts_not_len, parts_of}
use Rattle.av_text.proofs.prefix_text.read_parts.Goals as goal

pub returns-in_err-front-clause-none : goal.returns-in_err-front-clause-none
returns-in_err-front-clause-none c = rw c.from_residual.ensures (parts_not_slash c.args.text.now c.in_err-front.ensures.none)

pub returns-in_err-addr-clause-none : goal.returns-in_err-addr-clause-none
returns-in_err-addr-clause-none c = rw c.from_residual-in_err-addr.ensures (parts_not_addr c.args.text.now _ _ c.in_ok-front.ensures.whole c.in_ok-front.ensures.first c.in_err-addr.ensures.none)

pub returns-in_err-len-clause-none : goal.returns-in_err-len-clause-none
returns-in_err-len-clause-none c = rw c.from_residual-in_err-len.ensures (parts_not_len c.args.text.now _ _ c.in_ok-front.ensures.whole c.in_ok-front.ensures.first c.in_err-len.ensures.none)

pub returns-clause-some : goal.returns-clause-some
returns-clause-some c = parts_of c.args.text.now _ _ c.in_ok-addr.addr c.in_ok-len.len c.in_ok-front.ensures.whole c.in_ok-addr.ensures.spelled c.in_ok-len.ensures.some
