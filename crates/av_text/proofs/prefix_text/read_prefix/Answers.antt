use Rattle.std.proofs.Common.{◌≡◌, ◌∙◌, sym}
use Rattle.av_text.proofs.PrefixLemmas.{no_parts, prefix_not_made, prefix_not_clear, prefix_spelled, prefix_again, nothing_again}
use Rattle.av_text.proofs.prefix_text.read_prefix.Goals as goal

pub returns-in_err-addr-clause-none : goal.returns-in_err-addr-clause-none
returns-in_err-addr-clause-none c = rw c.from_residual.ensures (no_parts c.args.text.now c.in_err-addr.ensures.none)

pub returns-in_err-addr-clause-again : goal.returns-in_err-addr-clause-again
returns-in_err-addr-clause-again c = rw c.from_residual.ensures (nothing_again c.args.text.now (no_parts c.args.text.now c.in_err-addr.ensures.none))

pub returns-in_err-prefix-clause-none : goal.returns-in_err-prefix-clause-none
returns-in_err-prefix-clause-none c =
    rw c.from_residual-in_err-prefix.ensures (prefix_not_made c.args.text.now c.in_ok-addr.addr c.in_ok-addr.len c.new.result c.in_ok-addr.ensures.some c.new.ensures c.in_err-prefix.was)

pub returns-in_err-prefix-clause-again : goal.returns-in_err-prefix-clause-again
returns-in_err-prefix-clause-again c =
    rw c.from_residual-in_err-prefix.ensures
    (nothing_again c.args.text.now (prefix_not_made c.args.text.now c.in_ok-addr.addr c.in_ok-addr.len c.new.result c.in_ok-addr.ensures.some c.new.ensures c.in_err-prefix.was))

-- some bit was cleared
not_same : (c : goal.Then-not-are_same) → c.in_ok-prefix.prefix.addr ≡ c.in_ok-addr.addr → ⊥
not_same c same = let yes = c.are_same.ensures.1 (c.addr.ensures.addr ∙ same) in let not = c.if-not-are_same.true in let no : ⊥ = cc in no

pub returns-then-not-are_same-clause-none : goal.returns-then-not-are_same-clause-none
returns-then-not-are_same-clause-none c =
    prefix_not_clear c.args.text.now c.in_ok-addr.addr c.in_ok-addr.len c.new.result c.in_ok-prefix.prefix c.in_ok-addr.ensures.some c.new.ensures c.in_ok-prefix.was (not_same c)

pub returns-then-not-are_same-clause-again : goal.returns-then-not-are_same-clause-again
returns-then-not-are_same-clause-again c =
    nothing_again c.args.text.now
    (prefix_not_clear c.args.text.now c.in_ok-addr.addr c.in_ok-addr.len c.new.result c.in_ok-prefix.prefix c.in_ok-addr.ensures.some c.new.ensures c.in_ok-prefix.was (not_same c))

pub returns-clause-spelled : goal.returns-clause-spelled
returns-clause-spelled c =
    (c.addr.ensures.is_subnet, prefix_spelled c.args.text.now c.in_ok-addr.addr c.in_ok-addr.len c.new.result c.in_ok-prefix.prefix c.in_ok-addr.ensures.some c.new.ensures c.in_ok-prefix.was (sym c.addr.ensures.addr ∙ c.are_same.ensures.0 c.if-not-are_same.false))

pub returns-clause-again : goal.returns-clause-again
returns-clause-again c = prefix_again c.args.text.now c.in_ok-addr.addr c.in_ok-addr.len c.new.result c.in_ok-prefix.prefix c.in_ok-addr.ensures.some c.new.ensures c.in_ok-prefix.was
