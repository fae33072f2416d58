use Rattle.std.proofs.Common.{◌≡◌, ◌∙◌, ℕ, List, sym, Some, None}
use Rattle.path_model.specs.Prefix.{Subnet}
use Rattle.any_prefix.specs.AnyPrefix.{IsAnyPrefixText}
use Rattle.any_prefix.proofs.UniqueLemmas.{prefix_parts, prefix_made, not_made, not_clear}
use Rattle.any_prefix.proofs.prefix.read_any_prefix.Goals as goal

pub returns-in_err-addr-clause-none : goal.returns-in_err-addr-clause-none
returns-in_err-addr-clause-none c = rw c.from_residual.ensures (λ prefix is. c.in_err-addr.ensures.none prefix.addr prefix.len (prefix_parts c.args.text.now prefix is))

pub returns-in_err-prefix-clause-none : goal.returns-in_err-prefix-clause-none
returns-in_err-prefix-clause-none c =
    rw c.from_residual-in_err-prefix.ensures (not_made c.args.text.now c.in_ok-addr.addr c.in_ok-addr.len c.new.result c.in_ok-addr.ensures.some c.new.ensures c.in_err-prefix.was)

-- some bit was cleared
not_same : (c : goal.Then-not-are_same) → c.in_ok-prefix.prefix.addr ≡ c.in_ok-addr.addr → ⊥
not_same c same = let yes = c.are_same.ensures.1 (c.addr.ensures.addr ∙ same) in let not = c.if-not-are_same.true in let no : ⊥ = cc in no

pub returns-then-not-are_same-clause-none : goal.returns-then-not-are_same-clause-none
returns-then-not-are_same-clause-none c =
    not_clear c.args.text.now c.in_ok-addr.addr c.in_ok-addr.len c.new.result c.in_ok-prefix.prefix c.in_ok-addr.ensures.some c.new.ensures c.in_ok-prefix.was (not_same c)

nothing_one : (text : List ℕ) → ((prefix : Subnet) → IsAnyPrefixText text prefix → ⊥) → (prefix : Subnet) → IsAnyPrefixText text prefix → None ≡ Some prefix
nothing_one text none prefix is = absurd (none prefix is)

pub returns-in_err-addr-clause-one : goal.returns-in_err-addr-clause-one
returns-in_err-addr-clause-one c = rw c.from_residual.ensures (nothing_one c.args.text.now (λ prefix is. c.in_err-addr.ensures.none prefix.addr prefix.len (prefix_parts c.args.text.now prefix is)))

pub returns-in_err-prefix-clause-one : goal.returns-in_err-prefix-clause-one
returns-in_err-prefix-clause-one c = rw c.from_residual-in_err-prefix.ensures
    (nothing_one c.args.text.now (not_made c.args.text.now c.in_ok-addr.addr c.in_ok-addr.len c.new.result c.in_ok-addr.ensures.some c.new.ensures c.in_err-prefix.was))

pub returns-then-not-are_same-clause-one : goal.returns-then-not-are_same-clause-one
returns-then-not-are_same-clause-one c = nothing_one c.args.text.now
    (not_clear c.args.text.now c.in_ok-addr.addr c.in_ok-addr.len c.new.result c.in_ok-prefix.prefix c.in_ok-addr.ensures.some c.new.ensures c.in_ok-prefix.was (not_same c))

pub returns-clause-one : goal.returns-clause-one
returns-clause-one c = λ prefix is. sym c.in_ok-prefix.was ∙ c.new.ensures ∙ (prefix_made c.args.text.now c.in_ok-addr.addr c.in_ok-addr.len prefix c.in_ok-addr.ensures.some is).0
