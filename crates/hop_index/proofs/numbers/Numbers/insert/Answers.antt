use Rattle.std.proofs.Common.{◌≢◌, ℕ, nat_eq, ◌||◌, List, [], ap, sym, ◌∙◌, subst}
use Rattle.std.specs.List.Sorted.{IsStrictlySortedBy}
use Rattle.std.specs.Ordering.{nat_cmp}
use Rattle.hop_index.specs.Held.{numbers_held}
use Rattle.hop_index.specs.Numbers.{has_number}
use Rattle.hop_index.proofs.NumberLemmas.{number_inserted, some_inserted, sorted_inserted}
use Rattle.hop_index.proofs.numbers.Numbers.insert.Goals as goal

pub invariant_of-self : goal.invariant_of-self
invariant_of-self c = subst (IsStrictlySortedBy nat_cmp) (sym c.in_err-insert.ensures.kept) c.self.invariant

pub invariant_of-self-2 : goal.invariant_of-self-2
invariant_of-self-2 c = subst (IsStrictlySortedBy nat_cmp) (sym c.in_ok-insert.ensures.inserted) (sorted_inserted c.args.number (numbers_held c.self.inside.held) c.self.invariant)

pub returns-clause-added : goal.returns-clause-added
returns-clause-added c = λ n.
    ap (λ (xs : List ℕ). has_number xs n) c.in_ok-insert.ensures.inserted ∙ number_inserted c.args.number n (numbers_held c.self.inside.held)
    ∙ ap (λ (xs : List ℕ). has_number xs n || nat_eq n c.args.number) c.self.view_is

pub returns-clause-some : goal.returns-clause-some
returns-clause-some c = subst (λ (xs : List ℕ). xs ≢ []) (sym c.in_ok-insert.ensures.inserted) (some_inserted c.args.number (numbers_held c.self.inside.held))

pub returns-clause-rising : goal.returns-clause-rising
returns-clause-rising c = invariant_of-self-2 c
