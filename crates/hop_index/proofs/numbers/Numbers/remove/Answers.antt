use Rattle.std.proofs.Common.{ℕ, nat_eq, not, ◌&&◌, List, ap, sym, ◌∙◌, subst}
use Rattle.std.specs.BTreeMap.{is_at}
use Rattle.std.specs.List.Sorted.{IsStrictlySortedBy}
use Rattle.std.specs.Ordering.{nat_cmp}
use Rattle.hop_index.specs.Held.{numbers_held}
use Rattle.hop_index.specs.Numbers.{has_number}
use Rattle.hop_index.proofs.NumberLemmas.{number_removed, sorted_removed}
use Rattle.hop_index.proofs.numbers.Numbers.remove.Goals as goal

pub invariant_of-self : goal.invariant_of-self
invariant_of-self c = subst (IsStrictlySortedBy nat_cmp) (sym c.remove.ensures) (sorted_removed (is_at (nat_cmp c.args.number)) (numbers_held c.self.inside.held) c.self.invariant)

pub returns-clause-removed : goal.returns-clause-removed
returns-clause-removed c = λ n.
    ap (λ (xs : List ℕ). has_number xs n) c.remove.ensures ∙ number_removed c.args.number n (numbers_held c.self.inside.held) c.self.invariant
    ∙ ap (λ (xs : List ℕ). has_number xs n && not (nat_eq n c.args.number)) c.self.view_is

pub returns-clause-rising : goal.returns-clause-rising
returns-clause-rising c = invariant_of-self c
