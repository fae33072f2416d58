-- Labellings that fit, and tables that say the same.
use Rattle.std.proofs.Common.{◌≡◌, ℕ, ◌+◌, ◌<◌, true, List, length, get_or, sym, ap, ◌∙◌, arith}
use Rattle.path_model.specs.declared.role.Direction.{Direction}
use Rattle.path_model.specs.Authority.{Table, has, authority_of}
use Rattle.path_model.specs.Labelling.{Climbs, Descends, IsValid}
use Rattle.path_model.specs.RightVerdict.{IsCompletion, CanBeValid}
use Rattle.path_model.specs.Laws.{fullest, SameOnHops}
use Rattle.path_model.proofs.AuthorityLemmas.{has-at, filled, authority_of-fullest, IsCompletion-fullest, fullest_provides}

-- two tables, of which the second attests on the hops of a chain what the first does
pub record AttestsToo (one other : Table) (chain : List ℕ) : Type 0 where
  pub climbing : (k : ℕ) → k + 1 < length chain → Climbs one chain k → Climbs other chain k
  pub descending : (k : ℕ) → k + 1 < length chain → Descends one chain k → Descends other chain k

-- a labelling that fits the first fits the second
pub IsValid-more : (one other : Table) (direction : Direction) (chain : List ℕ) → AttestsToo one other chain → IsValid one direction chain
    → IsValid other direction chain
IsValid-more one other direction chain more valid = record {
  labelling = valid.labelling;
  fits = record {
    shape = valid.fits.shape;
    each_hop = valid.fits.each_hop;
    climbing = λ k below. more.climbing k (omega (arith, valid.fits.each_hop)) (valid.fits.climbing k below);
    descending = λ k from below. more.descending k (omega (arith, valid.fits.each_hop)) (valid.fits.descending k from below);
  };
}

pub AttestsToo-completion : (table : Table) (chain : List ℕ) (completed : Table) → IsCompletion table chain completed
    → AttestsToo completed (fullest table chain) chain
AttestsToo-completion table chain completed completion = record {
  climbing = λ k within. fullest_provides table chain completed completion (get_or chain k 0) (get_or chain (k + 1) 0) (has-at chain k (omega arith)) (has-at chain (k + 1) within);
  descending = λ k within. fullest_provides table chain completed completion (get_or chain (k + 1) 0) (get_or chain k 0) (has-at chain (k + 1) within) (has-at chain k (omega arith));
}

pub AttestsToo-same : (one other : Table) (chain : List ℕ) → SameOnHops one other chain → AttestsToo one other chain
AttestsToo-same one other chain same = record {
  climbing = λ k within climbs. sym (same.upward k within) ∙ climbs;
  descending = λ k within descends. sym (same.downward k within) ∙ descends;
}

pub SameOnHops-sym : (one other : Table) (chain : List ℕ) → SameOnHops one other chain → SameOnHops other one chain
SameOnHops-sym one other chain same = record {
  upward = λ k within. sym (same.upward k within);
  downward = λ k within. sym (same.downward k within);
}

same_filled : (one other : Table) (chain : List ℕ) (x y : ℕ) → has chain x ≡ true → has chain y ≡ true → authority_of one x y ≡ authority_of other x y
    → authority_of (fullest one chain) x y ≡ authority_of (fullest other chain) x y
same_filled one other chain x y x_in_chain y_in_chain same =
    authority_of-fullest one chain x y x_in_chain y_in_chain ∙ ap filled same ∙ sym (authority_of-fullest other chain x y x_in_chain y_in_chain)

-- tables that say the same of the hops have fullest completions that do
SameOnHops-fullest : (one other : Table) (chain : List ℕ) → SameOnHops one other chain
    → SameOnHops (fullest one chain) (fullest other chain) chain
SameOnHops-fullest one other chain same = record {
  upward = λ k within. same_filled one other chain (get_or chain k 0) (get_or chain (k + 1) 0) (has-at chain k (omega arith)) (has-at chain (k + 1) within) (same.upward k within);
  downward = λ k within. same_filled one other chain (get_or chain (k + 1) 0) (get_or chain k 0) (has-at chain (k + 1) within) (has-at chain k (omega arith)) (same.downward k within);
}

-- a path can be valid exactly where the fullest completion makes it valid
pub CanBeValid-fullest : (table : Table) (direction : Direction) (chain : List ℕ) → CanBeValid table direction chain
    → IsValid (fullest table chain) direction chain
CanBeValid-fullest table direction chain can = IsValid-more can.completed (fullest table chain) direction chain (AttestsToo-completion table chain can.completed can.completion) can.valid

pub fullest-CanBeValid : (table : Table) (direction : Direction) (chain : List ℕ) → IsValid (fullest table chain) direction chain
    → CanBeValid table direction chain
fullest-CanBeValid table direction chain valid = record { completed = fullest table chain; completion = IsCompletion-fullest table chain; valid = valid }

pub CanBeValid-same : (one other : Table) (direction : Direction) (chain : List ℕ) → SameOnHops one other chain → CanBeValid one direction chain
    → CanBeValid other direction chain
CanBeValid-same one other direction chain same can =
    let both = AttestsToo-same (fullest one chain) (fullest other chain) chain (SameOnHops-fullest one other chain same) in
    fullest-CanBeValid other direction chain (IsValid-more (fullest one chain) (fullest other chain) direction chain both (CanBeValid-fullest one direction chain can))
