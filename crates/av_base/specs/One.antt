-- That exactly one thing has a property; every law that says so says it by these words.
use Rattle.std.specs.Prelude.{◌≡◌}

-- one thing has the property, and no other
pub record HasOne {A : Type 0} (P : A → Type 0) : Type 0 where
  pub one : A
  pub is : P one
  pub only : (other : A) → P other → other ≡ one

-- one pair of things stands in the relation, and no other
pub record HasOnePair {A B : Type 0} (R : A → B → Type 0) : Type 0 where
  pub one : A
  pub its : B
  pub is : R one its
  pub only : (other : A) (also : B) → R other also → (other ≡ one) × (also ≡ its)
