-- Facts of which it can be found out whether they hold.
use Rattle.std.proofs.Common.{◌≡◌, ℕ, Bool, true, false, List, [], ◌∷◌, ◌⊎◌, inl, inr, refl, ap, arith}
use Rattle.std.specs.declared.option.Option.{Option}
use Rattle.std.specs.declared.option.Option.TheVariants.{Some, None}
use Rattle.path_model.specs.declared.authority.Authority.{Authority}
use Rattle.path_model.specs.declared.authority.Authority.TheVariants.{Silent, Refuses, Provides}

-- the fact, or that it doesn't hold
abbrev pub Decided : Type 0 → Type 0
Decided P = P ⊎ (P → ⊥)

-- whether one fact holds or another
pub decided_either : {P Q : Type 0} → Decided P → Decided Q → Decided (P ⊎ Q)
decided_either (inl p) q = inl (inl p)
decided_either (inr no_p) (inl q) = inl (inr q)
decided_either (inr no_p) (inr no_q) = inr (elim [ inl p ↦ no_p p | inr q ↦ no_q q ])

-- whether both hold
pub decided_both : {P Q : Type 0} → Decided P → Decided Q → Decided (P × Q)
decided_both (inl p) (inl q) = inl (p, q)
decided_both (inl p) (inr no_q) = inr (λ both. no_q both.1)
decided_both (inr no_p) q = inr (λ both. no_p both.0)

-- whether a fact fails
pub decided_not : {P : Type 0} → Decided P → Decided (P → ⊥)
decided_not (inl holds) = inr (λ fails. fails holds)
decided_not (inr fails) = inl fails

-- whether a list is empty
pub decided_empty : (xs : List ℕ) → Decided (xs ≡ [])
decided_empty [] = inl refl
decided_empty (x ∷ xs) = inr (λ same. cc)

-- whether a test succeeds
pub decided_true : (b : Bool) → Decided (b ≡ true)
decided_true true = inl refl
decided_true false = inr (λ same. cc)

same_or_not : (m n : ℕ) → Decided (m ≡ n)
same_or_not m n = grind arith

-- whether what was found is this number
pub decided_some_is : (found : Option ℕ) (n : ℕ) → Decided (found ≡ Some n)
decided_some_is None n = inr (λ same. cc)
decided_some_is (Some m) n = elim (same_or_not m n) [ inl same ↦ inl (ap Some same) | inr other ↦ inr (λ same. other (cc)) ]

-- whether the authority is that of a provider
pub decided_provides : (authority : Authority) → Decided (authority ≡ Provides)
decided_provides Silent = inr (λ same. cc)
decided_provides Refuses = inr (λ same. cc)
decided_provides Provides = inl refl

-- whether it is a refusal
pub decided_refuses : (authority : Authority) → Decided (authority ≡ Refuses)
decided_refuses Silent = inr (λ same. cc)
decided_refuses Refuses = inl refl
decided_refuses Provides = inr (λ same. cc)
