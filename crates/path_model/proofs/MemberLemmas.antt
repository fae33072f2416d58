-- What a list of ASes has, by its parts.
use Rattle.std.proofs.Common.{◌≡◌, ℕ, nat_eq, Bool, true, false, not, ◌&&◌, ◌||◌, cond, List, [], ◌∷◌, ◌++◌, refl, sym, ap, ◌∙◌, rules}
use Rattle.std.specs.List.{filter}
use Rattle.std.proofs.Math.Bool.{or_assoc, and-false}
use Rattle.std.proofs.lemmas.Grind.{common_steps}
use Rattle.path_model.specs.Authority.{has}

-- a list of two parts has what either part has
pub has-append : (xs ys : List ℕ) (y : ℕ) → has (xs ++ ys) y ≡ has xs y || has ys y
has-append [] ys y = refl
has-append (x ∷ xs) ys y = ap (λ (b : Bool). nat_eq x y || b) (has-append xs ys y) ∙ sym (or_assoc (nat_eq x y) (has xs y) (has ys y))

same_sign : (x y : ℕ) → nat_eq x y ≡ true → not (nat_eq x 0) ≡ not (nat_eq y 0)
same_sign x y same = let e : x ≡ y = search (rules, common_steps) in ap (λ (n : ℕ). not (nat_eq n 0)) e

nonzero_step : (kept same : Bool) (x y : ℕ) (rest : List ℕ) (before nonzero : Bool) → nat_eq x y ≡ same → (same ≡ true → kept ≡ nonzero) → has rest y ≡ before && nonzero → has (cond kept (x ∷ rest) rest) y ≡ (same || before) && nonzero
nonzero_step true true x y rest before nonzero is agrees had = ap (λ (b : Bool). b || has rest y) is ∙ agrees refl
nonzero_step true false x y rest before nonzero is agrees had = ap (λ (b : Bool). b || has rest y) is ∙ had
nonzero_step false true x y rest before nonzero is agrees had = had ∙ ap (λ (b : Bool). before && b) (sym (agrees refl)) ∙ and-false before ∙ agrees refl
nonzero_step false false x y rest before nonzero is agrees had = had

-- a list less 0 has what the list has, less 0
pub has-nonzero : (xs : List ℕ) (y : ℕ) → has (filter (λ z. not (nat_eq z 0)) xs) y ≡ has xs y && not (nat_eq y 0)
has-nonzero [] y = refl
has-nonzero (x ∷ xs) y =
    nonzero_step (not (nat_eq x 0)) (nat_eq x y) x y (filter (λ z. not (nat_eq z 0)) xs) (has xs y) (not (nat_eq y 0)) refl (same_sign x y) (has-nonzero xs y)
