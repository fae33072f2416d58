-- The pair of two ASes is that of two others exactly where they are the same, in one order or the other.
use Rattle.std.proofs.Common.{◌≡◌, ℕ, nat_eq, Bool, true, false, ◌||◌, ◌&&◌, refl, ap, sym, ◌∙◌, arith, inl, inr, ◌⊎◌, ◌≢◌}
use Rattle.std.specs.Prelude.{min, max}
use Rattle.std.specs.BTreeMap.{is_at}
use Rattle.std.specs.Cmp.{nat_eq_equiv, unsigned_tied}
use Rattle.std.specs.declared.cmp.Ordering.{Ordering}
use Rattle.std.specs.declared.cmp.Ordering.TheVariants.{Less, Equal, Greater}
use Rattle.std.specs.Ordering.{nat_cmp, ordering_then, is_eq}
use Rattle.std.proofs.lemmas.Bool.{and_parts, and_from, or_cases, or_left, or_right}
use Rattle.std.proofs.lemmas.Map.Views.{exact_unsigned_eq}
use Rattle.hop_index.specs.declared.pair.Pair.{Pair}
use Rattle.hop_index.specs.Kept.{is_pair}
use Rattle.hop_index.specs.Pairs.{pair_of, pair_cmp}

pub same_test : (a b : Bool) → (a ≡ true → b ≡ true) → (b ≡ true → a ≡ true) → a ≡ b
same_test true true f g = refl
same_test true false f g = sym (f refl)
same_test false true f g = g refl
same_test false false f g = refl

is_eq_then : (o p : Ordering) → is_eq (ordering_then o p) ≡ (is_eq o && is_eq p)
is_eq_then Less p = refl
is_eq_then Equal p = refl
is_eq_then Greater p = refl

-- the map's test for a pair
pub pair_at : (pair p : Pair) → is_at (pair_cmp pair) p ≡ is_pair p pair
pair_at pair p = is_eq_then (nat_cmp pair.low p.low) (nat_cmp pair.high p.high)
    ∙ ap (λ (b : Bool). b && is_eq (nat_cmp pair.high p.high)) (unsigned_tied pair.low p.low ∙ nat_eq_equiv.symm pair.low p.low)
    ∙ ap (λ (b : Bool). nat_eq p.low pair.low && b) (unsigned_tied pair.high p.high ∙ nat_eq_equiv.symm pair.high p.high)

nat_eq-from : (a b : ℕ) → a ≡ b → nat_eq a b ≡ true
nat_eq-from a b e = ap (nat_eq a) (sym e) ∙ nat_eq_equiv.refl a

both : (x y a b : ℕ) → (nat_eq x a && nat_eq y b) ≡ true → (x ≡ a) × (y ≡ b)
both x y a b h =
    let p = and_parts (nat_eq x a) (nat_eq y b) h in
    (exact_unsigned_eq x a p.0, exact_unsigned_eq y b p.1)

both_from : (x y a b : ℕ) → x ≡ a → y ≡ b → (nat_eq x a && nat_eq y b) ≡ true
both_from x y a b ea eb = and_from (nat_eq x a) (nat_eq y b) (nat_eq-from x a ea) (nat_eq-from y b eb)

-- what stands in the pairs' places
joined_from : (x y a b : ℕ) → min x y ≡ min a b → max x y ≡ max a b → (x ≡ a) ⊎ (x ≢ a) → ((nat_eq x a && nat_eq y b) || (nat_eq x b && nat_eq y a)) ≡ true
joined_from x y a b low high (inl e) = or_left (nat_eq x a && nat_eq y b) (nat_eq x b && nat_eq y a) (both_from x y a b e (omega (arith, low, high, e)))
joined_from x y a b low high (inr e) =
    or_right (nat_eq x a && nat_eq y b) (nat_eq x b && nat_eq y a) (both_from x y b a (omega (arith, low, high, e)) (omega (arith, low, high, e)))

decide : (m n : ℕ) → (m ≡ n) ⊎ (m ≢ n)
decide m n = search arith

pair_is : (x y a b : ℕ) → ((nat_eq x a && nat_eq y b) || (nat_eq x b && nat_eq y a)) ≡ true → is_pair (pair_of x y) (pair_of a b) ≡ true
pair_is x y a b h = elim (or_cases (nat_eq x a && nat_eq y b) (nat_eq x b && nat_eq y a) h) [
  | inl up ↦ let e = both x y a b up in both_from (min x y) (max x y) (min a b) (max a b) (omega (arith, e.0, e.1)) (omega (arith, e.0, e.1))
  | inr down ↦ let e = both x y b a down in both_from (min x y) (max x y) (min a b) (max a b) (omega (arith, e.0, e.1)) (omega (arith, e.0, e.1))
]

pub pairs_told : (x y a b : ℕ) → is_pair (pair_of x y) (pair_of a b) ≡ ((nat_eq x a && nat_eq y b) || (nat_eq x b && nat_eq y a))
pairs_told x y a b = same_test (is_pair (pair_of x y) (pair_of a b)) ((nat_eq x a && nat_eq y b) || (nat_eq x b && nat_eq y a))
    (λ h. let e = both (min x y) (max x y) (min a b) (max a b) h in joined_from x y a b e.0 e.1 (decide x a))
    (pair_is x y a b)

-- the same pair
pub same_pair : (p q : Pair) → is_pair p q ≡ true → p ≡ q
same_pair p q h =
    let e = both p.low p.high q.low q.high h in
    let low : ℕ → Pair = λ n. record { low = n; high = p.high } in
    let high : ℕ → Pair = λ n. record { low = q.low; high = n } in
    ap low e.0 ∙ ap high e.1

pub pair_itself : (p : Pair) → is_pair p p ≡ true
pair_itself p = both_from p.low p.high p.low p.high refl refl
