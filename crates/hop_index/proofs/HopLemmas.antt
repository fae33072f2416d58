-- The test for a hop tells where two ASes stand beside each other.
use Rattle.std.proofs.Common.{◌≡◌, ℕ, zero, suc, nat_eq, ◌+◌, ◌-◌, ◌<◌, true, ◌&&◌, List, length, ap, sym, ◌∙◌, arith, true≢false, inl, inr}
use Rattle.std.specs.Prelude.{slice_index}
use Rattle.std.specs.Cmp.{nat_eq_equiv}
use Rattle.std.proofs.lemmas.Bool.{and_parts, and_from, or_cases, or_left, or_right, cases_lt}
use Rattle.std.proofs.lemmas.Map.Views.{exact_unsigned_eq}
use Rattle.hop_index.specs.Hops.{AreNeighbours, joins_at, joins_within, has_hop}

-- one of the hops is found
found_within : (hops : ℕ) (chain : List ℕ) (x y : ℕ) → joins_within hops chain x y ≡ true → (place : ℕ) × (place < hops) × (joins_at chain place x y ≡ true)
found_within zero chain x y h = absurd (true≢false (sym h))
found_within (suc hops) chain x y h =
    elim (or_cases (joins_within hops chain x y) (joins_at chain hops x y) h) [
      | inl earlier ↦ let p = found_within hops chain x y earlier in (p.0, omega (arith, p.1), p.2)
      | inr here ↦ (hops, omega arith, here)
    ]

-- and each that is there is
within_from : (hops : ℕ) (chain : List ℕ) (x y place : ℕ) → place < hops → joins_at chain place x y ≡ true → joins_within hops chain x y ≡ true
within_from zero chain x y place below h = absurd (omega arith)
within_from (suc hops) chain x y place below h =
    elim (cases_lt place hops) [
      | inl earlier ↦ or_left (joins_within hops chain x y) (joins_at chain hops x y) (within_from hops chain x y place earlier h)
      | inr last ↦
          let same : place ≡ hops = omega arith in
          or_right (joins_within hops chain x y) (joins_at chain hops x y) (ap (λ (p : ℕ). joins_at chain p x y) (sym same) ∙ h)
    ]

both : (x y a b : ℕ) → (nat_eq x a && nat_eq y b) ≡ true → (x ≡ a) × (y ≡ b)
both x y a b h =
    let p = and_parts (nat_eq x a) (nat_eq y b) h in
    (exact_unsigned_eq x a p.0, exact_unsigned_eq y b p.1)

both_from : (x y a b : ℕ) → x ≡ a → y ≡ b → (nat_eq x a && nat_eq y b) ≡ true
both_from x y a b ea eb =
    and_from (nat_eq x a) (nat_eq y b) (ap (nat_eq x) (sym ea) ∙ nat_eq_equiv.refl x) (ap (nat_eq y) (sym eb) ∙ nat_eq_equiv.refl y)

neighbours_from : (chain : List ℕ) (x y : ℕ) → has_hop chain x y ≡ true → AreNeighbours chain x y
neighbours_from chain x y h =
    let p = found_within (length chain - 1) chain x y h in
    let a : ℕ = slice_index chain p.0 in
    let b : ℕ = slice_index chain (p.0 + 1) in
    record {
      place = p.0;
      within = omega (arith, p.1);
      joined = elim (or_cases (nat_eq x a && nat_eq y b) (nat_eq x b && nat_eq y a) p.2) [
        | inl up ↦ inl (both x y a b up)
        | inr down ↦ inr (both x y b a down)
      ];
    }

neighbours_have : (chain : List ℕ) (x y : ℕ) → AreNeighbours chain x y → has_hop chain x y ≡ true
neighbours_have chain x y h =
    let a : ℕ = slice_index chain h.place in
    let b : ℕ = slice_index chain (h.place + 1) in
    let joined : joins_at chain h.place x y ≡ true = elim h.joined [
      | inl up ↦ or_left (nat_eq x a && nat_eq y b) (nat_eq x b && nat_eq y a) (both_from x y a b up.0 up.1)
      | inr down ↦ or_right (nat_eq x a && nat_eq y b) (nat_eq x b && nat_eq y a) (both_from x y b a down.0 down.1)
    ] in
    within_from (length chain - 1) chain x y h.place (omega (arith, h.within)) joined

pub hops_are_told : (chain : List ℕ) (x y : ℕ) → (has_hop chain x y ≡ true → AreNeighbours chain x y) × (AreNeighbours chain x y → has_hop chain x y ≡ true)
hops_are_told chain x y = (neighbours_from chain x y, neighbours_have chain x y)
