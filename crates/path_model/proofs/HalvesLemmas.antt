-- The order of halves is that of the addresses that they make.
use Rattle.std.proofs.Common.{◌≡◌, ℕ, ◌+◌, ◌*◌, ◌^◌, ◌<◌, Bool, true, false, refl, sym, ap, ◌∙◌, arith}
use Rattle.std.specs.Ordering.{nat_cmp, bool_cmp, ordering_then}
use Rattle.std.specs.declared.cmp.Ordering.{Ordering}
use Rattle.std.specs.declared.cmp.Ordering.TheVariants.{Less, Equal, Greater}
use Rattle.std.specs.Cmp.{nat_cmp_is}
use Rattle.std.proofs.lemmas.Grind.{common_steps}
use Rattle.path_model.specs.Prefix.{addr_cmp, subnet_cmp}
use Rattle.path_model.specs.Halves.{addr_from, AreHalves}

then_assoc : (a b c : Ordering) → ordering_then (ordering_then a b) c ≡ ordering_then a (ordering_then b c)
then_assoc Less b c = refl
then_assoc Equal b c = refl
then_assoc Greater b c = refl

-- the numbers that two halves make, compared
order_of : (r : Ordering) (h l k m : ℕ) → nat_cmp h k ≡ r → l < 2 ^ 64 → m < 2 ^ 64 → ordering_then r (nat_cmp l m) ≡ nat_cmp (h * 2 ^ 64 + l) (k * 2 ^ 64 + m)
order_of Less h l k m e p q = let less : h < k = grind (arith, common_steps) in nat_cmp_is (h * 2 ^ 64 + l) (k * 2 ^ 64 + m) Less (omega arith)
order_of Greater h l k m e p q = let less : k < h = grind (arith, common_steps) in nat_cmp_is (h * 2 ^ 64 + l) (k * 2 ^ 64 + m) Greater (omega arith)
order_of Equal h l k m e p q = let same : h ≡ k = grind (arith, common_steps) in low_order (nat_cmp l m) h l k m same refl
  where
    low_order : (r : Ordering) (h l k m : ℕ) → h ≡ k → nat_cmp l m ≡ r → r ≡ nat_cmp (h * 2 ^ 64 + l) (k * 2 ^ 64 + m)
    low_order Less h l k m same e = let less : l < m = grind (arith, common_steps) in nat_cmp_is (h * 2 ^ 64 + l) (k * 2 ^ 64 + m) Less (omega arith)
    low_order Greater h l k m same e = let less : m < l = grind (arith, common_steps) in nat_cmp_is (h * 2 ^ 64 + l) (k * 2 ^ 64 + m) Greater (omega arith)
    low_order Equal h l k m same e = let both : l ≡ m = grind (arith, common_steps) in nat_cmp_is (h * 2 ^ 64 + l) (k * 2 ^ 64 + m) Equal (omega arith)

halves_cmp : (s t : Bool) (h l k m : ℕ) → AreHalves s h l → AreHalves t k m → ordering_then (bool_cmp s t) (ordering_then (nat_cmp h k) (nat_cmp l m)) ≡ addr_cmp (addr_from s h l) (addr_from t k m)
halves_cmp false false h l k m p q = ap (λ (r : Ordering). ordering_then r (nat_cmp l m)) (sym (nat_cmp_is h k Equal (p ∙ sym q)))
halves_cmp false true h l k m p q = refl
halves_cmp true false h l k m p q = refl
halves_cmp true true h l k m p q = order_of (nat_cmp h k) h l k m refl p q

pub fields_cmp : (s t : Bool) (h l k m n o : ℕ) → AreHalves s h l → AreHalves t k m
    → ordering_then (ordering_then (ordering_then (bool_cmp s t) (nat_cmp h k)) (nat_cmp l m)) (nat_cmp n o) ≡ subnet_cmp (record { addr = addr_from s h l; len = n }) (record { addr = addr_from t k m; len = o })
fields_cmp s t h l k m n o p q = ap (λ (r : Ordering). ordering_then r (nat_cmp n o)) (then_assoc (bool_cmp s t) (nat_cmp h k) (nat_cmp l m) ∙ halves_cmp s t h l k m p q)

pub chained : (a b c d e f g h t u v : Ordering) → a ≡ e → b ≡ f → t ≡ ordering_then a b → c ≡ g → u ≡ ordering_then t c → d ≡ h → v ≡ ordering_then u d → v ≡ ordering_then (ordering_then (ordering_then e f) g) h
chained a b c d e f g h t u v p q r s w x y = cc
