-- Tests of facts, and of keys in an exact order.
use Rattle.std.proofs.Common.{◌≡◌, inl, inr, Bool, true, false, ◌||◌, List, [], ◌∷◌, refl, ap, sym, ◌∙◌, subst}
use Rattle.std.specs.Prelude.{Contains}
use Rattle.std.specs.BTreeMap.{is_at}
use Rattle.std.specs.Cmp.{Equal-is, IsTotalOrder, tied_itself}
use Rattle.std.specs.List.{list_any}
use Rattle.std.specs.Ordering.{eq_by_cmp, is_eq}
use Rattle.std.specs.declared.cmp.Ordering.{Ordering}
use Rattle.std.specs.declared.cmp.Ordering.TheVariants.{Equal}
use Rattle.std.proofs.lemmas.Map.Made.{Contains-tail}
use Rattle.std.proofs.lemmas.Map.Lookups.{CmpEqualImpliesEq}
use Rattle.path_model.proofs.Decide.{Decided}
use Rattle.listings.specs.TallySteps.{IsAmong}
use Rattle.listings.proofs.TallyCountLemmas.{any_member, in_head, in_none, in_tail, member_any}

-- whether a fact holds of which that can be found out
abbrev pub holds : {P : Type 0} → Decided P → Bool
holds (inl so) = true
holds (inr never) = false

pub holds_so : {P : Type 0} (d : Decided P) → holds d ≡ true → P
holds_so (inl so) e = so
holds_so (inr never) e = absurd cc

pub so_holds : {P : Type 0} (d : Decided P) → P → holds d ≡ true
so_holds (inl so) p = refl
so_holds (inr never) p = absurd (never p)

module _ {K : Type 0} {R : K → K → Ordering} (total : IsTotalOrder R) (exact : CmpEqualImpliesEq R) where
  pub itself : (k : K) → eq_by_cmp R k k ≡ true
  itself k = ap is_eq (tied_itself total k)

  pub same_by : (a b : K) → eq_by_cmp R a b ≡ true → a ≡ b
  same_by a b e = exact a b ((Equal-is (R a b)).0 e)

  pub same_or_other : (a b : K) → Decided (a ≡ b)
  same_or_other a b = by (eq_by_cmp R a b) refl where
    by : (r : Bool) → eq_by_cmp R a b ≡ r → Decided (a ≡ b)
    by true e = inl (same_by a b e)
    by false e = inr (λ same. let clash : true ≡ false = sym (itself a) ∙ ap (eq_by_cmp R a) same ∙ e in absurd cc)

  pub decided_in : (ks : List K) (k : K) → Decided (Contains ks k)
  decided_in [] k = inr (λ h. in_none k h)
  decided_in (x ∷ xs) k = elim (same_or_other x k) [
    | inl same ↦ inl (subst (λ (y : K). Contains (x ∷ xs) y) same (in_head x xs))
    | inr other ↦ elim (decided_in xs k) [
      | inl there ↦ inl (in_tail x xs k there)
      | inr none ↦ inr (λ h. none (Contains-tail x xs k other h))
    ]
  ]

  -- a key is among some exactly where they contain it
  pub among_in : (ks : List K) (k : K) → IsAmong R ks k → Contains ks k
  among_in ks k among =
      let found : (x : K) × Contains ks x × (is_at (R k) x ≡ true) = any_member (is_at (R k)) ks among in
      subst (λ (y : K). Contains ks y) (sym (same_by k found.0 found.2)) found.1

  pub in_among : (ks : List K) (k : K) → Contains ks k → IsAmong R ks k
  in_among ks k there = member_any (is_at (R k)) ks k there (itself k)
