-- What is held of each pair, and what an event leaves of it.
use Rattle.std.proofs.Common.{◌≡◌, ℕ, Bool, true, false, cond, Some, None, refl, sym, ap, subst, ◌∙◌}
use Rattle.std.specs.declared.cmp.Ordering.{Ordering}
use Rattle.std.specs.declared.cmp.Ordering.TheVariants.{Less, Equal, Greater}
use Rattle.std.specs.declared.option.Option.{Option}
use Rattle.std.specs.BTreeMap.{is_at}
use Rattle.std.specs.Cmp.{Equal-is}
use Rattle.std.specs.Option.{unwrap_or}
use Rattle.std.specs.Ordering.{nat_cmp, ordering_then}
use Rattle.std.proofs.lemmas.Map.Lookups.{CmpEqualImpliesEq, exact_unsigned}
use Rattle.path_model.specs.Prefix.{Subnet, subnet_cmp}
use Rattle.path_model.proofs.OrderLemmas.{subnet_exact}
use Rattle.origin_model.specs.declared.origin_state.OriginState.{OriginState}
use Rattle.origin_model.specs.declared.origin_state.OriginState.TheVariants.{Valid, Invalid, NotFound}
use Rattle.origin_model.specs.Current.{Parts, IsCurrent}
use Rattle.origin_model.specs.OriginState.{Matching, HasState}
use Rattle.origin_model.specs.Vrp.{Payload}
use Rattle.origin_model.proofs.StateLemmas.{Goes, has_like}
use Rattle.origin_validation.specs.Held.{Pair, Entries, pair_cmp, at, AreRight, IsRight, Keeps}

-- ---- pairs in their order

both_equal : (a b : Ordering) → ordering_then a b ≡ Equal → (a ≡ Equal) × (b ≡ Equal)
both_equal Less b e = absurd cc
both_equal Equal b e = (refl, e)
both_equal Greater b e = absurd cc

pub pair_exact : CmpEqualImpliesEq pair_cmp
pair_exact a b e =
    let parts = both_equal (subnet_cmp a.0 b.0) (nat_cmp a.1 b.1) e in
    let prefix = subnet_exact a.0 b.0 parts.0 in
    let origin = exact_unsigned a.1 b.1 parts.1 in
    λ i. (prefix i, origin i)

pub same_pair : (a b : Pair) → is_at (pair_cmp a) b ≡ true → a ≡ b
same_pair a b h = pair_exact a b ((Equal-is (pair_cmp a b)).0 h)

-- ---- one origin less

no_zero : (Is : Payload → Type 0) (prefix : Subnet) → Matching Is prefix (Some 0) → ⊥
no_zero Is prefix m = m.matches.somebody (sym (ap (λ (o : Option ℕ). unwrap_or o 0) m.matches.from))

no_none : (Is : Payload → Type 0) (prefix : Subnet) → Matching Is prefix None → ⊥
no_none Is prefix m = let e : ◌≡◌ {A = Option ℕ} None (Some m.payload.asn) = m.matches.from in absurd cc

-- AS 0 originates nothing, so 0 may stand for no origin
pub origin_like : (Is : Payload → Type 0) (prefix : Subnet) (o : Option ℕ) (s : OriginState) → HasState Is prefix (Some (unwrap_or o 0)) s → HasState Is prefix o s
origin_like Is prefix (Some n) s h = h
origin_like Is prefix None Valid h = absurd (no_zero Is prefix h)
origin_like Is prefix None Invalid h = (no_none Is prefix, h.1)
origin_like Is prefix None NotFound h = h

-- ---- what is kept

pub keeps_itself : (Q : Pair → Type 0) (es fs : Entries) → fs ≡ es → ((p : Pair) → Q p) → Keeps Q es fs
keeps_itself Q es fs same q = record { each = λ p s is. record { was = ap (λ (gs : Entries). at gs p) (sym same) ∙ is; quiet = q p } }

pub keeps_weaker : (Q R : Pair → Type 0) (es fs : Entries) → ((p : Pair) → Q p → R p) → Keeps Q es fs → Keeps R es fs
keeps_weaker Q R es fs to k = record { each = λ p s is. let kept = k.each p s is in record { was = kept.was; quiet = to p kept.quiet } }

-- one event and then another
pub keeps_then : (Q R : Pair → Type 0) (es fs gs : Entries) → Keeps Q es fs → Keeps R fs gs → Keeps (λ p. Q p × R p) es gs
keeps_then Q R es fs gs f g = record {
  each = λ p s is.
      let later = g.each p s is in
      let before = f.each p s later.was in
      record { was = before.was; quiet = (before.quiet, later.quiet) };
}

-- what is kept is right by the new payloads, where those that cover a pair that is kept are the same by both
pub kept_right : (old new : Parts) (es fs : Entries) (Q : Pair → Type 0) → AreRight old es → Keeps Q es fs
    → ((p : Pair) → Q p → Goes p.0 (IsCurrent old) (IsCurrent new) × Goes p.0 (IsCurrent new) (IsCurrent old)) → AreRight new fs
kept_right old new es fs Q right k same = record {
  each = λ p s is.
      let kept = k.each p s is in
      let goes = same p kept.quiet in
      has_like p.0 (Some p.1) (IsCurrent old) (IsCurrent new) s goes.0 goes.1 (right.each p s kept.was);
}

-- one state more
pub more_right : (parts : Parts) (es fs : Entries) (pair : Pair) (state : OriginState) → ((p : Pair) → at fs p ≡ cond (is_at (pair_cmp pair) p) (Some state) (at es p))
    → IsRight parts pair state → AreRight parts es → AreRight parts fs
more_right parts es fs pair state sets here right = record { each = λ p s is. by p s (is_at (pair_cmp pair) p) refl (sym (sets p) ∙ is) } where
  by : (p : Pair) (s : OriginState) (b : Bool) → is_at (pair_cmp pair) p ≡ b → cond b (Some state) (at es p) ≡ Some s → IsRight parts p s
  by p s true e is = subst (λ (q : Pair). IsRight parts q s) (same_pair pair p e) (subst (IsRight parts pair) (ap (λ (o : Option OriginState). unwrap_or o s) is) here)
  by p s false e is = right.each p s is
