-- The pairs under a prefix are forgotten one after another, from the first on.
use Rattle.std.proofs.Common.{◌≡◌, ℕ, ◌≤◌, Bool, true, false, cond, Some, None, refl, sym, ap, subst, ◌∙◌, arith, ◌⊎◌, inl, inr, true≢false}
use Rattle.std.specs.declared.cmp.Ordering.{Ordering}
use Rattle.std.specs.declared.cmp.Ordering.TheVariants.{Less, Equal, Greater}
use Rattle.std.specs.Prelude.{IfNone}
use Rattle.std.specs.declared.option.Option.{Option}
use Rattle.std.specs.BTreeMap.{is_at}
use Rattle.std.specs.Cmp.{nat_cmp_is}
use Rattle.std.specs.Option.{IsSome}
use Rattle.std.specs.Ordering.{nat_cmp, ordering_then, is_gt, is_le}
use Rattle.path_model.specs.Prefix.{Subnet, IsSubnet, subnet_cmp}
use Rattle.origin_model.specs.declared.origin_state.OriginState.{OriginState}
use Rattle.origin_model.specs.Covering.{Covers}
use Rattle.origin_validation.specs.Held.{Pair, Entries, pair_cmp, at, HasNoneUnder, IsApart, Keeps}
use Rattle.origin_validation.proofs.CoverLemmas.{covers_le, covers_mid, not_longer, then_le}

-- ---- the order of pairs, by their prefixes

le_from_not_gt : (o : Ordering) → is_gt o ≡ false → is_le o ≡ true
le_from_not_gt Less h = refl
le_from_not_gt Equal h = refl
le_from_not_gt Greater h = absurd (true≢false h)

not_gt_from_le : (o : Ordering) → is_le o ≡ true → is_gt o ≡ false
not_gt_from_le Less h = refl
not_gt_from_le Equal h = refl
not_gt_from_le Greater h = absurd (true≢false (sym h))

zero_or_more : (n : ℕ) → (n ≡ 0) ⊎ (1 ≤ n)
zero_or_more n = search arith

le_zero : (n : ℕ) → is_le (nat_cmp 0 n) ≡ true
le_zero n = elim (zero_or_more n) [
  | inl e ↦ ap is_le (sym (nat_cmp_is 0 n Equal (sym e)))
  | inr lt ↦ ap is_le (sym (nat_cmp_is 0 n Less lt))
]

le_pair : (o r : Ordering) → is_le o ≡ true → is_le r ≡ true → is_le (ordering_then o r) ≡ true
le_pair Less r h g = refl
le_pair Equal r h g = g
le_pair Greater r h g = h

-- a pair under the prefix isn't before the prefix with the least origin
pub under_from : (prefix : Subnet) (p : Pair) → Covers prefix p.0 → is_gt (pair_cmp (prefix, 0) p) ≡ false
under_from prefix p covers = not_gt_from_le (pair_cmp (prefix, 0) p) (le_pair (subnet_cmp prefix p.0) (nat_cmp 0 p.1) (covers_le prefix p.0 covers) (le_zero p.1))

-- where the prefix doesn't cover the first pair from there on, it covers none behind it
module _ (prefix : Subnet) (x : Pair) (is : IsSubnet x.0) (apart : ¬ Covers prefix x.0) (above : is_gt (pair_cmp (prefix, 0) x) ≡ false) where
  low : is_le (subnet_cmp prefix x.0) ≡ true
  low = then_le (subnet_cmp prefix x.0) (nat_cmp 0 x.1) (le_from_not_gt (pair_cmp (prefix, 0) x) above)

  pub none_behind : (p : Pair) → Covers prefix p.0 → is_gt (pair_cmp x p) ≡ false → ⊥
  none_behind p covers behind =
      let high = then_le (subnet_cmp x.0 p.0) (nat_cmp x.1 p.1) (le_from_not_gt (pair_cmp x p) behind) in
      let front = covers_mid prefix x.0 p.0 covers low high in
      apart (record { shorter = not_longer prefix x.0 is front low; front = front })

-- ---- one pair less

pub still_kept : (start before after : Entries) (pair : Pair) → Keeps (λ p. Unit {0}) start before → ((p : Pair) → at after p ≡ cond (is_at (pair_cmp pair) p) None (at before p))
    → Keeps (λ p. Unit {0}) start after
still_kept start before after pair k sets = record { each = λ p s is. k.each p s (by p s (is_at (pair_cmp pair) p) (sym (sets p) ∙ is)) } where
  by : (p : Pair) (s : OriginState) (b : Bool) → cond b None (at before p) ≡ Some s → at before p ≡ Some s
  by p s true is = let e : ◌≡◌ {A = Option OriginState} None (Some s) = is in absurd cc
  by p s false is = is

pub all_apart : (prefix : Subnet) (start now : Entries) → Keeps (λ p. Unit {0}) start now → HasNoneUnder now prefix → Keeps (IsApart prefix) start now
all_apart prefix start now k none = record { each = λ p s is. record { was = (k.each p s is).was; quiet = λ covers. none p s covers is } }

-- ---- what the range from the prefix on says

pub none_from : (prefix : Subnet) (held : Entries) → ((q : Pair) → (is_gt (pair_cmp (prefix, 0) q) ≡ false) × Unit {0} → at held q ≡ None) → HasNoneUnder held prefix
none_from prefix held none p state covers is = let e : ◌≡◌ {A = Option OriginState} None (Some state) = sym (none p (under_from prefix p covers, tt)) ∙ is in absurd cc

pub none_from_first : (prefix : Subnet) (held : Entries) (x : Pair) → IsSubnet x.0 → (¬ Covers prefix x.0) → is_gt (pair_cmp (prefix, 0) x) ≡ false
    → ((q : Pair) → (is_gt (pair_cmp (prefix, 0) q) ≡ false) × Unit {0} → IsSome (at held q) → is_gt (pair_cmp x q) ≡ false) → HasNoneUnder held prefix
none_from_first prefix held x is apart above first p state covers there =
    none_behind prefix x is apart above p covers (first p (under_from prefix p covers, tt) (subst (λ (o : Option OriginState). IsSome o) (sym there) refl))

-- what is so is so of nothing too
pub if_none : {A : Type 0} (o : Option A) (P : Type 0) → P → IfNone o P
if_none None P p = p
if_none (Some a) P p = tt
