-- Payloads in their order, and those of one prefix.
use Rattle.std.proofs.Common.{◌≡◌, ℕ, ◌<◌, ◌≤◌, Bool, true, false, cond, not, ◌||◌, ◌&&◌, List, [], ◌∷◌, refl, sym, ap, subst, ◌∙◌, arith, ◌⊎◌, inl, inr, true≢false}
use Rattle.std.specs.declared.cmp.Ordering.{Ordering}
use Rattle.std.specs.declared.cmp.Ordering.TheVariants.{Less, Equal, Greater}
use Rattle.std.specs.declared.ops.Bound.TheVariants.{Included}
use Rattle.std.specs.BTreeMap.{is_at}
use Rattle.std.specs.BTreeMap.Range.{range_contains}
use Rattle.std.specs.Cmp.{Equal-is, nat_cmp_is}
use Rattle.std.specs.List.{list_any, filter}
use Rattle.std.specs.Ordering.{nat_cmp, ordering_then, is_le, is_lt}
use Rattle.std.proofs.lemmas.Bool.{or_cases, or_left, or_right}
use Rattle.std.proofs.lemmas.Map.Lookups.{CmpEqualImpliesEq, exact_unsigned}
use Rattle.std.proofs.lemmas.Map.Views.{any-filter_same}
use Rattle.path_model.specs.Order.{subnet_total}
use Rattle.path_model.specs.Prefix.{Subnet, bits_of, subnet_cmp}
use Rattle.path_model.proofs.OrderLemmas.{subnet_exact}
use Rattle.origin_model.specs.Vrp.{Payload, IsPayload, payload_cmp, payload_total, least_of, greatest_of}
use Rattle.origin_model.specs.VrpSet.{ArePayloads, has, IsLastBefore}

pub both_equal : (a b : Ordering) → ordering_then a b ≡ Equal → (a ≡ Equal) × (b ≡ Equal)
both_equal Less b e = absurd cc
both_equal Equal b e = (refl, e)
both_equal Greater b e = absurd cc

-- the order tells different payloads apart
pub payload_exact : CmpEqualImpliesEq payload_cmp
payload_exact a b e =
    let outer = both_equal (ordering_then (subnet_cmp a.prefix b.prefix) (nat_cmp a.max b.max)) (nat_cmp a.asn b.asn) e in
    let inner = both_equal (subnet_cmp a.prefix b.prefix) (nat_cmp a.max b.max) outer.0 in
    let prefix = subnet_exact a.prefix b.prefix inner.0 in
    let max = exact_unsigned a.max b.max inner.1 in
    let asn = exact_unsigned a.asn b.asn outer.1 in
    λ i. record { prefix = prefix i; max = max i; asn = asn i }

pub same_payload : (a b : Payload) → is_at (payload_cmp a) b ≡ true → a ≡ b
same_payload a b h = payload_exact a b ((Equal-is (payload_cmp a b)).0 h)

pub payload_itself : (a : Payload) → is_at (payload_cmp a) a ≡ true
payload_itself a = (Equal-is (payload_cmp a a)).1 (itself (payload_cmp a a) (payload_total.antisymm a a)) where
  itself : (o : Ordering) → o ≡ Rattle.std.specs.Ordering.ordering_reverse o → o ≡ Equal
  itself Less e = absurd cc
  itself Equal e = refl
  itself Greater e = absurd cc

pub or_cond : (a b : Bool) → cond a true b ≡ (a || b)
or_cond true b = refl
or_cond false b = refl

pub and_cond : (a b : Bool) → cond a false b ≡ (not a && b)
and_cond true b = refl
and_cond false b = refl

pub none_are : (payloads : List Payload) → payloads ≡ [] → ArePayloads payloads
none_are payloads none = record { each = λ v h. absurd (true≢false (sym h ∙ ap (λ (vs : List Payload). has vs v) none)) }

-- one more, one less
pub more_are : (before after : List Payload) (v : Payload) → IsPayload v → ((q : Payload) → has after q ≡ cond (is_at (payload_cmp v) q) true (has before q)) → ArePayloads before → ArePayloads after
more_are before after v is updates are = record {
  each = λ q h. elim (or_cases (is_at (payload_cmp v) q) (has before q) (sym (or_cond (is_at (payload_cmp v) q) (has before q)) ∙ sym (updates q) ∙ h)) [
    | inl same ↦ subst IsPayload (same_payload v q same) is
    | inr held ↦ are.each q held
  ];
}

pub fewer_are : (before after : List Payload) (v : Payload) → ((q : Payload) → has after q ≡ cond (is_at (payload_cmp v) q) false (has before q)) → ArePayloads before → ArePayloads after
fewer_are before after v updates are = record { each = λ q h. by q (is_at (payload_cmp v) q) (sym (updates q) ∙ h) } where
  by : (q : Payload) (b : Bool) → cond b false (has before q) ≡ true → IsPayload q
  by q true h = absurd (true≢false (sym h))
  by q false h = are.each q h

-- ---- the first of a list, and the others

pub has_first : (v w : Payload) (ws : List Payload) → has (w ∷ ws) v ≡ true → (v ≡ w) ⊎ (has ws v ≡ true)
has_first v w ws h = elim (or_cases (is_at (payload_cmp v) w) (has ws v) h) [ inl here ↦ inl (same_payload v w here) | inr later ↦ inr later ]

pub first_has : (v w : Payload) (ws : List Payload) → (v ≡ w) ⊎ (has ws v ≡ true) → has (w ∷ ws) v ≡ true
first_has v w ws h = elim h [
  | inl e ↦ or_left (is_at (payload_cmp v) w) (has ws v) (subst (λ (u : Payload). is_at (payload_cmp v) u ≡ true) e (payload_itself v))
  | inr later ↦ or_right (is_at (payload_cmp v) w) (has ws v) later
]

-- ---- those of one prefix
within_next : (q v : Payload) (b : Bool) (ws vs : List Payload) → (has ws q ≡ true → has vs q ≡ true) → has (cond b (v ∷ ws) ws) q ≡ true → (is_at (payload_cmp q) v || has vs q) ≡ true
within_next q v true ws vs more h = elim (or_cases (is_at (payload_cmp q) v) (has ws q) h) [
  | inl here ↦ or_left (is_at (payload_cmp q) v) (has vs q) here
  | inr later ↦ or_right (is_at (payload_cmp q) v) (has vs q) (more later)
]
within_next q v false ws vs more h = or_right (is_at (payload_cmp q) v) (has vs q) (more h)

filtered_within : (q : Payload) (p : Payload → Bool) (vs : List Payload) → has (filter p vs) q ≡ true → has vs q ≡ true
filtered_within q p [] h = h
filtered_within q p (v ∷ vs) h = within_next q v (p v) (filter p vs) vs (filtered_within q p vs) h

abbrev in_prefix : Subnet → Payload → Bool
in_prefix p = range_contains payload_cmp (Included (least_of p)) (Included (greatest_of p))

pub subnet_itself : (p : Subnet) → subnet_cmp p p ≡ Equal
subnet_itself p = itself (subnet_cmp p p) (subnet_total.antisymm p p) where
  itself : (o : Ordering) → o ≡ Rattle.std.specs.Ordering.ordering_reverse o → o ≡ Equal
  itself Less e = absurd cc
  itself Equal e = refl
  itself Greater e = absurd cc

less_or_same : (a b : ℕ) → a ≤ b → (a < b) ⊎ (a ≡ b)
less_or_same a b le = search arith

not_below : (a b : ℕ) → a ≤ b → is_le (nat_cmp a b) ≡ true
not_below a b le = elim (less_or_same a b le) [
  | inl lt ↦ ap is_le (sym (nat_cmp_is a b Less lt))
  | inr e ↦ ap is_le (sym (nat_cmp_is a b Equal e))
]

not_above : (a b : ℕ) → b ≤ a → is_lt (nat_cmp a b) ≡ false
not_above a b le = elim (less_or_same b a le) [
  | inl lt ↦ ap is_lt (sym (nat_cmp_is a b Greater lt))
  | inr e ↦ ap is_lt (sym (nat_cmp_is a b Equal (sym e)))
]

from_least : (a b : ℕ) (o : Ordering) → a ≤ b → is_le o ≡ true → is_le (ordering_then (nat_cmp a b) o) ≡ true
from_least a b o le other = elim (less_or_same a b le) [
  | inl lt ↦ ap (λ (r : Ordering). is_le (ordering_then r o)) (sym (nat_cmp_is a b Less lt))
  | inr e ↦ ap (λ (r : Ordering). is_le (ordering_then r o)) (sym (nat_cmp_is a b Equal e)) ∙ other
]

to_greatest : (a b : ℕ) (o : Ordering) → b ≤ a → is_lt o ≡ false → is_lt (ordering_then (nat_cmp a b) o) ≡ false
to_greatest a b o le other = elim (less_or_same b a le) [
  | inl lt ↦ ap (λ (r : Ordering). is_lt (ordering_then r o)) (sym (nat_cmp_is a b Greater lt))
  | inr e ↦ ap (λ (r : Ordering). is_lt (ordering_then r o)) (sym (nat_cmp_is a b Equal (sym e))) ∙ other
]

-- each payload of the prefix is between the least and the greatest one
lies_within : (v : Payload) → IsPayload v → in_prefix v.prefix v ≡ true
lies_within v is =
    let start : is_le (payload_cmp (least_of v.prefix) v) ≡ true =
    ap (λ (o : Ordering). is_le (ordering_then (ordering_then o (nat_cmp v.prefix.len v.max)) (nat_cmp 0 v.asn))) (subnet_itself v.prefix)
    ∙ from_least v.prefix.len v.max (nat_cmp 0 v.asn) is.reaches (not_below 0 v.asn (omega arith)) in
    let end : is_lt (payload_cmp (greatest_of v.prefix) v) ≡ false =
    ap (λ (o : Ordering). is_lt (ordering_then (ordering_then o (nat_cmp (bits_of v.prefix.addr) v.max)) (nat_cmp 4294967295 v.asn))) (subnet_itself v.prefix)
    ∙ to_greatest (bits_of v.prefix.addr) v.max (nat_cmp 4294967295 v.asn) is.within (not_above 4294967295 v.asn (omega (arith, is.asn))) in
    ap (λ (b : Bool). b && not (is_lt (payload_cmp (greatest_of v.prefix) v))) start ∙ ap not end

-- and what is between them is of the prefix
same_subnet : (s m a n b : Ordering) → (is_le (ordering_then (ordering_then s m) a) && not (is_lt (ordering_then (ordering_then s n) b))) ≡ true → s ≡ Equal
same_subnet Less m a n b h = absurd cc
same_subnet Equal m a n b h = refl
same_subnet Greater m a n b h = absurd cc

of_prefix : (p : Subnet) (v : Payload) → in_prefix p v ≡ true → v.prefix ≡ p
of_prefix p v h = sym (subnet_exact p v.prefix (same_subnet (subnet_cmp p v.prefix) (nat_cmp p.len v.max) (nat_cmp 0 v.asn) (nat_cmp (bits_of p.addr) v.max) (nat_cmp 4294967295 v.asn) h))

passed_by : (p : Payload → Bool) (v w : Payload) (ws : List Payload) (b : Bool) → p w ≡ b → (has ws v ≡ true → p v ≡ true) → has (cond b (w ∷ ws) ws) v ≡ true → p v ≡ true
passed_by p v w ws true passes more h = elim (or_cases (is_at (payload_cmp v) w) (has ws v) h) [
  | inl here ↦ ap p (same_payload v w here) ∙ passes
  | inr later ↦ more later
]
passed_by p v w ws false fails more h = more h

-- what stands in a filtered list passed
filtered_passed : (p : Payload → Bool) (v : Payload) (vs : List Payload) → has (filter p vs) v ≡ true → p v ≡ true
filtered_passed p v [] h = absurd (true≢false (sym h))
filtered_passed p v (w ∷ vs) h = passed_by p v w (filter p vs) (p w) refl (filtered_passed p v vs) h

module _ (p : Subnet) (keys all : List Payload) (same : keys ≡ all) (are : ArePayloads keys) (some : List Payload) (start end : Payload) (first : start ≡ least_of p) (last : end ≡ greatest_of p)
    (is : some ≡ filter (range_contains payload_cmp (Included start) (Included end)) keys) where
  some_is : some ≡ filter (in_prefix p) keys
  some_is = is ∙ ap (λ (v : Payload). filter (range_contains payload_cmp (Included v) (Included end)) keys) first ∙ ap (λ (v : Payload). filter (range_contains payload_cmp (Included (least_of p)) (Included v)) keys) last

  pub some_within : (v : Payload) → has some v ≡ true → has all v ≡ true
  some_within v h = ap (λ (vs : List Payload). has vs v) (sym same) ∙ filtered_within v (in_prefix p) keys (ap (λ (vs : List Payload). has vs v) (sym some_is) ∙ h)

  pub some_all : (v : Payload) → v.prefix ≡ p → has all v ≡ true → has some v ≡ true
  some_all v e h =
      let there : has keys v ≡ true = ap (λ (vs : List Payload). has vs v) same ∙ h in
      ap (λ (vs : List Payload). has vs v) some_is
      ∙ any-filter_same (is_at (payload_cmp v)) (in_prefix p) true
      (λ k alike. ap (in_prefix p) (sym (same_payload v k alike)) ∙ subst (λ (q : Subnet). in_prefix q v ≡ true) e (lies_within v (are.each v there))) keys
      ∙ there

  pub some_only : (v : Payload) → has some v ≡ true → v.prefix ≡ p
  some_only v h = of_prefix p v (filtered_passed (in_prefix p) v keys (ap (λ (vs : List Payload). has vs v) (sym some_is) ∙ h))

-- ---- the last before a prefix

-- by prefix first
not_below_prefix : (s m a : Ordering) → is_lt (ordering_then (ordering_then s m) a) ≡ false → is_lt s ≡ false
not_below_prefix Less m a h = h
not_below_prefix Equal m a h = refl
not_below_prefix Greater m a h = refl

before_least : (v : Payload) (p : Subnet) → subnet_cmp v.prefix p ≡ Less → payload_cmp v (least_of p) ≡ Less
before_least v p h = ap (λ (s : Ordering). ordering_then (ordering_then s (nat_cmp v.max p.len)) (nat_cmp v.asn 0)) h

module _ (p : Subnet) (x : Payload) (is : IsPayload x) where
  least_by : (s : Ordering) → subnet_cmp x.prefix p ≡ s → ordering_then (ordering_then s (nat_cmp x.max p.len)) (nat_cmp x.asn 0) ≡ Less → s ≡ Less
  least_by Less e h = refl
  least_by Equal e h =
      let same = subnet_exact x.prefix p e in
      let reaches = subst (λ (q : Subnet). q.len ≤ x.max) same is.reaches in
      absurd (true≢false (sym (ap is_lt h) ∙ to_greatest x.max p.len (nat_cmp x.asn 0) reaches (not_above x.asn 0 (omega arith))))
  least_by Greater e h = absurd cc

  least_before : payload_cmp x (least_of p) ≡ Less → subnet_cmp x.prefix p ≡ Less
  least_before h = least_by (subnet_cmp x.prefix p) refl h

module _ (p : Subnet) (keys all : List Payload) (same : keys ≡ all) (are : ArePayloads keys) (least x : Payload) (is_least : least ≡ least_of p) (there : has keys x ≡ true)
    (below : payload_cmp x least ≡ Less) (last : (q : Payload) → payload_cmp q least ≡ Less → has keys q ≡ true → is_lt (payload_cmp x q) ≡ false) where
  pub last_before : (before : Subnet) → before ≡ x.prefix → IsLastBefore all p before
  last_before before e = record {
    payload = x;
    there = ap (λ (vs : List Payload). has vs x) (sym same) ∙ there;
    is = sym e;
    lies = least_before p x (are.each x there) (ap (payload_cmp x) (sym is_least) ∙ below);
    last = λ v held lies. ap (λ (s : Subnet). is_lt (subnet_cmp s v.prefix)) e
        ∙ not_below_prefix (subnet_cmp x.prefix v.prefix) (nat_cmp x.max v.max) (nat_cmp x.asn v.asn)
        (last v (ap (payload_cmp v) is_least ∙ before_least v p lies) (ap (λ (vs : List Payload). has vs v) same ∙ held));
  }
