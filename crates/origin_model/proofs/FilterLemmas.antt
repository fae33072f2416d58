-- Filters by their parts.
use Rattle.std.proofs.Common.{◌≡◌, ℕ, ◌≤◌, Bool, true, false, cond, ◌||◌, List, [], ◌∷◌, ◌++◌, Some, None, Ok, Err, refl, sym, ap, subst, ◌∙◌, arith, ◌⊎◌, inl, inr, true≢false}
use Rattle.std.specs.declared.cmp.Ordering.{Ordering}
use Rattle.std.specs.declared.cmp.Ordering.TheVariants.{Equal}
use Rattle.std.specs.declared.option.Option.{Option}
use Rattle.std.specs.declared.result.Result.{Result}
use Rattle.std.specs.Prelude.{OnOk, is_ok}
use Rattle.std.specs.BTreeMap.{is_at}
use Rattle.std.specs.Cmp.{Equal-is, nat_cmp_is}
use Rattle.std.specs.List.{list_any}
use Rattle.std.specs.Option.{option_cmp}
use Rattle.std.specs.Ordering.{nat_cmp, ordering_then}
use Rattle.std.proofs.lemmas.Bool.{or_cases, or_left, or_right}
use Rattle.std.proofs.lemmas.List.Folds.{list_any-append}
use Rattle.std.proofs.lemmas.Map.Lookups.{CmpEqualImpliesEq, exact_unsigned}
use Rattle.path_model.specs.Prefix.{Subnet, prefix_of, subnet_cmp}
use Rattle.path_model.proofs.OrderLemmas.{subnet_exact}
use Rattle.origin_model.specs.declared.prefix_filter.PrefixFilter.{PrefixFilter}
use Rattle.origin_model.specs.Covering.{Covers}
use Rattle.origin_model.specs.FilterIndex.{FilterParts, HasWithin, IsIndex, has_either, has_front, has_parts, parts_cmp}
use Rattle.origin_model.specs.PrefixFilter.{Hits, IsHit}
use Rattle.origin_model.specs.Vrp.{Payload}
use Rattle.origin_model.proofs.CoverLemmas.{begins}
use Rattle.origin_model.proofs.PayloadLemmas.{both_equal, subnet_itself}

-- ---- the order tells different parts apart

option_exact : {K : Type 0} {R : K → K → Ordering} → CmpEqualImpliesEq R → CmpEqualImpliesEq (option_cmp R)
option_exact exact None None e = refl
option_exact exact None (Some y) e = absurd cc
option_exact exact (Some x) None e = absurd cc
option_exact exact (Some x) (Some y) e = ap Some (exact x y e)

parts_exact : CmpEqualImpliesEq parts_cmp
parts_exact a b e =
    let both = both_equal (option_cmp subnet_cmp a.0 b.0) (option_cmp nat_cmp a.1 b.1) e in
    let prefix = option_exact subnet_exact a.0 b.0 both.0 in
    let asn = option_exact exact_unsigned a.1 b.1 both.1 in
    λ i. (prefix i, asn i)

same_parts : (a b : FilterParts) → is_at (parts_cmp a) b ≡ true → a ≡ b
same_parts a b h = parts_exact a b ((Equal-is (parts_cmp a b)).0 h)

number_itself : (n : ℕ) → nat_cmp n n ≡ Equal
number_itself n = sym (nat_cmp_is n n Equal refl)

prefix_part : (p : Option Subnet) → option_cmp subnet_cmp p p ≡ Equal
prefix_part None = refl
prefix_part (Some p) = subnet_itself p

asn_part : (a : Option ℕ) → option_cmp nat_cmp a a ≡ Equal
asn_part None = refl
asn_part (Some a) = number_itself a

parts_itself : (a : FilterParts) → is_at (parts_cmp a) a ≡ true
parts_itself a = (Equal-is (parts_cmp a a)).1 (ap (λ (o : Ordering). ordering_then o (option_cmp nat_cmp a.1 a.1)) (prefix_part a.0) ∙ asn_part a.1)

-- ---- what is found hits, and what hits is found

-- a filter with these parts would hit it
abbrev pub WouldHit : FilterParts → Payload → Type 0
WouldHit parts v = Hits (record { prefix = parts.0; asn = parts.1 }) v

pub found_hits : (fs : List PrefixFilter) (v : Payload) (parts : FilterParts) → WouldHit parts v → has_parts fs parts ≡ true → IsHit fs v
found_hits [] v parts would h = absurd (true≢false (sym h))
found_hits (f ∷ fs) v parts would h = elim (or_cases (is_at (parts_cmp parts) (f.prefix, f.asn)) (has_parts fs parts) h) [
  | inl here ↦ inl (subst (λ (q : FilterParts). WouldHit q v) (same_parts parts (f.prefix, f.asn) here) would)
  | inr later ↦ inr (found_hits fs v parts would later)
]

-- one of them has such parts, and hits it
pub record Finds (fs : List PrefixFilter) (v : Payload) : Type 0 where
  pub prefix : Option Subnet
  pub asn : Option ℕ
  pub would : WouldHit (prefix, asn) v
  pub has : has_parts fs (prefix, asn) ≡ true

hits_found : (fs : List PrefixFilter) (v : Payload) → IsHit fs v → Finds fs v
hits_found [] v hit = absurd hit
hits_found (f ∷ fs) v (inl here) = record {
  prefix = f.prefix;
  asn = f.asn;
  would = here;
  has = or_left (is_at (parts_cmp (f.prefix, f.asn)) (f.prefix, f.asn)) (has_parts fs (f.prefix, f.asn)) (parts_itself (f.prefix, f.asn));
}
hits_found (f ∷ fs) v (inr later) =
    let more = hits_found fs v later in
    record {
      prefix = more.prefix;
      asn = more.asn;
      would = more.would;
      has = or_right (is_at (parts_cmp (more.prefix, more.asn)) (f.prefix, f.asn)) (has_parts fs (more.prefix, more.asn)) more.has;
    }

-- ---- by the AS

either_found : (fs : List PrefixFilter) (prefix : Option Subnet) (asn : Option ℕ) (v : Payload) → WouldHit (prefix, asn) v → has_parts fs (prefix, asn) ≡ true → has_either fs prefix v.asn ≡ true
either_found fs prefix None v would h = or_left (has_parts fs (prefix, None)) (has_parts fs (prefix, Some v.asn)) h
either_found fs prefix (Some a) v would h =
    or_right (has_parts fs (prefix, None)) (has_parts fs (prefix, Some v.asn)) (ap (λ (n : ℕ). has_parts fs (prefix, Some n)) (sym would.asn) ∙ h)

either_hits : (fs : List PrefixFilter) (prefix : Option Subnet) (v : Payload) → WouldHit (prefix, None) v → WouldHit (prefix, Some v.asn) v → has_either fs prefix v.asn ≡ true → IsHit fs v
either_hits fs prefix v all one h = elim (or_cases (has_parts fs (prefix, None)) (has_parts fs (prefix, Some v.asn)) h) [
  | inl none ↦ found_hits fs v (prefix, None) all none
  | inr some ↦ found_hits fs v (prefix, Some v.asn) one some
]

-- ---- by the prefix

found_by : (fs : List PrefixFilter) (v : Payload) (prefix : Option Subnet) (asn : Option ℕ) → WouldHit (prefix, asn) v → has_parts fs (prefix, asn) ≡ true
    → (has_either fs None v.asn ≡ true) ⊎ HasWithin fs v
found_by fs v None asn would h = inl (either_found fs None asn v would h)
found_by fs v (Some p) asn would h = inr (record {
  len = p.len;
  of = record {
    within = would.prefix.shorter;
    has = ap (λ (o : Option Subnet). has_front fs o v.asn) would.prefix.front ∙ either_found fs (Some p) asn v would h;
  };
})

front_hits : (fs : List PrefixFilter) (v : Payload) (len : ℕ) (o : Option Subnet) → prefix_of v.prefix.addr len ≡ o → len ≤ v.prefix.len → has_front fs o v.asn ≡ true → IsHit fs v
front_hits fs v len None is within h = absurd (true≢false (sym h))
front_hits fs v len (Some p) is within h =
    let e : len ≡ p.len = ap (λ (q : Subnet). q.len) (begins v.prefix.addr len p is).is in
    let covers : Covers p v.prefix = record { shorter = omega (arith, e, within); front = ap (prefix_of v.prefix.addr) (sym e) ∙ is } in
    either_hits fs (Some p) v (record { prefix = covers; asn = tt }) (record { prefix = covers; asn = refl }) h

pub hits_by : (fs : List PrefixFilter) (v : Payload) → IsHit fs v → (has_either fs None v.asn ≡ true) ⊎ HasWithin fs v
hits_by fs v hit = let f = hits_found fs v hit in found_by fs v f.prefix f.asn f.would f.has

pub any_hits : (fs : List PrefixFilter) (v : Payload) → has_either fs None v.asn ≡ true → IsHit fs v
any_hits fs v h = either_hits fs None v (record { prefix = tt; asn = tt }) (record { prefix = tt; asn = refl }) h

pub within_hits : (fs : List PrefixFilter) (v : Payload) → HasWithin fs v → IsHit fs v
within_hits fs v h = front_hits fs v h.len (prefix_of v.prefix.addr h.len) refl h.of.within h.of.has

-- ---- the index

pub no_index : (index : List FilterParts) → index ≡ [] → IsIndex [] index
no_index index none = record { same = λ parts. ap (list_any (is_at (parts_cmp parts))) none }

or_next : (a b : Bool) → cond a true b ≡ (b || (a || false))
or_next true true = refl
or_next true false = refl
or_next false true = refl
or_next false false = refl

at_turned : (a b : FilterParts) → is_at (parts_cmp a) b ≡ is_at (parts_cmp b) a
at_turned a b = by (is_at (parts_cmp a) b) (is_at (parts_cmp b) a) refl refl where
  by : (s t : Bool) → is_at (parts_cmp a) b ≡ s → is_at (parts_cmp b) a ≡ t → s ≡ t
  by true true e f = refl
  by true false e f = sym (subst (λ (c : FilterParts). is_at (parts_cmp b) c ≡ true) (sym (same_parts a b e)) (parts_itself b)) ∙ f
  by false true e f = sym e ∙ subst (λ (c : FilterParts). is_at (parts_cmp a) c ≡ true) (sym (same_parts b a f)) (parts_itself a)
  by false false e f = refl

pub index_next : (fs gs : List PrefixFilter) (index after : List FilterParts) (f : PrefixFilter) → gs ≡ fs ++ f ∷ [] → IsIndex fs index
    → ((q : FilterParts) → list_any (is_at (parts_cmp q)) after ≡ cond (is_at (parts_cmp (f.prefix, f.asn)) q) true (list_any (is_at (parts_cmp q)) index)) → IsIndex gs after
index_next fs gs index after f more is updates = record {
  same = λ q. updates q
      ∙ ap (λ (b : Bool). cond (is_at (parts_cmp (f.prefix, f.asn)) q) true b) (is.same q)
      ∙ or_next (is_at (parts_cmp (f.prefix, f.asn)) q) (has_parts fs q)
      ∙ ap (λ (b : Bool). has_parts fs q || (b || false)) (at_turned (f.prefix, f.asn) q)
      ∙ sym (list_any-append (λ (g : PrefixFilter). is_at (parts_cmp q) (g.prefix, g.asn)) fs (f ∷ []))
      ∙ ap (λ (hs : List PrefixFilter). has_parts hs q) (sym more);
}

-- ---- what a call gave

pub ok_gives : {A B : Type 0} (r : Result A B) (P : Type 0) → is_ok r ≡ true → OnOk r P → P
ok_gives (Ok a) P is h = h
ok_gives (Err b) P is h = absurd (true≢false (sym is))
