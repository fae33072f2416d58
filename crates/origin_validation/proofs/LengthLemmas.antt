-- The payloads of one prefix by their maximum lengths.
use Rattle.std.proofs.Common.{◌≡◌, ◌≢◌, ℕ, ◌<◌, ◌≤◌, Bool, true, List, [], ◌∷◌, Some, refl, sym, ap, subst, ◌∙◌, arith, inl, inr, true≢false}
use Rattle.std.specs.declared.option.Option.{Option}
use Rattle.std.specs.Option.{unwrap_or}
use Rattle.path_model.specs.declared.addr.Addr.{Addr}
use Rattle.path_model.specs.declared.addr.Addr.TheVariants.{V4, V6}
use Rattle.path_model.specs.Prefix.{Subnet, bits_of}
use Rattle.origin_model.specs.declared.prefix_filter.PrefixFilter.{PrefixFilter}
use Rattle.origin_model.specs.Covering.{Covers}
use Rattle.origin_model.specs.OriginState.{Matching}
use Rattle.origin_model.specs.PrefixFilter.{IsHit}
use Rattle.origin_model.specs.Vrp.{Payload, payload_of}
use Rattle.origin_model.specs.VrpSet.{ArePayloads, has}
use Rattle.origin_model.proofs.PayloadLemmas.{first_has, has_first}
use Rattle.origin_validation.specs.Records.{Allows, AllowsOf, HasUnhitIn, IsUnhitIn}

few_bits : (addr : Addr) → bits_of addr ≤ 128
few_bits (V4 n) = omega arith
few_bits (V6 n) = omega arith

module _ (payloads : List Payload) (filters : List PrefixFilter) (front : Subnet) where
  -- no maximum is over the bits of an address
  pub allows_start : (len asn : ℕ) → ArePayloads payloads → (n : ℕ) → AllowsOf payloads filters front len asn n → n < 129
  allows_start len asn are n is =
      let within : n ≤ bits_of front.addr = (are.each (payload_of front n asn) is.is.0).within in
      let few = few_bits front.addr in omega (arith, within, few)

  module _ (prefix : Subnet) (covers : Covers front prefix) where
    allows_matches : (asn : ℕ) → asn ≢ 0 → Allows payloads filters front prefix.len asn → Matching (IsUnhitIn payloads filters front) prefix (Some asn)
    allows_matches asn some a = record {
      payload = payload_of front a.max asn;
      is = (refl, a.of.is);
      matches = record { covers = covers; short = a.of.reaches; somebody = some; from = refl };
    }

    same : (v : Payload) (asn : ℕ) → v.prefix ≡ front → ◌≡◌ {A = Option ℕ} (Some asn) (Some v.asn) → v ≡ payload_of front v.max asn
    same v asn e f = let a = ap (λ (o : Option ℕ). unwrap_or o v.asn) f in λ i. record { prefix = e i; max = v.max; asn = sym a i }

    matches_allows : (asn : ℕ) → Matching (IsUnhitIn payloads filters front) prefix (Some asn) → Allows payloads filters front prefix.len asn
    matches_allows asn m = record {
      max = m.payload.max;
      of = record {
        reaches = m.matches.short;
        is = subst (λ (v : Payload). (has payloads v ≡ true) × (¬ IsHit filters v)) (same m.payload asn m.is.0 m.matches.from) m.is.1;
      };
    }

    pub decides : (origin : Option ℕ) (asn len : ℕ) (found : Bool) → origin ≡ Some asn → asn ≢ 0 → len ≡ prefix.len
        → (found ≡ true → Allows payloads filters front len asn) × (Allows payloads filters front len asn → found ≡ true)
        → (found ≡ true → Matching (IsUnhitIn payloads filters front) prefix origin) × (Matching (IsUnhitIn payloads filters front) prefix origin → found ≡ true)
    decides origin asn len found is some long by = (
      λ t. subst (Matching (IsUnhitIn payloads filters front) prefix) (sym is) (allows_matches asn some (subst (λ (n : ℕ). Allows payloads filters front n asn) long (by.0 t))),
      λ m. by.1 (subst (λ (n : ℕ). Allows payloads filters front n asn) (sym long) (matches_allows asn (subst (Matching (IsUnhitIn payloads filters front) prefix) is m))),
    )

  -- what no filter hits of one prefix is still to come, and what is to come is of it
  pub record Unseen (left : List Payload) : Type 0 where
    pub all : (v : Payload) → IsUnhitIn payloads filters front v → has left v ≡ true
    pub only : (v : Payload) → has left v ≡ true → (v.prefix ≡ front) × (has payloads v ≡ true)

  pub unseen_next : (all left : List Payload) (w : Payload) → all ≡ w ∷ left → IsHit filters w → Unseen all → Unseen left
  unseen_next all left w is hit u = record {
    all = λ v a. elim (has_first v w left (ap (λ (vs : List Payload). has vs v) (sym is) ∙ u.all v a)) [
      | inl e ↦ absurd (a.1.1 (subst (IsHit filters) (sym e) hit))
      | inr later ↦ later
    ];
    only = λ v h. u.only v (ap (λ (vs : List Payload). has vs v) is ∙ first_has v w left (inr h));
  }

  pub unseen_first : (all left : List Payload) (w : Payload) → all ≡ w ∷ left → (¬ IsHit filters w) → Unseen all → HasUnhitIn payloads filters front
  unseen_first all left w is free u =
      let o = u.only w (ap (λ (vs : List Payload). has vs w) is ∙ first_has w w left (inl refl)) in record { payload = w; is = (o.0, (o.1, free)) }

  pub unseen_none : (all : List Payload) → all ≡ [] → Unseen all → ¬ HasUnhitIn payloads filters front
  unseen_none all none u h = true≢false (sym (u.all h.payload h.is) ∙ ap (λ (vs : List Payload). has vs h.payload) none)
