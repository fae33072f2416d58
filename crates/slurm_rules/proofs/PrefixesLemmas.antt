-- Prefix assertions, of which some are in a set.
use Rattle.std.proofs.Common.{◌≡◌, ℕ, ◌+◌, ◌<◌, ◌≤◌, ◌⊎◌, inl, inr, List, [], ◌∷◌, ◌++◌, length, get_or, take, map, refl, ap, subst, arith}
use Rattle.std.specs.List.Sorted.{IsStrictlySortedBy}
use Rattle.origin_model.specs.Vrp.{Payload, payload_cmp}
use Rattle.origin_model.specs.VrpSet.{Gains, has}
use Rattle.origin_model.proofs.ChangeLemmas.{gains_pushed}
use Rattle.json_fields.specs.Each.{Each}
use Rattle.slurm_rules.specs.Form.{PrefixAssertionText, prefix_assertion_view}
use Rattle.slurm_rules.specs.Numbers.{ArePrefixAssertions, IsAsn, IsMax, IsPayloadOf}
use Rattle.slurm_rules.specs.declared.draft.DraftPrefixAssertion.{DraftPrefixAssertion}
use Rattle.any_prefix.specs.AnyPrefix.{IsAnyPrefixText}
use Rattle.any_prefix.proofs.TextLemmas.{bits_most}
use Rattle.path_model.specs.Prefix.{Subnet, bits_of}
use Rattle.json_fields.proofs.EachLemmas.{each_grown, each_whole}
use Rattle.slurm_rules.proofs.OneLemmas.{one_max, one_prefix}

-- what the first assertions assert is the set
pub record Asserting (assertions : List DraftPrefixAssertion) (i : ℕ) (set : List Payload) : Type 0 where
  pub payloads : List Payload
  pub each : Each IsPayloadOf (map prefix_assertion_view (take i assertions)) payloads
  pub same : (v : Payload) → has set v ≡ has payloads v

pub asserting_start : (assertions : List DraftPrefixAssertion) (set : List Payload) → set ≡ [] → Asserting assertions 0 set
asserting_start assertions set e = record { payloads = []; each = tt; same = λ v. ap (λ (vs : List Payload). has vs v) e }

pub asserting_next : (assertions : List DraftPrefixAssertion) (i : ℕ) (assertion : DraftPrefixAssertion) (old new : List Payload) (v : Payload) → i < length assertions → assertion ≡ get_or assertions i assertion
    → Asserting assertions i old → IsPayloadOf (prefix_assertion_view assertion) v → Gains old v new → Asserting assertions (i + 1) new
asserting_next assertions i assertion old new v h at a is gains = record {
  payloads = a.payloads ++ v ∷ [];
  each = each_grown IsPayloadOf prefix_assertion_view assertions i assertion a.payloads (a.payloads ++ v ∷ []) v h at a.each is refl;
  same = gains_pushed old new a.payloads v gains a.same;
}

pub asserting_end : (assertions : List DraftPrefixAssertion) (i : ℕ) (set : List Payload) → length assertions ≤ i → Asserting assertions i set → IsStrictlySortedBy payload_cmp set
    → ArePrefixAssertions (map prefix_assertion_view assertions) set
asserting_end assertions i set all a sorted = record { payloads = a.payloads; each = each_whole IsPayloadOf prefix_assertion_view assertions i a.payloads all a.each; in_order = sorted; same = a.same }

-- ---- what is no prefix assertion

module _ (w : PrefixAssertionText) where
  pub no_prefix : ((p : Subnet) → IsAnyPrefixText w.prefix p → ⊥) → (v : Payload) → IsPayloadOf w v → ⊥
  no_prefix none v h = none v.prefix h.prefix

  pub no_asn : ((x : ℕ) → IsAsn w.asn x → ⊥) → (v : Payload) → IsPayloadOf w v → ⊥
  no_asn none v h = none v.asn h.asn

  module _ (p : Subnet) (prefix : IsAnyPrefixText w.prefix p) where
    same_prefix : (v : Payload) → IsPayloadOf w v → v.prefix ≡ p
    same_prefix v h = one_prefix w.prefix v.prefix p h.prefix prefix

    pub no_max : ((x : ℕ) → IsMax w.max p x → x < 256 → ⊥) → (v : Payload) → IsPayloadOf w v → ⊥
    no_max none v h = none v.max (subst (λ (q : Subnet). IsMax w.max q v.max) (same_prefix v h) h.max) (omega (arith, h.is_payload.within, bits_most v.prefix.addr))

    pub no_payload : (max : ℕ) → IsMax w.max p max → (max < p.len) ⊎ (bits_of p.addr < max) → (v : Payload) → IsPayloadOf w v → ⊥
    no_payload max is_max wrong v h =
        let prefixes = same_prefix v h in
        let maxima : v.max ≡ max = one_max w.max p v.max max (subst (λ (q : Subnet). IsMax w.max q v.max) prefixes h.max) is_max in
        let lens : v.prefix.len ≡ p.len = ap (λ (q : Subnet). q.len) prefixes in
        let bits : bits_of v.prefix.addr ≡ bits_of p.addr = ap (λ (q : Subnet). bits_of q.addr) prefixes in
        elim wrong [
          | inl below ↦ omega (arith, below, h.is_payload.reaches, maxima, lens)
          | inr over ↦ omega (arith, over, h.is_payload.within, maxima, bits)
        ]
