-- Validated ROA payloads (RFC 6811, section 2).
use Rattle.std.specs.Prelude.{ℕ, ◌<◌, ◌≤◌, ◌^◌}
use Rattle.std.specs.Cmp.{IsTotalOrder, nat_cmp_total, on_total, then_total}
use Rattle.std.specs.Ordering.{nat_cmp, ordering_then}
use Rattle.std.specs.declared.cmp.Ordering.{Ordering}
use Rattle.path_model.specs.Order.{subnet_total}
use Rattle.path_model.specs.Prefix.{Subnet, bits_of, subnet_cmp}

-- The AS may originate the prefix, and whatever the prefix covers of at most the maximum length.
pub record Payload : Type 0 where
  pub prefix : Subnet
  pub max : ℕ
  pub asn : ℕ

abbrev pub payload_of : Subnet → ℕ → ℕ → Payload
payload_of prefix max asn = record { prefix = prefix; max = max; asn = asn }

-- the maximum is from the prefix's length to the bits of an address, and the AS is a number of 32 bits
pub record IsPayload (v : Payload) : Type 0 where
  pub asn : v.asn < 2 ^ 32
  pub reaches : v.prefix.len ≤ v.max
  pub within : v.max ≤ bits_of v.prefix.addr

-- by prefix, then by maximum, then by AS
abbrev pub payload_cmp : Payload → Payload → Ordering
payload_cmp a b = ordering_then (ordering_then (subnet_cmp a.prefix b.prefix) (nat_cmp a.max b.max)) (nat_cmp a.asn b.asn)

pub payload_total : IsTotalOrder payload_cmp
payload_total =
    then_total (then_total (on_total (λ (v : Payload). v.prefix) subnet_total) (on_total (λ (v : Payload). v.max) nat_cmp_total)) (on_total (λ (v : Payload). v.asn) nat_cmp_total)

-- the first and the last payload of a prefix in the order
abbrev pub least_of : Subnet → Payload
least_of prefix = payload_of prefix prefix.len 0

abbrev pub greatest_of : Subnet → Payload
greatest_of prefix = payload_of prefix (bits_of prefix.addr) 4294967295
