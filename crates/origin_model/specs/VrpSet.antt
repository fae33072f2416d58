-- Sets of validated ROA payloads, seen as the lists of them in their order.
use Rattle.std.specs.Prelude.{◌≡◌, Bool, true, false, ◌||◌, ◌&&◌, not, List}
use Rattle.std.specs.BTreeMap.{is_at}
use Rattle.std.specs.List.{list_any}
use Rattle.std.specs.Ordering.{is_lt}
use Rattle.std.specs.declared.cmp.Ordering.TheVariants.{Less}
use Rattle.path_model.specs.Prefix.{Subnet, subnet_cmp}
use Rattle.origin_model.specs.Vrp.{Payload, IsPayload, payload_cmp}

-- the payload is among these
abbrev pub has : List Payload → Payload → Bool
has payloads v = list_any (is_at (payload_cmp v)) payloads

-- each of these is one
pub record ArePayloads (payloads : List Payload) : Type 0 where
  pub each : (v : Payload) → has payloads v ≡ true → IsPayload v

-- the second set has what the first one has, and this payload
abbrev pub Gains : List Payload → Payload → List Payload → Type 0
Gains before v after = (q : Payload) → has after q ≡ (is_at (payload_cmp v) q || has before q)

-- the second set has what the first one has, but this payload
abbrev pub Loses : List Payload → Payload → List Payload → Type 0
Loses before v after = (q : Payload) → has after q ≡ (not (is_at (payload_cmp v) q) && has before q)

-- all of the first are among the second
abbrev pub StandsIn : List Payload → List Payload → Type 0
StandsIn some all = (v : Payload) → has some v ≡ true → has all v ≡ true

-- each of these has this prefix
abbrev pub AreAllOf : Subnet → List Payload → Type 0
AreAllOf prefix some = (v : Payload) → has some v ≡ true → v.prefix ≡ prefix

-- what has this prefix among the first is among the second
abbrev pub HasAllOf : Subnet → List Payload → List Payload → Type 0
HasAllOf prefix all some = (v : Payload) → v.prefix ≡ prefix → has all v ≡ true → has some v ≡ true

-- the payload's prefix is before this one in the order
abbrev pub IsBefore : Payload → Subnet → Type 0
IsBefore v prefix = subnet_cmp v.prefix prefix ≡ Less

-- this is the prefix of the last payload before those of a prefix: some payload has it, and no payload between them is among these
pub record IsLastBefore (payloads : List Payload) (prefix before : Subnet) : Type 0 where
  pub payload : Payload
  pub there : has payloads payload ≡ true
  pub is : payload.prefix ≡ before
  pub lies : IsBefore payload prefix
  pub last : (v : Payload) → has payloads v ≡ true → IsBefore v prefix → is_lt (subnet_cmp before v.prefix) ≡ false

-- none of these is before the payloads of a prefix
abbrev pub HasNoneBefore : List Payload → Subnet → Type 0
HasNoneBefore payloads prefix = (v : Payload) → has payloads v ≡ true → ¬ IsBefore v prefix
