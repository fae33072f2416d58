-- Covering prefixes in their order: what stands between a prefix and one that it covers begins with it; so a look-up goes from one prefix that
-- covers to the next shorter one.
use Rattle.std.proofs.Common.{◌≡◌, ℕ, ◌+◌, ◌-◌, ◌*◌, ◌/◌, ◌%◌, ◌^◌, ◌<◌, ◌≤◌, Bool, true, false, cond, List, Some, None, refl, sym, ap, subst, ◌∙◌, arith, ◌⊎◌, inl, inr, true≢false}
use Rattle.std.specs.Prelude.{nat_le}
use Rattle.std.specs.declared.cmp.Ordering.{Ordering}
use Rattle.std.specs.declared.cmp.Ordering.TheVariants.{Less, Equal, Greater}
use Rattle.std.specs.declared.option.Option.{Option}
use Rattle.std.specs.Cmp.{nat_cmp_is}
use Rattle.std.specs.Option.{option_map, unwrap_or}
use Rattle.std.specs.Ordering.{nat_cmp, ordering_then, ordering_reverse, is_le, is_lt}
use Rattle.std.proofs.lemmas.Map.Keys.{le_from_is_le}
use Rattle.std.proofs.lemmas.Nat.{div-mul-add, div-add-mod', mod_below, pow_pos}
use Rattle.path_model.specs.declared.addr.Addr.{Addr}
use Rattle.path_model.specs.declared.addr.Addr.TheVariants.{V4, V6}
use Rattle.path_model.specs.Order.{addr_total, subnet_total}
use Rattle.path_model.specs.Prefix.{Subnet, IsSubnet, addr_cmp, subnet_cmp, prefix_of, without_last}
use Rattle.origin_model.specs.Covering.{Covers}
use Rattle.origin_model.specs.Vrp.{Payload}
use Rattle.origin_model.specs.VrpSet.{IsLastBefore, has}
use Rattle.origin_model.proofs.CoverLemmas.{begins, clear_longer}

less_or_same : (a b : ℕ) → a ≤ b → (a < b) ⊎ (a ≡ b)
less_or_same a b le = search arith

le_nat : (a b : ℕ) → a ≤ b → is_le (nat_cmp a b) ≡ true
le_nat a b le = elim (less_or_same a b le) [
  | inl lt ↦ ap is_le (sym (nat_cmp_is a b Less lt))
  | inr e ↦ ap is_le (sym (nat_cmp_is a b Equal e))
]

pub le_then : (a b : ℕ) (o : Ordering) → a ≤ b → is_le o ≡ true → is_le (ordering_then (nat_cmp a b) o) ≡ true
le_then a b o le other = elim (less_or_same a b le) [
  | inl lt ↦ ap (λ (r : Ordering). is_le (ordering_then r o)) (sym (nat_cmp_is a b Less lt))
  | inr e ↦ ap (λ (r : Ordering). is_le (ordering_then r o)) (sym (nat_cmp_is a b Equal e)) ∙ other
]

pub then_le : (o r : Ordering) → is_le (ordering_then o r) ≡ true → is_le o ≡ true
then_le Less r h = refl
then_le Equal r h = refl
then_le Greater r h = h

-- ---- numbers that begin alike

cut_le : (n s : ℕ) → without_last s n ≤ n
cut_le n s = let e = div-add-mod' n (2 ^ s) in omega (arith, e)

mid : (w b c : ℕ) → 0 < w → c / w * w ≤ b → b ≤ c → b / w ≡ c / w
mid w b c some low high =
    let e = div-add-mod' c w in
    let below : c % w < w = mod_below c w some in
    let rest : b - c / w * w < w = omega (arith, e, below, low, high) in
    let whole : b ≡ c / w * w + (b - c / w * w) = omega (arith, low) in
    ap (λ (n : ℕ). n / w) whole ∙ div-mul-add (c / w) w (b - c / w * w) rest

cut_mid : (s b c : ℕ) → without_last s c ≤ b → b ≤ c → without_last s b ≡ without_last s c
cut_mid s b c low high = ap (λ (n : ℕ). n * 2 ^ s) (mid (2 ^ s) b c (pow_pos s) low high)

-- ---- addresses

found_addr : (t : Bool) (addr pa : Addr) (len : ℕ) → cond {A = Option Subnet} t (Some (record { addr = addr; len = len })) None ≡ Some (record { addr = pa; len = len }) → (t ≡ true) × (addr ≡ pa)
found_addr true addr pa len e = (refl, ap (λ (o : Option Subnet). unwrap_or (option_map (λ (s : Subnet). s.addr) o) addr) e)
found_addr false addr pa len e = absurd cc

found : (t : Bool) (addr pa : Addr) (len : ℕ) → t ≡ true → addr ≡ pa → cond {A = Option Subnet} t (Some (record { addr = addr; len = len })) None ≡ Some (record { addr = pa; len = len })
found t addr pa len is same = ap (λ (b : Bool). cond {A = Option Subnet} b (Some (record { addr = addr; len = len })) None) is ∙ ap (λ (a : Addr). Some (record { addr = a; len = len })) same

four_low : (m b : ℕ) (pa : Addr) → V4 m ≡ pa → is_le (addr_cmp pa (V4 b)) ≡ true → m ≤ b
four_low m b pa e h = le_from_is_le m b (subst (λ (a : Addr). is_le (addr_cmp a (V4 b)) ≡ true) (sym e) h)

six_low : (m b : ℕ) (pa : Addr) → V6 m ≡ pa → is_le (addr_cmp pa (V6 b)) ≡ true → m ≤ b
six_low m b pa e h = le_from_is_le m b (subst (λ (a : Addr). is_le (addr_cmp a (V6 b)) ≡ true) (sym e) h)

front_mid : (qa xa pa : Addr) (len : ℕ) → prefix_of qa len ≡ Some (record { addr = pa; len = len }) → is_le (addr_cmp pa xa) ≡ true → is_le (addr_cmp xa qa) ≡ true
    → prefix_of xa len ≡ Some (record { addr = pa; len = len })
front_mid (V4 c) (V4 b) pa len is low high =
    let f = found_addr (nat_le len 32) (V4 (without_last (32 - len) c)) pa len is in
    found (nat_le len 32) (V4 (without_last (32 - len) b)) pa len f.0
    (ap V4 (cut_mid (32 - len) b c (four_low (without_last (32 - len) c) b pa f.1 low) (le_from_is_le b c high)) ∙ f.1)
front_mid (V4 c) (V6 b) pa len is low high = absurd (true≢false (sym high))
front_mid (V6 c) (V4 b) pa len is low high =
    let f = found_addr (nat_le len 128) (V6 (without_last (128 - len) c)) pa len is in
    absurd (true≢false (sym (subst (λ (a : Addr). is_le (addr_cmp a (V4 b)) ≡ true) (sym f.1) low)))
front_mid (V6 c) (V6 b) pa len is low high =
    let f = found_addr (nat_le len 128) (V6 (without_last (128 - len) c)) pa len is in
    found (nat_le len 128) (V6 (without_last (128 - len) b)) pa len f.0
    (ap V6 (cut_mid (128 - len) b c (six_low (without_last (128 - len) c) b pa f.1 low) (le_from_is_le b c high)) ∙ f.1)

front_le : (qa pa : Addr) (len : ℕ) (o : Ordering) → prefix_of qa len ≡ Some (record { addr = pa; len = len }) → is_le o ≡ true → is_le (ordering_then (addr_cmp pa qa) o) ≡ true
front_le (V4 c) pa len o is other =
    let f = found_addr (nat_le len 32) (V4 (without_last (32 - len) c)) pa len is in
    subst (λ (a : Addr). is_le (ordering_then (addr_cmp a (V4 c)) o) ≡ true) f.1 (le_then (without_last (32 - len) c) c o (cut_le c (32 - len)) other)
front_le (V6 c) pa len o is other =
    let f = found_addr (nat_le len 128) (V6 (without_last (128 - len) c)) pa len is in
    subst (λ (a : Addr). is_le (ordering_then (addr_cmp a (V6 c)) o) ≡ true) f.1 (le_then (without_last (128 - len) c) c o (cut_le c (128 - len)) other)

-- ---- prefixes

-- a prefix isn't behind one that it covers
pub covers_le : (p q : Subnet) → Covers p q → is_le (subnet_cmp p q) ≡ true
covers_le p q covers = front_le q.addr p.addr p.len (nat_cmp p.len q.len) covers.front (le_nat p.len q.len covers.shorter)

-- and what stands between them begins with it
pub covers_mid : (p x q : Subnet) → Covers p q → is_le (subnet_cmp p x) ≡ true → is_le (subnet_cmp x q) ≡ true → prefix_of x.addr p.len ≡ Some p
covers_mid p x q covers low high = front_mid q.addr x.addr p.addr p.len covers.front (then_le (addr_cmp p.addr x.addr) (nat_cmp p.len x.len) low) (then_le (addr_cmp x.addr q.addr) (nat_cmp x.len q.len) high)

-- ---- the last one before a prefix

-- where one isn't below the other, the other is at most it
turned_le : (o r : Ordering) → o ≡ ordering_reverse r → is_lt r ≡ false → is_le o ≡ true
turned_le Less r e h = refl
turned_le Equal r e h = refl
turned_le Greater Less e h = absurd (true≢false h)
turned_le Greater Equal e h = absurd cc
turned_le Greater Greater e h = absurd cc

le_turned : (p x : Subnet) → is_lt (subnet_cmp x p) ≡ false → is_le (subnet_cmp p x) ≡ true
le_turned p x h = turned_le (subnet_cmp p x) (subnet_cmp x p) (subnet_total.antisymm p x) h

-- a shorter prefix is before what it covers
then_less : (o : Ordering) → is_le (ordering_then o Less) ≡ true → ordering_then o Less ≡ Less
then_less Less h = refl
then_less Equal h = refl
then_less Greater h = absurd (true≢false (sym h))

pub shorter_before : (p q : Subnet) → Covers p q → p.len < q.len → subnet_cmp p q ≡ Less
shorter_before p q covers less =
    let by_len : nat_cmp p.len q.len ≡ Less = sym (nat_cmp_is p.len q.len Less less) in
    ap (ordering_then (addr_cmp p.addr q.addr)) by_len
    ∙ then_less (addr_cmp p.addr q.addr) (subst (λ (o : Ordering). is_le (ordering_then (addr_cmp p.addr q.addr) o) ≡ true) by_len (covers_le p q covers))

-- what begins a prefix and isn't behind it isn't longer
le_or_less : (m n : ℕ) → (m ≤ n) ⊎ (n < m)
le_or_less m n = search arith

same_addr : (a : Addr) → addr_cmp a a ≡ Equal
same_addr a = itself (addr_cmp a a) (addr_total.antisymm a a) where
  itself : (o : Ordering) → o ≡ ordering_reverse o → o ≡ Equal
  itself Less e = absurd cc
  itself Equal e = refl
  itself Greater e = absurd cc

pub not_longer : (p x : Subnet) → IsSubnet x → prefix_of x.addr p.len ≡ Some p → is_le (subnet_cmp p x) ≡ true → p.len ≤ x.len
not_longer p x is front le = elim (le_or_less p.len x.len) [
  | inl within ↦ within
  | inr longer ↦
      let addr : p.addr ≡ x.addr = ap (λ (s : Subnet). s.addr) (sym (begins x.addr p.len p front).is) ∙ clear_longer x.addr x.len p.len (omega (arith, longer)) is.clear in
      let by_addr : addr_cmp p.addr x.addr ≡ Equal = ap (λ (a : Addr). addr_cmp a x.addr) addr ∙ same_addr x.addr in
      let by_len : nat_cmp p.len x.len ≡ Greater = sym (nat_cmp_is p.len x.len Greater longer) in
      absurd (true≢false (sym le ∙ ap (λ (o : Ordering). is_le (ordering_then o (nat_cmp p.len x.len))) by_addr ∙ ap is_le by_len))
]

-- a shorter payload's prefix that covers a prefix covers the one of the last payload before it, too
module _ (payloads : List Payload) (front before : Subnet) (is : IsSubnet before) (last : IsLastBefore payloads front before) where
  before_le : is_le (subnet_cmp before front) ≡ true
  before_le = ap (λ (s : Subnet). is_le (subnet_cmp s front)) (sym last.is) ∙ ap is_le last.lies

  pub covers_before : (v : Payload) → has payloads v ≡ true → Covers v.prefix front → v.prefix.len < front.len → Covers v.prefix before
  covers_before v there covers less =
      let le = le_turned v.prefix before (last.last v there (shorter_before v.prefix front covers less)) in
      let begun = covers_mid v.prefix before front covers le before_le in
      record { shorter = not_longer v.prefix before is begun le; front = begun }
