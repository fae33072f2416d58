-- Prefixes that cover others: an order, and one that can be decided.
use Rattle.std.proofs.Common.{◌≡◌, ℕ, ◌+◌, ◌-◌, ◌*◌, ◌/◌, ◌%◌, ◌^◌, ◌<◌, ◌≤◌, Bool, true, false, cond, nat_le, Some, None, refl, sym, ap, subst, ◌∙◌, arith, ◌⊎◌, inl, inr, true≢false}
use Rattle.std.specs.declared.option.Option.{Option}
use Rattle.std.specs.BTreeMap.{is_at}
use Rattle.std.specs.Option.{unwrap_or}
use Rattle.std.specs.Cmp.{Equal-is}
use Rattle.std.proofs.lemmas.Bool.{le-leb, leb-true}
use Rattle.std.proofs.Math.Nat.{mul_assoc}
use Rattle.std.proofs.lemmas.Nat.{div-mul-add, div-add-mod', mod_below, mul-le, pow-add, pow_pos, le-div}
use Rattle.path_model.specs.declared.addr.Addr.{Addr}
use Rattle.path_model.specs.declared.addr.Addr.TheVariants.{V4, V6}
use Rattle.path_model.specs.Prefix.{Subnet, IsSubnet, bits_of, number_of, cleared, prefix_of, subnet_cmp, without_last}
use Rattle.path_model.proofs.OrderLemmas.{subnet_exact}
use Rattle.origin_model.specs.Covering.{Covers}
use Rattle.origin_model.proofs.PayloadLemmas.{subnet_itself}

pub some_is : (a b : Subnet) → Some a ≡ Some b → a ≡ b
some_is a b e = ap (λ (o : Option Subnet). unwrap_or o a) e

-- ---- what begins an address

abbrev front_of : Addr → ℕ → Subnet
front_of addr len = record { addr = cleared len addr; len = len }

-- it is this prefix, and the length is within the address
pub record Begins (addr : Addr) (len : ℕ) (p : Subnet) : Type 0 where
  pub within : len ≤ bits_of addr
  pub is : front_of addr len ≡ p

begins_by : (b : Bool) (addr : Addr) (len : ℕ) (p : Subnet) → nat_le len (bits_of addr) ≡ b → cond {A = Option Subnet} b (Some (front_of addr len)) None ≡ Some p → Begins addr len p
begins_by true addr len p fits e = record { within = leb-true len (bits_of addr) fits; is = some_is (front_of addr len) p e }
begins_by false addr len p fits e = absurd cc

pub begins : (addr : Addr) (len : ℕ) (p : Subnet) → prefix_of addr len ≡ Some p → Begins addr len p
begins addr len p e = begins_by (nat_le len (bits_of addr)) addr len p refl e

pub begun : (addr : Addr) (len : ℕ) → len ≤ bits_of addr → prefix_of addr len ≡ Some (front_of addr len)
begun addr len within = ap (λ (b : Bool). cond {A = Option Subnet} b (Some (front_of addr len)) None) (le-leb len (bits_of addr) within)

-- ---- each prefix covers itself

without_last-clear : (spare n : ℕ) → n % 2 ^ spare ≡ 0 → without_last spare n ≡ n
without_last-clear spare n clear = let whole = div-add-mod' n (2 ^ spare) in omega arith

cleared-clear : (a : Addr) (len : ℕ) → number_of a % 2 ^ (bits_of a - len) ≡ 0 → cleared len a ≡ a
cleared-clear (V4 n) len clear = ap V4 (without_last-clear (32 - len) n clear)
cleared-clear (V6 n) len clear = ap V6 (without_last-clear (128 - len) n clear)

pub own_front : (p : Subnet) → IsSubnet p → prefix_of p.addr p.len ≡ Some p
own_front p is = begun p.addr p.len is.within ∙ ap (λ (a : Addr). Some (record { addr = a; len = p.len })) (cleared-clear p.addr p.len is.clear)

pub covers_itself : (p : Subnet) → IsSubnet p → Covers p p
covers_itself p is = record { shorter = omega arith; front = own_front p is }

-- ---- what a covered prefix covers is covered

-- clearing more bits in place of fewer
cut_between : (w b c : ℕ) → 0 < w → c / w * w ≤ b → b ≤ c → b / w ≡ c / w
cut_between w b c some low high =
    let e = div-add-mod' c w in
    let below : c % w < w = mod_below c w some in
    let rest : b - c / w * w < w = omega (arith, e, below, low, high) in
    let whole : b ≡ c / w * w + (b - c / w * w) = omega (arith, low) in
    ap (λ (n : ℕ). n / w) whole ∙ div-mul-add (c / w) w (b - c / w * w) rest

nested_low : (v u n : ℕ) → 0 < u → n / (v * u) * (v * u) ≤ n / u * u
nested_low v u n some =
    let k = n / (v * u) in
    let whole = div-add-mod' n (v * u) in
    let turned : k * (v * u) ≡ k * v * u = sym (mul_assoc k v u) in
    let low : k * v * u ≤ n = omega (arith, whole, turned) in
    let part : k * v ≤ n / u = le-div (k * v) n u some low in
    let more : k * v * u ≤ n / u * u = mul-le (k * v) u (n / u) u part (omega arith) in
    omega (arith, turned, more)

cut_low : (u n : ℕ) → n / u * u ≤ n
cut_low u n = let whole = div-add-mod' n u in omega (arith, whole)

-- clearing more bits gives no more
cut_more : (s t n : ℕ) → s ≤ t → n / 2 ^ t * 2 ^ t ≤ n / 2 ^ s * 2 ^ s
cut_more s t n le =
    let split : 2 ^ (t - s) * 2 ^ s ≡ 2 ^ t = sym (pow-add 2 (t - s) s) ∙ ap (λ (k : ℕ). 2 ^ k) (omega (arith, le)) in
    subst (λ (w : ℕ). n / w * w ≤ n / 2 ^ s * 2 ^ s) split (nested_low (2 ^ (t - s)) (2 ^ s) n (pow_pos s))

cut_cut : (s t n : ℕ) → s ≤ t → without_last t (without_last s n) ≡ without_last t n
cut_cut s t n le = ap (λ (k : ℕ). k * 2 ^ t) (cut_between (2 ^ t) (n / 2 ^ s * 2 ^ s) n (pow_pos t) (cut_more s t n le) (cut_low (2 ^ s) n))

-- what is clear behind a length is clear behind a longer one
still_clear : (s t n : ℕ) → s ≤ t → n % 2 ^ t ≡ 0 → without_last s n ≡ n
still_clear s t n le clear = let all = without_last-clear t n clear in let more = cut_more s t n le in let low = cut_low (2 ^ s) n in omega (arith, all, more, low)

pub clear_longer : (a : Addr) (m n : ℕ) → m ≤ n → number_of a % 2 ^ (bits_of a - m) ≡ 0 → cleared n a ≡ a
clear_longer (V4 k) m n le clear = ap V4 (still_clear (32 - n) (32 - m) k (omega (arith, le)) clear)
clear_longer (V6 k) m n le clear = ap V6 (still_clear (128 - n) (128 - m) k (omega (arith, le)) clear)

fronts_through : (a : Addr) (m n : ℕ) (p : Subnet) → m ≤ n → prefix_of (cleared n a) m ≡ Some p → prefix_of a m ≡ Some p
fronts_through (V4 c) m n p le e =
    ap (λ (k : ℕ). cond {A = Option Subnet} (nat_le m 32) (Some (record { addr = V4 k; len = m })) None) (sym (cut_cut (32 - n) (32 - m) c (omega (arith, le)))) ∙ e
fronts_through (V6 c) m n p le e =
    ap (λ (k : ℕ). cond {A = Option Subnet} (nat_le m 128) (Some (record { addr = V6 k; len = m })) None) (sym (cut_cut (128 - n) (128 - m) c (omega (arith, le)))) ∙ e

pub covers_through : (p q r : Subnet) → Covers p q → Covers q r → Covers p r
covers_through p q r first second = record {
  shorter = omega (arith, first.shorter, second.shorter);
  front = fronts_through r.addr p.len q.len p first.shorter
      (subst (λ (s : Subnet). prefix_of s.addr p.len ≡ Some p) (sym ((begins r.addr q.len q second.front).is)) first.front);
}

-- of two that cover a third one, the shorter covers the longer

fronts_back : (a : Addr) (m n : ℕ) (p : Subnet) → m ≤ n → prefix_of a m ≡ Some p → prefix_of (cleared n a) m ≡ Some p
fronts_back (V4 c) m n p le e =
    ap (λ (k : ℕ). cond {A = Option Subnet} (nat_le m 32) (Some (record { addr = V4 k; len = m })) None) (cut_cut (32 - n) (32 - m) c (omega (arith, le))) ∙ e
fronts_back (V6 c) m n p le e =
    ap (λ (k : ℕ). cond {A = Option Subnet} (nat_le m 128) (Some (record { addr = V6 k; len = m })) None) (cut_cut (128 - n) (128 - m) c (omega (arith, le))) ∙ e

pub covers_between : (p q r : Subnet) → Covers p r → Covers q r → p.len ≤ q.len → Covers p q
covers_between p q r first second le = record {
  shorter = le;
  front = subst (λ (s : Subnet). prefix_of s.addr p.len ≡ Some p) (begins r.addr q.len q second.front).is (fronts_back r.addr p.len q.len p le first.front);
}

-- ---- two that cover each other, and families

pub covers_only : (p q : Subnet) → IsSubnet q → Covers p q → Covers q p → p ≡ q
covers_only p q is there back =
    let len : p.len ≡ q.len = omega (arith, there.shorter, back.shorter) in
    some_is p q (sym there.front ∙ ap (prefix_of q.addr) len ∙ own_front q is)

cleared_bits : (len : ℕ) (a : Addr) → bits_of (cleared len a) ≡ bits_of a
cleared_bits len (V4 n) = refl
cleared_bits len (V6 n) = refl

pub covers_family : (p q : Subnet) → Covers p q → bits_of p.addr ≡ bits_of q.addr
covers_family p q covers = ap (λ (s : Subnet). bits_of s.addr) (sym ((begins q.addr p.len p covers.front).is)) ∙ cleared_bits p.len q.addr

-- ---- whether it covers can be decided

front_decided : (q p : Subnet) (b : Bool) → is_at (subnet_cmp q) p ≡ b → (Some q ≡ Some p) ⊎ (¬ (Some q ≡ Some p))
front_decided q p true same = inl (ap Some (subnet_exact q p ((Equal-is (subnet_cmp q p)).0 same)))
front_decided q p false other =
    inr (λ e. true≢false (sym (subst (λ (s : Subnet). is_at (subnet_cmp q) s ≡ true) (some_is q p e) ((Equal-is (subnet_cmp q q)).1 (subnet_itself q))) ∙ other))

some_decided : (o : Option Subnet) (p : Subnet) → (o ≡ Some p) ⊎ (¬ (o ≡ Some p))
some_decided None p = inr (λ e. absurd cc)
some_decided (Some q) p = front_decided q p (is_at (subnet_cmp q) p) refl

le_or_less : (m n : ℕ) → (m ≤ n) ⊎ (n < m)
le_or_less m n = search arith

pub covers_decided : (p q : Subnet) → Covers p q ⊎ (¬ Covers p q)
covers_decided p q = elim (le_or_less p.len q.len) [
  | inr less ↦ inr (λ covers. omega (arith, less, covers.shorter))
  | inl le ↦ elim (some_decided (prefix_of q.addr p.len) p) [
    | inl is ↦ inl (record { shorter = le; front = is })
    | inr other ↦ inr (λ covers. other covers.front)
  ]
]
