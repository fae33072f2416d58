-- Numbers of four bytes each.
use Rattle.std.proofs.Common.{◌≡◌, ℕ, zero, suc, ◌+◌, ◌-◌, ◌*◌, ◌/◌, ◌%◌, ◌<◌, ◌≤◌, List, [], ◌∷◌, length, drop, refl, sym, ap, ◌∙◌, arith}
use Rattle.std.specs.Prelude.{slice_index}
use Rattle.std.proofs.Math.Nat.{div-add-mod, mul-mod_right}
use Rattle.std.proofs.lemmas.List.{drop-drop, ext_get_or, length-drop}
use Rattle.byteorder.specs.Endian.{big_number}
use Rattle.rtr_pdu.specs.Pdus.{AreNumbers, u32_at}

pub length_of_providers : (len : ℕ) → 12 ≤ len → (len - 12) % 4 ≡ 0 → (providers : ℕ) × (len ≡ 12 + 4 * providers)
length_of_providers len least rest = ((len - 12) / 4, omega (arith, div-add-mod (len - 12) 4))

pub providers_of_length : (len : ℕ) → (providers : ℕ) × (len ≡ 12 + 4 * providers) → (len - 12) % 4 ≡ 0
providers_of_length len (providers, is) = let e : len - 12 ≡ 4 * providers = omega arith in ap (λ n. n % 4) e ∙ mul-mod_right 4 providers

-- the first so many numbers of these bytes
pub record NumbersSoFar (bytes numbers : List ℕ) (count : ℕ) : Type 0 where
  pub many : length numbers ≡ count
  pub each : (k : ℕ) → k < length numbers → slice_index numbers k ≡ u32_at bytes (4 * k)

-- bytes are at most one list of numbers
pub AreNumbers-unique : (bytes one other : List ℕ) → AreNumbers bytes one → AreNumbers bytes other → one ≡ other
AreNumbers-unique bytes one other a b =
    let many : length one ≡ length other = omega (arith, a.fill, b.fill) in
    ext_get_or 0 one other many (λ i lt. a.each i lt ∙ sym (b.each i (omega (arith, lt, many))))

number_behind : (bytes : List ℕ) (k : ℕ) → u32_at (drop 4 bytes) (4 * k) ≡ u32_at bytes (4 * suc k)
number_behind bytes k =
    let place : 4 + 4 * k ≡ 4 * suc k = omega arith in
    ap (big_number 4) (drop-drop (4 * k) 4 bytes ∙ ap (λ n. drop n bytes) place)

each_cons : (bytes numbers : List ℕ) → AreNumbers (drop 4 bytes) numbers → (k : ℕ) → k < length (u32_at bytes 0 ∷ numbers) → slice_index (u32_at bytes 0 ∷ numbers) k ≡ u32_at bytes (4 * k)
each_cons bytes numbers are zero lt = refl
each_cons bytes numbers are (suc k) lt = are.each k (omega (arith, lt)) ∙ number_behind bytes k

AreNumbers-cons : (bytes numbers : List ℕ) → 4 ≤ length bytes → AreNumbers (drop 4 bytes) numbers → AreNumbers bytes (u32_at bytes 0 ∷ numbers)
AreNumbers-cons bytes numbers long are = record { fill = omega (arith, are.fill, length-drop 4 bytes, long); each = each_cons bytes numbers are }

-- bytes of which four make a number are some numbers
pub numbers_of : (count : ℕ) (bytes : List ℕ) → length bytes ≡ 4 * count → (numbers : List ℕ) × AreNumbers bytes numbers
numbers_of zero bytes is = ([], record { fill = is; each = λ k lt. let never : ⊥ = omega (arith, lt) in absurd never })
numbers_of (suc count) bytes is =
    let more = numbers_of count (drop 4 bytes) (omega (arith, is, length-drop 4 bytes)) in
    (u32_at bytes 0 ∷ more.0, AreNumbers-cons bytes more.0 (omega (arith, is)) more.1)
