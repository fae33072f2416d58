-- One text spells one address.
use Rattle.std.proofs.Common.{◌≡◌, ◌≢◌, ℕ, ◌+◌, ◌-◌, ◌*◌, ◌^◌, ◌/◌, ◌%◌, ◌<◌, ◌≤◌, Bool, true, false, List, [], ◌∷◌, ◌++◌, length, decimal, refl, sym, ap, subst, ◌∙◌, arith, ◌⊎◌, inl, inr, Option, Some, None}
use Rattle.std.proofs.lemmas.List.Elements.{All-append, All-cons, All-nil}
use Rattle.std.proofs.lemmas.Fmt.{decimal_injective}
use Rattle.path_model.specs.declared.addr.Addr.{Addr}
use Rattle.path_model.specs.declared.addr.Addr.TheVariants.{V4, V6}
use Rattle.std.proofs.lemmas.Nat.{div-add-mod'}
use Rattle.path_model.specs.Prefix.{Subnet, IsSubnet, prefix_of, bits_of, number_of, cleared, without_last}
use Rattle.av_text.specs.AddressText.{IsAddrText}
use Rattle.av_text.specs.Marks.{Lacks}
use Rattle.any_prefix.proofs.TextLemmas.{addr_text_injective, bits_most, has_mark, one_cut, quad_colon, quad_slash}
use Rattle.any_prefix.specs.AnyAddress.{joined, AreGroups, IsRun, IsFull, IsCompressed, IsAnyAddrText, number_of_groups}
use Rattle.any_prefix.specs.AnyPrefix.{IsAnyPrefixText}
use Rattle.any_prefix.specs.Reading.{AreAnyParts}
use Rattle.any_prefix.proofs.GroupLemmas.{group_lacks, no_slash}
use Rattle.any_prefix.proofs.RunLemmas.{quad_run, part_same, part_count}
use Rattle.any_prefix.proofs.DoubleLemmas.{aligned_from, run_single}

-- ---- one address

full_same : (text : List ℕ) (m n : ℕ) → IsFull text m → IsFull text n → m ≡ n
full_same text m n f g = f.number ∙ ap number_of_groups (part_same true text f.groups g.groups f.run g.run) ∙ sym g.number

compressed_from : (text : List ℕ) (m n : ℕ) (c : IsCompressed text m) (d : IsCompressed text n) → length c.left ≤ length d.left → m ≡ n
compressed_from text m n c d le =
    let e = aligned_from text c.left c.right d.left d.right d.high c.splits le d.splits d.high_run in
    let high = part_same false c.left c.high d.high c.high_run (subst (λ (t : List ℕ). IsRun false t d.high) e.0 d.high_run) in
    let low = part_same true c.right c.low d.low c.low_run (subst (λ (t : List ℕ). IsRun true t d.low) e.1 d.low_run) in
    c.number ∙ ap (λ (h : List ℕ). number_of_groups h * 65536 ^ (8 - length h) + number_of_groups c.low) high
    ∙ ap (λ (l : List ℕ). number_of_groups d.high * 65536 ^ (8 - length d.high) + number_of_groups l) low ∙ sym d.number

either_first : (m n : ℕ) → (m ≤ n) ⊎ (n ≤ m)
either_first m n = search arith

compressed_same : (text : List ℕ) (m n : ℕ) → IsCompressed text m → IsCompressed text n → m ≡ n
compressed_same text m n c d = elim (either_first (length c.left) (length d.left)) [
  | inl le ↦ compressed_from text m n c d le
  | inr le ↦ sym (compressed_from text n m d c le)
]

six_same : (text : List ℕ) (m n : ℕ) → IsFull text m ⊎ IsCompressed text m → IsFull text n ⊎ IsCompressed text n → m ≡ n
six_same text m n (inl f) (inl g) = full_same text m n f g
six_same text m n (inl f) (inr d) = absurd (run_single true text f.groups d.left d.right f.run d.splits)
six_same text m n (inr c) (inl g) = absurd (run_single true text g.groups c.left c.right g.run c.splits)
six_same text m n (inr c) (inr d) = compressed_same text m n c d

quad_not_six : (text : List ℕ) (m n : ℕ) → IsAddrText text (V4 m) → IsFull text n ⊎ IsCompressed text n → ⊥
quad_not_six text m n q (inl f) = omega (arith, f.eight, part_count true text f.groups (m / 65536 ∷ m % 65536 ∷ []) f.run (quad_run true text m refl q))
quad_not_six text m n q (inr c) = has_mark 58 c.left (58 ∷ c.right) (subst (λ (t : List ℕ). Lacks 58 t) c.splits (quad_colon text m q))

pub any_same : (text : List ℕ) (a b : Addr) → IsAnyAddrText text a → IsAnyAddrText text b → a ≡ b
any_same text (V4 m) (V4 n) x y = addr_text_injective (V4 m) (V4 n) x.0 y.0 (sym x.1 ∙ y.1)
any_same text (V4 m) (V6 n) x y = absurd (quad_not_six text m n x y)
any_same text (V6 m) (V4 n) x y = absurd (quad_not_six text n m y x)
any_same text (V6 m) (V6 n) x y = ap V6 (six_same text m n x y)

-- ---- no slash in an address

abbrev NoSlash : ℕ → Type 0
NoSlash byte = byte ≢ 47

colon_slash : NoSlash 58
colon_slash e = cc

one_slash : (last : Bool) (p gs : List ℕ) → AreGroups last (p ∷ []) gs → Lacks 47 p
one_slash last p gs (inl h) = group_lacks 47 no_slash p h.0 h.1
one_slash last p gs (inr h) = quad_slash p h.0 h.2

more_slash : (p rest : List ℕ) → Lacks 47 p → Lacks 47 rest → Lacks 47 (p ++ 58 ∷ rest)
more_slash p rest a b = All-append NoSlash p (58 ∷ rest) a (All-cons NoSlash 58 rest colon_slash b)

joined_slash : (last : Bool) (ps : List (List ℕ)) (gs : List ℕ) → AreGroups last ps gs → Lacks 47 (joined ps)
joined_slash last [] gs are = All-nil NoSlash
joined_slash last (p ∷ []) gs are = one_slash last p gs are
joined_slash last (p ∷ q ∷ ps) gs are = more_slash p (joined (q ∷ ps)) (group_lacks 47 no_slash p are.0 are.2) (joined_slash last (q ∷ ps) are.1 are.3)

run_slash : (last : Bool) (text gs : List ℕ) → IsRun last text gs → Lacks 47 text
run_slash last text gs run = subst (λ (t : List ℕ). Lacks 47 t) (sym run.joins) (joined_slash last run.pieces gs run.are)

six_slash : (text : List ℕ) (n : ℕ) → IsFull text n ⊎ IsCompressed text n → Lacks 47 text
six_slash text n (inl f) = run_slash true text f.groups f.run
six_slash text n (inr c) = subst (λ (t : List ℕ). Lacks 47 t) (sym c.splits)
    (more_slash c.left (58 ∷ c.right) (run_slash false c.left c.high c.high_run) (All-cons NoSlash 58 c.right colon_slash (run_slash true c.right c.low c.low_run)))

pub any_slash : (text : List ℕ) (a : Addr) → IsAnyAddrText text a → Lacks 47 text
any_slash text (V4 n) x = quad_slash text n x
any_slash text (V6 n) x = six_slash text n x

-- ---- parts

pub parts_cut : (text front back : List ℕ) (a : Addr) (n : ℕ) → text ≡ front ++ 47 ∷ back → Lacks 47 front → AreAnyParts text a n → IsAnyAddrText front a × (back ≡ decimal n) × (n < 256)
parts_cut text front back a n cut lacks parts =
    let e = one_cut 47 front parts.front back (decimal n) lacks (any_slash parts.front a parts.address) (sym cut ∙ parts.whole) in
    (subst (λ (t : List ℕ). IsAnyAddrText t a) (sym e.0) parts.address, e.1, parts.small)

pub parts_no_slash : (text : List ℕ) (a : Addr) (n : ℕ) → Lacks 47 text → AreAnyParts text a n → ⊥
parts_no_slash text a n lacks parts = has_mark 47 parts.front (decimal n) (subst (λ (t : List ℕ). Lacks 47 t) parts.whole lacks)

pub parts_same : (text : List ℕ) (a b : Addr) (m n : ℕ) → AreAnyParts text a m → AreAnyParts text b n → (a ≡ b) × (m ≡ n)
parts_same text a b m n one other =
    let c = parts_cut text one.front (decimal m) b n one.whole (any_slash one.front a one.address) other in
    (any_same one.front a b one.address c.0, decimal_injective m n (omega (arith, one.small)) (omega (arith, other.small)) c.1)

-- ---- the prefix of a text's parts
without_last-clear : (spare n : ℕ) → n % 2 ^ spare ≡ 0 → without_last spare n ≡ n
without_last-clear spare n clear = let whole = div-add-mod' n (2 ^ spare) in omega arith

cleared-clear : (a : Addr) (len : ℕ) → number_of a % 2 ^ (bits_of a - len) ≡ 0 → cleared len a ≡ a
cleared-clear (V4 n) len clear = ap V4 (without_last-clear (32 - len) n clear)
cleared-clear (V6 n) len clear = ap V6 (without_last-clear (128 - len) n clear)

prefix_of-subnet : (prefix : Subnet) → IsSubnet prefix → prefix_of prefix.addr prefix.len ≡ Some prefix
prefix_of-subnet prefix is =
    let same = cleared-clear prefix.addr prefix.len is.clear in
    let F : Addr → Subnet = λ a. record { addr = a; len = prefix.len } in
    let within = is.within in grind arith

pub prefix_parts : (text : List ℕ) (prefix : Subnet) → IsAnyPrefixText text prefix → AreAnyParts text prefix.addr prefix.len
prefix_parts text prefix is = record {
  front = is.front;
  address = is.address;
  is_addr = is.is_subnet.is_addr;
  small = omega (arith, is.is_subnet.within, bits_most prefix.addr);
  whole = is.whole;
}

pub prefix_made : (text : List ℕ) (a : Addr) (n : ℕ) (prefix : Subnet) → AreAnyParts text a n → IsAnyPrefixText text prefix → (prefix_of a n ≡ Some prefix) × (prefix.addr ≡ a)
prefix_made text a n prefix parts is =
    let e = parts_same text a prefix.addr n prefix.len parts (prefix_parts text prefix is) in
    (ap (λ (x : Addr). prefix_of x n) e.0 ∙ ap (λ (l : ℕ). prefix_of prefix.addr l) e.1 ∙ prefix_of-subnet prefix is.is_subnet, sym e.0)

pub not_made : (text : List ℕ) (a : Addr) (n : ℕ) (found : Option Subnet) → AreAnyParts text a n → found ≡ prefix_of a n → found ≡ None → (prefix : Subnet) → IsAnyPrefixText text prefix → ⊥
not_made text a n found parts made none prefix is = let e = (prefix_made text a n prefix parts is).0 in cc

pub not_clear : (text : List ℕ) (a : Addr) (n : ℕ) (found : Option Subnet) (p : Subnet) → AreAnyParts text a n → found ≡ prefix_of a n → found ≡ Some p → (p.addr ≡ a → ⊥) → (prefix : Subnet) → IsAnyPrefixText text prefix → ⊥
not_clear text a n found p parts made is_found other prefix is =
    let e = prefix_made text a n prefix parts is in
    let one : p ≡ prefix = let f = e.0 in cc in other (ap (λ (s : Subnet). s.addr) one ∙ e.1)
