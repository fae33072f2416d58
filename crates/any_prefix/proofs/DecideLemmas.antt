-- Any text spells a prefix, or it spells none.
use Rattle.std.proofs.Common.{◌≡◌, ◌≢◌, ℕ, zero, suc, ◌+◌, ◌-◌, ◌*◌, ◌/◌, ◌%◌, ◌^◌, ◌<◌, ◌≤◌, Bool, true, false, List, [], ◌∷◌, ◌++◌, length, refl, sym, ap, subst, ◌∙◌, arith, ◌⊎◌, inl, inr, decimal}
use Rattle.std.proofs.lemmas.Bool.Decides.{eqb_tells, leb_tells}
use Rattle.std.proofs.lemmas.Fmt.{decimal_injective}
use Rattle.std.proofs.lemmas.List.{length-append}
use Rattle.std.proofs.lemmas.List.Elements.{All-cons, All-nil}
use Rattle.path_model.specs.declared.addr.Addr.{Addr}
use Rattle.path_model.specs.declared.addr.Addr.TheVariants.{V4, V6}
use Rattle.path_model.specs.Prefix.{Subnet, IsAddr, IsSubnet, bits_of, number_of}
use Rattle.av_text.specs.AddressText.{IsAddrText, addr_text}
use Rattle.av_text.specs.Marks.{Lacks}
use Rattle.av_text.proofs.AnySpellingLemmas.{addr_or_none}
use Rattle.av_text.proofs.NumberLemmas.{number_or_none}
use Rattle.any_prefix.specs.AnyAddress.{IsAnyAddrText, IsFull, IsRun, IsSixText, number_of_groups}
use Rattle.any_prefix.specs.AnyPrefix.{IsAnyPrefixText}
use Rattle.any_prefix.specs.Group.{AreDigits, IsGroup, IsHexDigit}
use Rattle.any_prefix.specs.Reading.{IsFirstDouble}
use Rattle.any_prefix.proofs.DoubleLemmas.{none_compressed}
use Rattle.any_prefix.proofs.GroupLemmas.{hex_same}
use Rattle.any_prefix.proofs.RunLemmas.{end_none, full_run, group_run, joined_run, part_count, quad_run, same_count, splits}
use Rattle.any_prefix.proofs.TextLemmas.{addr_text_injective, has_mark, bits_most, one_cut}
use Rattle.any_prefix.proofs.UniqueLemmas.{any_same, any_slash}

-- something stands in this relation, or nothing does
abbrev pub SomeOrNone : {A : Type 0} → (A → Type 0) → Type 0
SomeOrNone {A} P = ((a : A) × P a) ⊎ ((a : A) → P a → ⊥)

-- ---- groups

within : (low high n : ℕ) → ((low ≤ n) × (n ≤ high)) ⊎ (low ≤ n → n ≤ high → ⊥)
within low high n = elim (leb_tells low n) [
  | inr below ↦ inr (λ is _. let never : ⊥ = omega (arith, is, below.1) in never)
  | inl least ↦ elim (leb_tells n high) [
    | inr above ↦ inr (λ _ is. let never : ⊥ = omega (arith, is, above.1) in never)
    | inl most ↦ inl (least.1, most.1)
  ]
]

no_hex : (byte d : ℕ) → (48 ≤ byte → byte ≤ 57 → ⊥) → (97 ≤ byte → byte ≤ 102 → ⊥) → (65 ≤ byte → byte ≤ 70 → ⊥) → IsHexDigit byte d → ⊥
no_hex byte d a b c (inl h) = a (omega (arith, h.1)) (omega (arith, h.0, h.1))
no_hex byte d a b c (inr (inl h)) = b (omega (arith, h.0, h.2)) (omega (arith, h.1, h.2))
no_hex byte d a b c (inr (inr h)) = c (omega (arith, h.0, h.2)) (omega (arith, h.1, h.2))

hex_or_none : (byte : ℕ) → SomeOrNone (IsHexDigit byte)
hex_or_none byte = elim (within 48 57 byte) [
  | inl is ↦ inl (byte - 48, inl (omega (arith, is.1), omega (arith, is.0)))
  | inr a ↦ elim (within 97 102 byte) [
    | inl is ↦ inl (byte - 87, inr (inl (omega (arith, is.0), omega (arith, is.1), omega (arith, is.0))))
    | inr b ↦ elim (within 65 70 byte) [
      | inl is ↦ inl (byte - 55, inr (inr (omega (arith, is.0), omega (arith, is.1), omega (arith, is.0))))
      | inr c ↦ inr (λ d h. no_hex byte d a b c h)
    ]
  ]
]

digits_or_none : (so_far : ℕ) (bs : List ℕ) → SomeOrNone (AreDigits so_far bs)
digits_or_none so_far [] = inl (so_far, refl)
digits_or_none so_far (b ∷ bs) = elim (hex_or_none b) [
  | inr none ↦ inr (λ n h. none h.0 h.1)
  | inl d ↦ elim (digits_or_none (so_far * 16 + d.0) bs) [
    | inl n ↦ inl (n.0, (d.0, d.1, n.1))
    | inr none ↦ inr (λ n h. none n (subst (λ (e : ℕ). AreDigits (so_far * 16 + e) bs n) (hex_same b h.0 d.0 h.1 d.1) h.2))
  ]
]

group_or_none : (text : List ℕ) → SomeOrNone (IsGroup text)
group_or_none text = elim (within 1 4 (length text)) [
  | inr not ↦ inr (λ n h. not h.some h.few)
  | inl is ↦ elim (digits_or_none 0 text) [
    | inl n ↦ inl (n.0, record { some = is.0; few = is.1; digits = n.1 })
    | inr none ↦ inr (λ n h. none n h.digits)
  ]
]

-- ---- a text is cut at the first mark, or lacks it

record IsCut (mark : ℕ) (text : List ℕ) : Type 0 where
  pub front : List ℕ
  pub rest : List ℕ
  pub lacks : Lacks mark front
  pub whole : text ≡ front ++ mark ∷ rest

cut_or_lacks : (mark : ℕ) (text : List ℕ) → IsCut mark text ⊎ Lacks mark text
cut_or_lacks mark [] = inr (All-nil (λ byte. byte ≢ mark))
cut_or_lacks mark (b ∷ bs) = elim (eqb_tells b mark) [
  | inl is ↦ inl (record { front = []; rest = bs; lacks = All-nil (λ byte. byte ≢ mark); whole = ap (λ (c : ℕ). c ∷ bs) is.1 })
  | inr other ↦ elim (cut_or_lacks mark bs) [
    | inl cut ↦ inl (record { front = b ∷ cut.front; rest = cut.rest; lacks = All-cons (λ byte. byte ≢ mark) b cut.front other.1 cut.lacks; whole = ap (λ (l : List ℕ). b ∷ l) cut.whole })
    | inr lacks ↦ inr (All-cons (λ byte. byte ≢ mark) b bs other.1 lacks)
  ]
]

-- ---- runs

abbrev IsFilled : Bool → List ℕ → List ℕ → Type 0
IsFilled last text groups = IsRun last text groups × (1 ≤ length groups)

no_four : (n m : ℕ) → V4 n ≡ V6 m → ⊥
no_four n m e = let never : ⊥ = cc in never

four_by : (text : List ℕ) → ((a : Addr) × IsAddr a × (text ≡ addr_text a)) ⊎ ((a : Addr) → IsAddr a → text ≢ addr_text a) → SomeOrNone (λ n. IsAddrText text (V4 n))
four_by text (inr none) = inr (λ n h. none (V4 n) h.0 h.1)
four_by text (inl (V4 n, small, is)) = inl (n, (small, is))
four_by text (inl (V6 m, small, is)) = inr (λ n h. no_four n m (addr_text_injective (V4 n) (V6 m) h.0 small (sym h.1 ∙ is)))

four_or_none : (text : List ℕ) → SomeOrNone (λ n. IsAddrText text (V4 n))
four_or_none text = four_by text (addr_or_none text)

end_or_none : (last : Bool) (text : List ℕ) → Lacks 58 text → SomeOrNone (IsFilled last text)
end_or_none last text lacks = by last where
  by : (b : Bool) → SomeOrNone (IsFilled b text)
  by false = elim (group_or_none text) [
    | inl g ↦ inl (g.0 ∷ [], (group_run false text g.0 g.1, omega arith))
    | inr no_group ↦ inr (λ gs h. end_none false text gs lacks h.0 h.1 no_group (λ n e is two. let never : ⊥ = cc in never))
  ]
  by true = elim (group_or_none text) [
    | inl g ↦ inl (g.0 ∷ [], (group_run true text g.0 g.1, omega arith))
    | inr no_group ↦ elim (four_or_none text) [
      | inl n ↦ inl (n.0 / 65536 ∷ n.0 % 65536 ∷ [], (quad_run true text n.0 refl n.1, omega arith))
      | inr no_quad ↦ inr (λ gs h. end_none true text gs lacks h.0 h.1 no_group (λ n e is two. no_quad n is))
    ]
  ]

-- a group before a colon, and a run behind it
behind_colon : (last : Bool) (text : List ℕ) (cut : IsCut 58 text) → SomeOrNone (IsFilled last cut.rest) → SomeOrNone (IsFilled last text)
behind_colon last text cut rest = elim (group_or_none cut.front) [
  | inr none ↦ inr (λ gs h. let s = splits last text cut.front cut.rest gs cut.whole cut.lacks h.0 h.1 in none s.head s.group)
  | inl g ↦ elim rest [
    | inl more ↦ inl (g.0 ∷ more.0, (joined_run last text cut.front cut.rest more.0 g.0 cut.whole g.1 more.1.0 more.1.1, omega arith))
    | inr none ↦ inr (λ gs h. let s = splits last text cut.front cut.rest gs cut.whole cut.lacks h.0 h.1 in none s.more (s.run, s.some))
  ]
]

rest_shorter : (fuel : ℕ) (text : List ℕ) (cut : IsCut 58 text) → length text ≤ suc fuel → length cut.rest ≤ fuel
rest_shorter fuel text cut few = omega (arith, few, ap length cut.whole, length-append cut.front (58 ∷ cut.rest))

run_or_none : (fuel : ℕ) (last : Bool) (text : List ℕ) → length text ≤ fuel → SomeOrNone (IsFilled last text)
run_or_none zero last text few = elim (cut_or_lacks 58 text) [
  | inr lacks ↦ end_or_none last text lacks
  | inl cut ↦ absurd (omega (arith, few, ap length cut.whole, length-append cut.front (58 ∷ cut.rest)))
]
run_or_none (suc fuel) last text few = elim (cut_or_lacks 58 text) [
  | inr lacks ↦ end_or_none last text lacks
  | inl cut ↦ behind_colon last text cut (run_or_none fuel last cut.rest (rest_shorter fuel text cut few))
]

filled_or_none : (last : Bool) (text : List ℕ) → SomeOrNone (IsFilled last text)
filled_or_none last text = run_or_none (length text) last text (omega arith)

part_or_none : (last : Bool) (text : List ℕ) → SomeOrNone (IsRun last text)
part_or_none last [] = inl ([], record { pieces = []; joins = refl; are = refl })
part_or_none last (b ∷ bs) = elim (filled_or_none last (b ∷ bs)) [
  | inl gs ↦ inl (gs.0, gs.1.0)
  | inr none ↦ inr (λ gs h. none gs (h, full_run last (b ∷ bs) gs (omega arith) h))
]

-- ---- addresses

full_or_none : (text : List ℕ) → SomeOrNone (IsFull text)
full_or_none text = elim (filled_or_none true text) [
  | inr none ↦ inr (λ n h. none h.groups (h.run, omega (arith, h.eight)))
  | inl gs ↦ elim (eqb_tells (length gs.0) 8) [
    | inl eight ↦ inl (number_of_groups gs.0, record { groups = gs.0; run = gs.1.0; eight = eight.1; number = refl })
    | inr other ↦ inr (λ n h. other.1 (same_count true text gs.0 h.groups gs.1.0 h.run gs.1.1 (omega (arith, h.eight)) ∙ h.eight))
  ]
]

-- the first two colons of a text
record FirstDouble (text : List ℕ) : Type 0 where
  pub left : List ℕ
  pub right : List ℕ
  pub whole : text ≡ left ++ 58 ∷ 58 ∷ right
  pub first : IsFirstDouble text (length left)

both_colons : (a b : ℕ) → ((a ≡ 58) × (b ≡ 58)) ⊎ (a ≡ 58 → b ≡ 58 → ⊥)
both_colons a b = elim (eqb_tells a 58) [
  | inr other ↦ inr (λ e _. other.1 e)
  | inl first ↦ elim (eqb_tells b 58) [ inl second ↦ inl (first.1, second.1) | inr other ↦ inr (λ _ e. other.1 e) ]
]

heads : (a b : ℕ) (xs ys : List ℕ) → a ∷ xs ≡ b ∷ ys → a ≡ b
heads a b xs ys e = cc

tails : (a b : ℕ) (xs ys : List ℕ) → a ∷ xs ≡ b ∷ ys → xs ≡ ys
tails a b xs ys e = cc

-- where the first two bytes aren't both colons
later_first : (a b : ℕ) (rest : List ℕ) (place : ℕ) → (a ≡ 58 → b ≡ 58 → ⊥) → IsFirstDouble (b ∷ rest) place → IsFirstDouble (a ∷ b ∷ rest) (suc place)
later_first a b rest place not first [] r is = absurd (not (heads a 58 (b ∷ rest) (58 ∷ r) is) (heads b 58 rest r (tails a 58 (b ∷ rest) (58 ∷ r) is)))
later_first a b rest place not first (x ∷ l) r is = let more = first l r (tails a x (b ∷ rest) (l ++ 58 ∷ 58 ∷ r) is) in omega (arith, more)

none_later : (a b : ℕ) (rest : List ℕ) → (a ≡ 58 → b ≡ 58 → ⊥) → ((l r : List ℕ) → b ∷ rest ≡ l ++ 58 ∷ 58 ∷ r → ⊥) → (l r : List ℕ) → a ∷ b ∷ rest ≡ l ++ 58 ∷ 58 ∷ r → ⊥
none_later a b rest not none [] r is = not (heads a 58 (b ∷ rest) (58 ∷ r) is) (heads b 58 rest r (tails a 58 (b ∷ rest) (58 ∷ r) is))
none_later a b rest not none (x ∷ l) r is = none l r (tails a x (b ∷ rest) (l ++ 58 ∷ 58 ∷ r) is)

double_or_none : (text : List ℕ) → FirstDouble text ⊎ ((l r : List ℕ) → text ≡ l ++ 58 ∷ 58 ∷ r → ⊥)
double_or_none [] = inr (λ l r is. omega (arith, ap length is, length-append l (58 ∷ 58 ∷ r)))
double_or_none (a ∷ []) = inr (λ l r is. omega (arith, ap length is, length-append l (58 ∷ 58 ∷ r)))
double_or_none (a ∷ b ∷ rest) = elim (both_colons a b) [
  | inl is ↦ inl (record { left = []; right = rest; whole = λ i. is.0 i ∷ is.1 i ∷ rest; first = λ l r e. omega arith })
  | inr not ↦ elim (double_or_none (b ∷ rest)) [
    | inl d ↦ inl (record { left = a ∷ d.left; right = d.right; whole = ap (λ (l : List ℕ). a ∷ l) d.whole; first = later_first a b rest (length d.left) not d.first })
    | inr none ↦ inr (none_later a b rest not none)
  ]
]

module _ (text : List ℕ) (d : FirstDouble text) where
  sides_or_none : SomeOrNone (IsRun false d.left) → SomeOrNone (IsRun true d.right) → SomeOrNone (IsSixText text)
  sides_or_none (inr none) right = inr (λ n h. none_compressed text d.left d.right n d.whole d.first (λ high low is other few. none high is) h)
  sides_or_none (inl high) (inr none) = inr (λ n h. none_compressed text d.left d.right n d.whole d.first (λ high low is other few. none low other) h)
  sides_or_none (inl high) (inl low) = elim (leb_tells (length high.0 + length low.0) 7) [
    | inl few ↦ inl (
      number_of_groups high.0 * 65536 ^ (8 - length high.0) + number_of_groups low.0,
      inr (record {
        left = d.left;
        right = d.right;
        high = high.0;
        low = low.0;
        splits = d.whole;
        high_run = high.1;
        low_run = low.1;
        some_left = few.1;
        number = refl;
      }),
    )
    | inr many ↦ inr (λ n h. none_compressed text d.left d.right n d.whole d.first (λ high' low' is other few.
        let never : ⊥ = omega (arith, many.1, few, part_count false d.left high.0 high' high.1 is, part_count true d.right low.0 low' low.1 other) in never) h)
  ]

six_or_none : (text : List ℕ) → SomeOrNone (IsSixText text)
six_or_none text = elim (double_or_none text) [
  | inl d ↦ sides_or_none text d (part_or_none false d.left) (part_or_none true d.right)
  | inr single ↦ elim (full_or_none text) [
    | inl n ↦ inl (n.0, inl n.1)
    | inr none ↦ inr (λ n h. elim h [ inl full ↦ none n full | inr c ↦ single c.left c.right c.splits ])
  ]
]

any_by : (text : List ℕ) → SomeOrNone (IsSixText text) → SomeOrNone (λ n. IsAddrText text (V4 n)) → SomeOrNone (IsAnyAddrText text)
any_by text (inl n) four = inl (V6 n.0, n.1)
any_by text (inr no_six) (inl n) = inl (V4 n.0, n.1)
any_by text (inr no_six) (inr no_four) = inr neither where
  neither : (a : Addr) → IsAnyAddrText text a → ⊥
  neither (V4 n) h = no_four n h
  neither (V6 n) h = no_six n h

any_or_none : (text : List ℕ) → SomeOrNone (IsAnyAddrText text)
any_or_none text = any_by text (six_or_none text) (four_or_none text)

-- ---- prefixes

subnet_or_not : (p : Subnet) → IsSubnet p ⊎ (IsSubnet p → ⊥)
subnet_or_not p = elim (leb_tells (suc (number_of p.addr)) (2 ^ bits_of p.addr)) [
  | inr large ↦ inr (λ (is : IsSubnet p). let never : ⊥ = omega (arith, is.is_addr, large.1) in never)
  | inl small ↦ elim (leb_tells p.len (bits_of p.addr)) [
    | inr long ↦ inr (λ (is : IsSubnet p). let never : ⊥ = omega (arith, is.within, long.1) in never)
    | inl short ↦ elim (eqb_tells (number_of p.addr % 2 ^ (bits_of p.addr - p.len)) 0) [
      | inr more ↦ inr (λ (is : IsSubnet p). more.1 is.clear)
      | inl clear ↦ inl (record { is_addr = omega (arith, small.1); within = short.1; clear = clear.1 })
    ]
  ]
]

module _ (text : List ℕ) (cut : IsCut 47 text) where
  record IsParts (p : Subnet) : Type 0 where
    pub address : IsAnyAddrText cut.front p.addr
    pub length : cut.rest ≡ decimal p.len

  parts_of : (p : Subnet) → IsAnyPrefixText text p → IsParts p
  parts_of p is =
      let e = one_cut 47 cut.front is.front cut.rest (decimal p.len) cut.lacks (any_slash is.front p.addr is.address) (sym cut.whole ∙ is.whole) in
      record { address = subst (λ (t : List ℕ). IsAnyAddrText t p.addr) (sym e.0) is.address; length = e.1 }

  short : (p : Subnet) → IsAnyPrefixText text p → p.len < 2 ^ 32
  short p is = omega (arith, is.is_subnet.within, bits_most p.addr)

  module _ (a : Addr) (address : IsAnyAddrText cut.front a) (n : ℕ) (low : n < 2 ^ 32) (number : cut.rest ≡ decimal n) where
    abbrev meant : Subnet
    meant = record { addr = a; len = n }

    only_meant : (p : Subnet) → IsAnyPrefixText text p → p ≡ meant
    only_meant p is =
        let parts = parts_of p is in
        let addrs : p.addr ≡ a = any_same cut.front p.addr a parts.address address in
        let lens : p.len ≡ n = decimal_injective p.len n (omega (arith, short p is)) (omega (arith, low)) (sym parts.length ∙ number) in
        λ i. record { addr = addrs i; len = lens i }

    meant_or_none : IsSubnet meant ⊎ (IsSubnet meant → ⊥) → SomeOrNone (IsAnyPrefixText text)
    meant_or_none (inl is) = inl (meant, record { is_subnet = is; front = cut.front; address = address; whole = cut.whole ∙ ap (λ (t : List ℕ). cut.front ++ 47 ∷ t) number })
    meant_or_none (inr not) = inr (λ p is. not (subst IsSubnet (only_meant p is) is.is_subnet))

  cut_or_none : SomeOrNone (IsAnyPrefixText text)
  cut_or_none = elim (any_or_none cut.front) [
    | inr none ↦ inr (λ p is. none p.addr (parts_of p is).address)
    | inl a ↦ elim (number_or_none cut.rest) [
      | inl none ↦ inr (λ p is. none p.len (short p is) (parts_of p is).length)
      | inr n ↦ meant_or_none a.0 a.1 n.0 n.1 n.2 (subnet_or_not (record { addr = a.0; len = n.0 }))
    ]
  ]

pub prefix_or_none : (text : List ℕ) → SomeOrNone (IsAnyPrefixText text)
prefix_or_none text = elim (cut_or_lacks 47 text) [
  | inl cut ↦ cut_or_none text cut
  | inr lacks ↦ inr (λ p is. has_mark 47 is.front (decimal p.len) (subst (λ (t : List ℕ). Lacks 47 t) is.whole lacks))
]
