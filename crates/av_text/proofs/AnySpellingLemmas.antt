-- A text is an address, or none, and a prefix, or none; and the laws of the spellings.
use Rattle.std.proofs.Common.{◌≡◌, ◌≢◌, ◌⊎◌, inl, inr, ℕ, zero, suc, ◌<◌, ◌+◌, ◌-◌, ◌*◌, ◌/◌, ◌%◌, ◌^◌, List, [], ◌∷◌, ◌++◌, decimal, sym, ap, subst, ◌∙◌, arith}
use Rattle.std.specs.Char.{digit_char, digit_value}
use Rattle.std.proofs.Math.Nat.{pow-suc, pow-zero}
use Rattle.std.proofs.lemmas.Bool.{cases_eq, cases_lt}
use Rattle.std.proofs.lemmas.Str.{digit_value-digit_char}
use Rattle.std.proofs.lemmas.List.Elements.{All-cons, All-nil, All-weaker}
use Rattle.std.specs.Bool.{IsTrue}
use Rattle.av_text.proofs.NumberLemmas.{number_or_none}
use Rattle.path_model.specs.declared.addr.Addr.{Addr}
use Rattle.path_model.specs.declared.addr.Addr.TheVariants.{V4, V6}
use Rattle.path_model.specs.declared.peer.Peer.{Peer}
use Rattle.path_model.specs.Name.{is_name_byte}
use Rattle.path_model.specs.Prefix.{bits_of, number_of, IsAddr, Subnet, IsSubnet}
use Rattle.av_text.specs.Marks.{Lacks}
use Rattle.av_text.specs.AddressText.{parts_text, hex4, addr_text}
use Rattle.path_model.specs.declared.role.Role.{Role}
use Rattle.av_text.specs.Number.{Is32Bit}
use Rattle.av_text.specs.RoleText.{role_text}
use Rattle.av_text.specs.PrefixText.{prefix_text}
use Rattle.av_text.specs.Parts.{AreParts}
use Rattle.av_text.specs.Spellings.{SpellsOne, OnePrefixPerText, OnePeerPerText, NumbersAreInLine, AddressesAreInLine, PrefixesAreInLine, PeersAreInLine, NamesAreInLine, RolesAreInLine, VerdictsAreInLine}
use Rattle.av_text.proofs.LackLemmas.{decimal-lacks, role_text-lacks, verdict_text-lacks}
use Rattle.av_text.proofs.SpellingLemmas.{decided_role}
use Rattle.av_text.proofs.PartLemmas.{KeepsApart, parts_some, parts_not_cut, parts_not_high, parts_not_low, octets_apart, groups_apart}
use Rattle.av_text.proofs.OctetLemmas.{no_octet, large_octet}
use Rattle.av_text.proofs.AddressLemmas.{one_digit, addr_lacks, bits_most, marked_lacks, marked_injective}
use Rattle.av_text.proofs.PrefixLemmas.{no_parts, parts_not_slash, parts_not_addr, parts_not_len, parts_of, prefix_read, not_of, unclear_of}

-- a text with a mark, cut at its first, or one without
cut_or_none : (mark : ℕ) (text : List ℕ) → ((front : List ℕ) × (rest : List ℕ) × (text ≡ front ++ mark ∷ rest) × Lacks mark front) ⊎ Lacks mark text
cut_or_none mark [] = inr (All-nil (λ byte. byte ≢ mark))
cut_or_none mark (b ∷ bs) =
    let P : ℕ → Type 0 = λ byte. byte ≢ mark in
    elim (cases_eq b mark) [
      | inl same ↦ inl ([], bs, ap (λ (x : ℕ). x ∷ bs) same, All-nil P)
      | inr other ↦ elim (cut_or_none mark bs) [
        | inl cut ↦ inl (b ∷ cut.0, cut.1, ap (λ (xs : List ℕ). b ∷ xs) cut.2, All-cons P b cut.0 other cut.3)
        | inr lacks ↦ inr (All-cons P b bs other lacks)
      ]
    ]

one_more : (base n : ℕ) → n < base → n < base ^ (zero + 1)
one_more base n small = let e : base ^ 0 * base ≡ 1 * base = ap (λ (p : ℕ). p * base) (pow-zero base) in let one : base ^ 1 ≡ base = omega (arith, e, pow-suc base 0) in omega arith

parts_or_none : (spell : ℕ → List ℕ) (mark base : ℕ) → 0 < base → KeepsApart spell mark base → ((text : List ℕ) → SpellsOne ℕ (λ d. d < base) spell text) →
    (marks : ℕ) (text : List ℕ) → SpellsOne ℕ (λ n. n < base ^ (marks + 1)) (parts_text spell mark base marks) text
parts_or_none spell mark base some apart decide zero text =
    elim (decide text) [
      | inl d ↦ inl (d.0, one_more base d.0 d.1, d.2)
      | inr none ↦ inr (λ n small. none n (one_digit base n small))
    ]
parts_or_none spell mark base some apart decide (suc k) text =
    let nonzero : suc k ≡ 0 → ⊥ = λ z. omega arith in
    let down : k ≡ suc k - 1 = omega arith in
    elim (cut_or_none mark text) [
      | inr lacks ↦ inr (parts_not_cut spell mark base (suc k) text nonzero lacks)
      | inl cut ↦ elim (decide cut.0) [
        | inr none ↦ inr (parts_not_high spell mark base (suc k) text cut.0 cut.1 nonzero some apart cut.2 cut.3 none)
        | inl d ↦ elim (parts_or_none spell mark base some apart decide k cut.1) [
          | inr none ↦
              let N : ℕ → Type 0 = λ j. (m : ℕ) → m < base ^ (j + 1) → cut.1 ≢ parts_text spell mark base j m in
              inr (parts_not_low spell mark base (suc k) text cut.0 cut.1 nonzero some apart cut.2 cut.3 (subst N down none))
          | inl low ↦
              let B : ℕ → Type 0 = λ j. low.0 < base ^ (j + 1) in
              let R : ℕ → Type 0 = λ j. cut.1 ≡ parts_text spell mark base j low.0 in
              let whole = parts_some spell mark base (suc k) d.0 low.0 text cut.0 cut.1 nonzero cut.2 d.1 d.2 (subst B down low.1) (subst R down low.2) in
              inl (d.0 * base ^ suc k + low.0, whole.0, whole.1)
        ]
      ]
    ]

octet_or_none : (text : List ℕ) → SpellsOne ℕ (λ d. d < 256) decimal text
octet_or_none text =
    elim (number_or_none text) [
      | inl none ↦ inr (no_octet text none)
      | inr n ↦ elim (cases_lt n.0 256) [
        | inl small ↦ inl (n.0, small, n.2)
        | inr large ↦ inr (large_octet text n.0 (n.1, n.2) large)
      ]
    ]

digit_or_none : (byte : ℕ) → ((d : ℕ) × (d < 16) × (byte ≡ digit_char d)) ⊎ ((d : ℕ) → d < 16 → byte ≢ digit_char d)
digit_or_none byte =
    elim (cases_lt (digit_value byte) 16) [
      | inl small ↦ elim (cases_eq byte (digit_char (digit_value byte))) [
        | inl same ↦ inl (digit_value byte, small, same)
        | inr other ↦ inr (λ d less is. other (is ∙ ap digit_char (sym (digit_value-digit_char d (omega arith)) ∙ ap digit_value (sym is))))
      ]
      | inr large ↦ inr (λ d less is. let v : digit_value byte ≡ d = ap digit_value is ∙ digit_value-digit_char d (omega arith) in omega arith)
    ]

-- four digits make a group
four : (a b c d : ℕ) → a < 16 → b < 16 → c < 16 → d < 16 → (4096 * a + 256 * b + 16 * c + d < 65536) × (digit_char a ∷ digit_char b ∷ digit_char c ∷ digit_char d ∷ [] ≡ hex4 (4096 * a + 256 * b + 16 * c + d))
four a b c d sa sb sc sd =
    let g : ℕ = 4096 * a + 256 * b + 16 * c + d in
    let ea : a ≡ g / 4096 = omega arith in
    let eb : b ≡ g / 256 % 16 = omega arith in
    let ec : c ≡ g / 16 % 16 = omega arith in
    let ed : d ≡ g % 16 = omega arith in (
      omega arith,
      ap (λ (x : ℕ). digit_char x ∷ digit_char b ∷ digit_char c ∷ digit_char d ∷ []) ea ∙ ap (λ (x : ℕ). digit_char (g / 4096) ∷ digit_char x ∷ digit_char c ∷ digit_char d ∷ []) eb
          ∙ ap (λ (x : ℕ). digit_char (g / 4096) ∷ digit_char (g / 256 % 16) ∷ digit_char x ∷ digit_char d ∷ []) ec ∙ ap (λ (x : ℕ). digit_char (g / 4096) ∷ digit_char (g / 256 % 16) ∷ digit_char (g / 16 % 16) ∷ digit_char x ∷ []) ed,
    )

group_or_none : (text : List ℕ) → SpellsOne ℕ (λ g. g < 65536) hex4 text
group_or_none [] = inr (λ g small same. cc)
group_or_none (a ∷ []) = inr (λ g small same. cc)
group_or_none (a ∷ b ∷ []) = inr (λ g small same. cc)
group_or_none (a ∷ b ∷ c ∷ []) = inr (λ g small same. cc)
group_or_none (a ∷ b ∷ c ∷ d ∷ e ∷ more) = inr (λ g small same. cc)
group_or_none (a ∷ b ∷ c ∷ d ∷ []) =
    elim (digit_or_none a) [
      | inr none ↦ inr (λ g small same. let is : a ≡ digit_char (g / 4096) = cc in none (g / 4096) (omega arith) is)
      | inl x ↦ elim (digit_or_none b) [
        | inr none ↦ inr (λ g small same. let is : b ≡ digit_char (g / 256 % 16) = cc in none (g / 256 % 16) (omega arith) is)
        | inl y ↦ elim (digit_or_none c) [
          | inr none ↦ inr (λ g small same. let is : c ≡ digit_char (g / 16 % 16) = cc in none (g / 16 % 16) (omega arith) is)
          | inl z ↦ elim (digit_or_none d) [
            | inr none ↦ inr (λ g small same. let is : d ≡ digit_char (g % 16) = cc in none (g % 16) (omega arith) is)
            | inl w ↦
                let made = four x.0 y.0 z.0 w.0 x.1 y.1 z.1 w.1 in
                let same : a ∷ b ∷ c ∷ d ∷ [] ≡ digit_char x.0 ∷ digit_char y.0 ∷ digit_char z.0 ∷ digit_char w.0 ∷ [] = cc (x.2, y.2, z.2, w.2) in
                inl (4096 * x.0 + 256 * y.0 + 16 * z.0 + w.0, made.0, same ∙ made.1)
          ]
        ]
      ]
    ]

v4_or_none : (text : List ℕ) → SpellsOne ℕ (λ n. n < 256 ^ (3 + 1)) (parts_text decimal 46 256 3) text
v4_or_none text = parts_or_none decimal 46 256 (omega arith) octets_apart octet_or_none 3 text

v6_or_none : (text : List ℕ) → SpellsOne ℕ (λ n. n < 65536 ^ (7 + 1)) (parts_text hex4 58 65536 7) text
v6_or_none text = parts_or_none hex4 58 65536 (omega arith) groups_apart group_or_none 7 text

neither : (text : List ℕ) → ((n : ℕ) → n < 256 ^ (3 + 1) → text ≢ parts_text decimal 46 256 3 n) → ((n : ℕ) → n < 65536 ^ (7 + 1) → text ≢ parts_text hex4 58 65536 7 n) → (a : Addr) → IsAddr a → text ≢ addr_text a
neither text no_v4 no_v6 a is =
    (elim a as (λ x. IsAddr x → text ≢ addr_text x) [
      | V4 n ↦ λ small. no_v4 n small
      | V6 n ↦ λ small. no_v6 n small
    ]) is

-- a text is an address, or none
pub addr_or_none : (text : List ℕ) → SpellsOne Addr IsAddr addr_text text
addr_or_none text =
    elim (v4_or_none text) [
      | inl n ↦ inl (V4 n.0, n.1, n.2)
      | inr no_v4 ↦ elim (v6_or_none text) [
        | inl n ↦ inl (V6 n.0, n.1, n.2)
        | inr no_v6 ↦ inr (neither text no_v4 no_v6)
      ]
    ]

-- a text with the parts of a prefix
with_parts : (text : List ℕ) (a : Addr) (len : ℕ) → AreParts text a len → SpellsOne Subnet IsSubnet prefix_text text
with_parts text a len parts =
    let read = prefix_read text a len parts in
    elim (cases_lt (bits_of a) len) [
      | inl long ↦ inr (λ prefix is same. not_of a len prefix long (read prefix is same).0)
      | inr within ↦ elim (cases_eq (number_of a % 2 ^ (bits_of a - len)) 0) [
        | inl clear ↦ inl (record { addr = a; len = len }, record { is_addr = parts.0; within = within; clear = clear }, parts.2)
        | inr unclear ↦ inr (λ prefix is same. let as_read = read prefix is same in unclear (unclear_of a len prefix is as_read.0 as_read.1))
      ]
    ]

-- a text is a prefix, or none
pub prefix_or_none : (text : List ℕ) → SpellsOne Subnet IsSubnet prefix_text text
prefix_or_none text =
    elim (cut_or_none 47 text) [
      | inr lacks ↦ inr (no_parts text (parts_not_slash text lacks))
      | inl cut ↦ elim (addr_or_none cut.0) [
        | inr none ↦ inr (no_parts text (parts_not_addr text cut.0 cut.1 cut.2 cut.3 none))
        | inl a ↦ elim (octet_or_none cut.1) [
          | inr none ↦ inr (no_parts text (parts_not_len text cut.0 cut.1 cut.2 cut.3 none))
          | inl len ↦ with_parts text a.0 len.0 (parts_of text cut.0 cut.1 a.0 len.0 cut.2 (a.1, a.2) (len.1, len.2))
        ]
      ]
    ]

-- a text is a number, or none
pub number_spelled : (text : List ℕ) → SpellsOne ℕ Is32Bit decimal text
number_spelled text = elim (number_or_none text) [ inl none ↦ inr none | inr n ↦ inl n ]

-- a text is a role, or none
pub role_spelled : (text : List ℕ) → SpellsOne Role (λ role. Unit {0}) role_text text
role_spelled text = elim (decided_role text) [ inl role ↦ inl (role.0, tt, role.1) | inr none ↦ inr (λ role _ same. none (role, same)) ]

-- two prefixes with one text are one
pub prefix_text_injective : OnePrefixPerText
prefix_text_injective p q is_p is_q same =
    let most_p = bits_most p.addr in let most_q = bits_most q.addr in
    let within_p = is_p.within in let within_q = is_q.within in
    let parts = marked_injective 47 (omega arith) (λ e. cc) p.addr q.addr p.len q.len is_p.is_addr is_q.is_addr (omega arith) (omega arith) same in
    let F : Addr → ℕ → Subnet = λ a l. record { addr = a; len = l } in
    ap (λ (a : Addr). F a p.len) parts.0 ∙ ap (λ (l : ℕ). F q.addr l) parts.1

-- two peers with one text are one
pub peer_text_injective : OnePeerPerText
peer_text_injective p q is_p is_q same =
    let small_p = is_p.1 in let small_q = is_q.1 in
    let parts = marked_injective 32 (omega arith) (λ e. cc) p.addr q.addr p.asn q.asn is_p.0 is_q.0 (omega arith) (omega arith) same in
    let F : Addr → ℕ → Peer = λ a n. record { addr = a; asn = n } in
    ap (λ (a : Addr). F a p.asn) parts.0 ∙ ap (λ (n : ℕ). F q.addr n) parts.1

pub numbers_in_line : NumbersAreInLine
numbers_in_line n = decimal-lacks 10 n (omega arith)

pub addresses_in_line : AddressesAreInLine
addresses_in_line a = addr_lacks 10 (omega arith) (λ e. cc) a

pub prefixes_in_line : PrefixesAreInLine
prefixes_in_line p = marked_lacks 10 47 (omega arith) (λ e. cc) (λ e. cc) p.addr p.len

pub peers_in_line : PeersAreInLine
peers_in_line p = marked_lacks 10 32 (omega arith) (λ e. cc) (λ e. cc) p.addr p.asn

no_name_byte : (byte : ℕ) → IsTrue (is_name_byte byte) → byte ≢ 10
no_name_byte byte is same = let P : ℕ → Type 0 = λ b. IsTrue (is_name_byte b) in let no = subst P same is in cc

pub names_in_line : NamesAreInLine
names_in_line name is = All-weaker (λ byte. IsTrue (is_name_byte byte)) (λ byte. byte ≢ 10) no_name_byte name is.bytes

pub roles_in_line : RolesAreInLine
roles_in_line role = role_text-lacks 10 role (omega arith)

pub verdicts_in_line : VerdictsAreInLine
verdicts_in_line verdict = verdict_text-lacks 10 verdict (omega arith)

-- what `no_line_feeds` needs
pub ruleset in_line = (numbers_in_line, addresses_in_line, prefixes_in_line, peers_in_line, names_in_line, roles_in_line, verdicts_in_line)
