-- Prefixes: what a text with a slash is read as, and one spelling each.
use Rattle.std.proofs.Common.{◌≡◌, ◌≢◌, ℕ, ◌<◌, ◌-◌, ◌%◌, ◌^◌, List, ◌∷◌, ◌++◌, decimal, Option, Some, None, sym, ap, subst, ◌∙◌, arith}
use Rattle.std.proofs.lemmas.Nat.{div-add-mod'}
use Rattle.path_model.specs.declared.addr.Addr.{Addr}
use Rattle.path_model.specs.declared.addr.Addr.TheVariants.{V4, V6}
use Rattle.path_model.specs.Prefix.{Subnet, IsSubnet, bits_of, number_of, IsAddr, cleared, without_last, prefix_of}
use Rattle.av_text.specs.Marks.{Lacks}
use Rattle.av_text.specs.AddressText.{addr_text}
use Rattle.av_text.specs.PrefixText.{prefix_text, IsPrefixText, IsNoPrefixText}
use Rattle.av_text.specs.Parts.{AreParts}
use Rattle.av_text.proofs.PartLemmas.{has_mark, one_cut}
use Rattle.av_text.proofs.AddressLemmas.{addr_lacks, bits_most, marked_injective}

-- no slash in an address
no_slash : (a : Addr) → Lacks 47 (addr_text a)
no_slash a = addr_lacks 47 (omega arith) (λ e. cc) a

-- bits that are clear stay as they are
without_last-clear : (spare n : ℕ) → n % 2 ^ spare ≡ 0 → without_last spare n ≡ n
without_last-clear spare n clear = let whole = div-add-mod' n (2 ^ spare) in omega arith

pub cleared-clear : (a : Addr) (len : ℕ) → number_of a % 2 ^ (bits_of a - len) ≡ 0 → cleared len a ≡ a
cleared-clear (V4 n) len clear = ap V4 (without_last-clear (32 - len) n clear)
cleared-clear (V6 n) len clear = ap V6 (without_last-clear (128 - len) n clear)

-- the parts of a prefix
subnet_parts : (text : List ℕ) (prefix : Subnet) → IsSubnet prefix → text ≡ prefix_text prefix → AreParts text prefix.addr prefix.len
subnet_parts text prefix is same = let within = is.within in let most = bits_most prefix.addr in (is.is_addr, omega arith, same)

-- a text without parts is no prefix
pub no_parts : (text : List ℕ) → ((a : Addr) (n : ℕ) → AreParts text a n → ⊥) → IsNoPrefixText text
no_parts text none prefix is same = none prefix.addr prefix.len (subnet_parts text prefix is same)

-- a text without a slash has none,
pub parts_not_slash : (text : List ℕ) → Lacks 47 text → (a : Addr) (n : ℕ) → AreParts text a n → ⊥
parts_not_slash text lacks a n parts = has_mark 47 (addr_text a) (decimal n) (let P : List ℕ → Type 0 = λ t. Lacks 47 t in subst P parts.2 lacks)

-- nor has one without an address before it,
pub parts_not_addr : (text front back : List ℕ) → text ≡ front ++ 47 ∷ back → Lacks 47 front → ((a : Addr) → IsAddr a → front ≢ addr_text a) → (a : Addr) (n : ℕ) → AreParts text a n → ⊥
parts_not_addr text front back cut lacks none a n parts = none a parts.0 (one_cut 47 front (addr_text a) back (decimal n) lacks (no_slash a) (sym cut ∙ parts.2)).0

-- or without a small number behind it
pub parts_not_len : (text front back : List ℕ) → text ≡ front ++ 47 ∷ back → Lacks 47 front → ((n : ℕ) → n < 256 → back ≢ decimal n) → (a : Addr) (n : ℕ) → AreParts text a n → ⊥
parts_not_len text front back cut lacks none a n parts = none n parts.1 (one_cut 47 front (addr_text a) back (decimal n) lacks (no_slash a) (sym cut ∙ parts.2)).1

-- with all three it has
pub parts_of : (text front back : List ℕ) (a : Addr) (n : ℕ) → text ≡ front ++ 47 ∷ back → IsAddr a × (front ≡ addr_text a) → (n < 256) × (back ≡ decimal n) → AreParts text a n
parts_of text front back a n cut first rest = (first.0, rest.0, cut ∙ ap (λ (f : List ℕ). f ++ 47 ∷ back) first.1 ∙ ap (λ (b : List ℕ). addr_text a ++ 47 ∷ b) rest.1)

-- the prefix of a subnet's own address and length
prefix_of-subnet : (prefix : Subnet) → IsSubnet prefix → prefix_of prefix.addr prefix.len ≡ Some prefix
prefix_of-subnet prefix is =
    let same = cleared-clear prefix.addr prefix.len is.clear in
    let F : Addr → Subnet = λ a. record { addr = a; len = prefix.len } in
    let within = is.within in grind arith

-- a text with parts is that of no prefix but theirs
pub prefix_read : (text : List ℕ) (a : Addr) (len : ℕ) → AreParts text a len → (prefix : Subnet) → IsSubnet prefix → text ≡ prefix_text prefix → (prefix_of a len ≡ Some prefix) × (prefix.addr ≡ a)
prefix_read text a len parts prefix is same =
    let own = subnet_parts text prefix is same in
    let small = parts.1 in let own_small = own.1 in
    let made = marked_injective 47 (omega arith) (λ e. cc) a prefix.addr len prefix.len parts.0 own.0 (omega arith) (omega arith) (sym parts.2 ∙ own.2) in
    (ap (λ (x : Addr). prefix_of x len) made.0 ∙ ap (λ (l : ℕ). prefix_of prefix.addr l) made.1 ∙ prefix_of-subnet prefix is, sym made.0)

-- there is none where the length is over the bits,
pub not_of : (a : Addr) (len : ℕ) (prefix : Subnet) → bits_of a < len → prefix_of a len ≡ Some prefix → ⊥
not_of a len prefix long is = grind arith

-- and its length is the one given
pub prefix_of-len : (a : Addr) (len : ℕ) (prefix : Subnet) → prefix_of a len ≡ Some prefix → prefix.len ≡ len
prefix_of-len a len prefix is = grind arith

-- where its address is the one given, no bit was cleared
pub unclear_of : (a : Addr) (len : ℕ) (prefix : Subnet) → IsSubnet prefix → prefix_of a len ≡ Some prefix → prefix.addr ≡ a → number_of a % 2 ^ (bits_of a - len) ≡ 0
unclear_of a len prefix is found same =
    let P : Addr → Type 0 = λ x. number_of x % 2 ^ (bits_of x - prefix.len) ≡ 0 in
    let Q : ℕ → Type 0 = λ l. number_of a % 2 ^ (bits_of a - l) ≡ 0 in
    subst Q (prefix_of-len a len prefix found) (subst P same is.clear)

-- parts of which no prefix is made
pub prefix_not_made : (text : List ℕ) (a : Addr) (len : ℕ) (found : Option Subnet) → AreParts text a len → found ≡ prefix_of a len → found ≡ None → IsNoPrefixText text
prefix_not_made text a len found parts made none prefix is same = let read = (prefix_read text a len parts prefix is same).0 in cc

-- or one with another address, since some bit was cleared
pub prefix_not_clear : (text : List ℕ) (a : Addr) (len : ℕ) (found : Option Subnet) (p : Subnet) → AreParts text a len → found ≡ prefix_of a len → found ≡ Some p → (p.addr ≡ a → ⊥) → IsNoPrefixText text
prefix_not_clear text a len found p parts made is_found other prefix is same =
    let read = prefix_read text a len parts prefix is same in
    let one : p ≡ prefix = cc in other (ap (λ (s : Subnet). s.addr) one ∙ read.1)

-- a prefix with the address and the length of the text
pub prefix_spelled : (text : List ℕ) (a : Addr) (len : ℕ) (found : Option Subnet) (p : Subnet) → AreParts text a len → found ≡ prefix_of a len → found ≡ Some p → p.addr ≡ a → text ≡ prefix_text p
prefix_spelled text a len found p parts made is_found same =
    let lens = prefix_of-len a len p (sym made ∙ is_found) in
    parts.2 ∙ ap (λ (x : Addr). addr_text x ++ 47 ∷ decimal len) (sym same) ∙ ap (λ (l : ℕ). addr_text p.addr ++ 47 ∷ decimal l) (sym lens)

-- is the one that was put
pub prefix_again : (text : List ℕ) (a : Addr) (len : ℕ) (found : Option Subnet) (p : Subnet) → AreParts text a len → found ≡ prefix_of a len → found ≡ Some p → (prefix : Subnet) → IsPrefixText text prefix → Some p ≡ Some prefix
prefix_again text a len found p parts made is_found prefix put = sym is_found ∙ made ∙ (prefix_read text a len parts prefix put.0 put.1).0

-- a text that is no prefix's is none that was put
pub nothing_again : (text : List ℕ) → IsNoPrefixText text → (prefix : Subnet) → IsPrefixText text prefix → None ≡ Some prefix
nothing_again text none prefix put = absurd (none prefix put.0 put.1)
