-- What reading a number in a range needs, and an AS or `default`.
use Rattle.std.proofs.Common.{◌≡◌, ◌≢◌, ℕ, List, ◌≤◌, Option, Some, None, codes, arith, sym, ◌∙◌}
use Rattle.std.proofs.lemmas.Fmt.{decimal_injective}
use Rattle.av_text.specs.Number.{IsNumber, IsNoNumber}
use Rattle.script_lines.specs.Kinds.{NUMBER, WHOM, Spells}

-- two numbers of one word are one
pub one_number : (word : List ℕ) (m n : ℕ) → IsNumber word m → IsNumber word n → m ≡ n
one_number word m n a b = decimal_injective m n (let small = a.0 in omega arith) (let small = b.0 in omega arith) (sym a.1 ∙ b.1)

-- a word that is no number at all
pub lacks-none : (least most : ℕ) (word : List ℕ) → IsNoNumber word → (n : ℕ) → Spells (NUMBER least most) word n → ⊥
lacks-none least most word none n is = none n is.0.0 is.0.1

-- a number out of the range
pub lacks-outside : (least most m : ℕ) (word : List ℕ) → IsNumber word m → (least ≤ m → m ≤ most → ⊥) → (n : ℕ) → Spells (NUMBER least most) word n → ⊥
lacks-outside least most m word is outside n spells =
    let same : m ≡ n = one_number word m n is spells.0 in
    let low = spells.1 in let high = spells.2 in
    outside (omega arith) (omega arith)

-- a word that is neither `default` nor a number
pub lacks-whom : (word : List ℕ) → word ≢ codes "default" → IsNoNumber word → (whom : Option ℕ) → Spells WHOM word whom → ⊥
lacks-whom word other none None is = other is
lacks-whom word other none (Some asn) is = none asn is.0 is.1

pub ruleset whom_steps = (lacks-whom)

pub ruleset number_steps = (lacks-none, lacks-outside)
