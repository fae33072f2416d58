-- A number below 256.
use Rattle.std.proofs.Common.{◌≡◌, ◌≢◌, ℕ, List, ◌<◌, ◌≤◌, decimal, arith, sym, ◌∙◌}
use Rattle.std.proofs.lemmas.Fmt.{decimal_injective}
use Rattle.av_text.specs.Number.{IsNumber, IsNoNumber}

pub no_octet : (text : List ℕ) → IsNoNumber text → (n : ℕ) → n < 256 → text ≢ decimal n
no_octet text none n small same = none n (omega arith) same

pub large_octet : (text : List ℕ) (m : ℕ) → IsNumber text m → 256 ≤ m → (n : ℕ) → n < 256 → text ≢ decimal n
large_octet text m is large n small same =
    let one : m ≡ n = decimal_injective m n (let a = is.0 in omega arith) (omega arith) (sym is.1 ∙ same) in omega arith

pub ruleset octet_steps = (no_octet, large_octet)
