-- Which rule fails first, read from the left. What is right without a look at the order say `Value` and `Integer`.
use Rattle.std.specs.Prelude.{◌≡◌, ℕ, ◌-◌, ◌==◌, ◌&&◌, ◌||◌, nat_lt, List, [], ◌∷◌, length, take, drop, slice_index, if◌then◌else◌}
use Rattle.std.specs.Borrow.{Bor}
use Rattle.std.specs.declared.result.Result.{Result}
use Rattle.std.specs.declared.result.Result.TheVariants.{Ok, Err}
use Rattle.der_reader.specs.Number.{number}
use Rattle.der_reader.specs.Integer.{IsInteger}
use Rattle.der_reader.specs.declared.fault.DerFault.{DerFault}
use Rattle.der_reader.specs.declared.fault.DerFault.TheVariants.{Truncated, Tag, Length, Integer}

infixl 10 ◌>>=◌
-- one step after another, up to the first that fails
abbrev pub ◌>>=◌ : {A B : Type 0} → Result A DerFault → (A → Result B DerFault) → Result B DerFault
(Ok x) >>= f = f x
(Err e) >>= f = Err e

-- a length of so many bytes, and the bytes after it
abbrev pub long_length_at : ℕ → List ℕ → Result (ℕ × List ℕ) DerFault
long_length_at count bytes =
    if nat_lt (length bytes) count then Err Truncated
    else if (slice_index (take count bytes) 0 == 0) || nat_lt (number (take count bytes)) 128 then Err Length
    else Ok (number (take count bytes), drop count bytes)

-- a length, and the bytes after it: one byte up to 127, or the count of its bytes, 129 to 132 for one to four, and these
abbrev pub length_at : List ℕ → Result (ℕ × List ℕ) DerFault
length_at [] = Err Truncated
length_at (first ∷ rest) =
    if nat_lt first 128 then Ok (first, rest)
    else if nat_lt 128 first && nat_lt first 133 then long_length_at (first - 128) rest
    else Err Length

-- so many bytes of content, and the bytes after them
abbrev pub content_at : ℕ → List ℕ → Result (List ℕ × List ℕ) DerFault
content_at n bytes = if nat_lt (length bytes) n then Err Truncated else Ok (take n bytes, drop n bytes)

-- the content of the first value, which has this tag, and the bytes after it; or the first rule that fails
abbrev pub value_at : ℕ → List ℕ → Result (List ℕ × List ℕ) DerFault
value_at tag [] = Err Truncated
value_at tag (first ∷ rest) =
    if first == tag then (length_at rest >>= λ found. content_at found.0 found.1) else Err Tag

-- what was answered, seen by `view`, is what the rules give
abbrev pub Gives : {X Y : Type 0} → (X → Y) → Result X DerFault → Result Y DerFault → Type 0
Gives view (Ok x) read = read ≡ Ok (view x)
Gives view (Err e) read = read ≡ Err e

-- a value was taken by the rules, or refused by the first that fails
abbrev pub GivesValue : ℕ → List ℕ → Result (Bor (List ℕ) × Bor (List ℕ)) DerFault → Type 0
GivesValue tag bytes result = Gives (λ x. (x.0.now, x.1.now)) result (value_at tag bytes)

-- the last fault comes where there is a value of tag 2 whose content is no number, each other one where there is none by that rule
abbrev pub IntegerRefused : List ℕ → DerFault → Type 0
IntegerRefused bytes Integer =
    (found : List ℕ × List ℕ) × (value_at 2 bytes ≡ Ok found) × ((n : ℕ) → IsInteger found.0 n → ⊥)
IntegerRefused bytes fault = value_at 2 bytes ≡ Err fault

-- an INTEGER was taken by the rules, or refused by the first that fails
abbrev pub GivesInteger : List ℕ → Result (ℕ × Bor (List ℕ)) DerFault → Type 0
GivesInteger bytes (Ok x) = (content : List ℕ) × (value_at 2 bytes ≡ Ok (content, x.1.now)) × IsInteger content x.0
GivesInteger bytes (Err fault) = IntegerRefused bytes fault
