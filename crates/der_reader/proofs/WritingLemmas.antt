-- What is written is a spelling.
use Rattle.std.proofs.Common.{◌≡◌, ℕ, ◌<◌, ◌≤◌, ◌^◌, inl, List, [], ◌∷◌, ◌++◌, length, refl, sym, append-nil, arith}
use Rattle.der_reader.specs.Number.{number}
use Rattle.der_reader.specs.Integer.{IsInteger}
use Rattle.der_reader.specs.Writing.{PutsInteger}

pub puts_integer : (old new content : List ℕ) (n : ℕ) → IsInteger content n → length content < 128
    → new ≡ old ++ (2 ∷ length content ∷ content) → PutsInteger old new n
puts_integer old new content n integer small e = record {
  front = 2 ∷ length content ∷ content;
  is = record {
    content = content;
    begins = record {
      front = 2 ∷ length content ∷ content;
      spelled = record { octets = length content ∷ []; length_is = inl (small, refl); whole = refl };
      whole = sym (append-nil (2 ∷ length content ∷ content));
    };
    value = integer;
  };
  whole = e;
}

-- the content of a number of four digits, by its size
module _ (a b c d n : ℕ) (top : a < 256) (high : b < 256) (low : c < 256) (last : d < 256) (value : number (a ∷ b ∷ c ∷ d ∷ []) ≡ n) where
  pub content_1 : n < 128 → IsInteger (d ∷ []) n
  content_1 h = record { shortest = tt; positive = omega arith; value = omega arith; small = omega arith }

  pub content_2 : 128 ≤ n → n < 32768 → IsInteger (c ∷ d ∷ []) n
  content_2 l h = record { shortest = λ e. omega arith; positive = omega arith; value = omega arith; small = omega arith }

  pub content_3 : 32768 ≤ n → n < 8388608 → IsInteger (b ∷ c ∷ d ∷ []) n
  content_3 l h = record { shortest = λ e. omega arith; positive = omega arith; value = omega arith; small = omega arith }

  pub content_4 : 8388608 ≤ n → n < 2147483648 → IsInteger (a ∷ b ∷ c ∷ d ∷ []) n
  content_4 l h = record { shortest = λ e. omega arith; positive = omega arith; value = value; small = omega arith }

  pub content_5 : 2147483648 ≤ n → n < 2 ^ 32 → IsInteger (0 ∷ a ∷ b ∷ c ∷ d ∷ []) n
  content_5 l h = record { shortest = λ e. omega arith; positive = omega arith; value = value; small = h }
