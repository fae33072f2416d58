-- How long spellings are, and that there is one of each number and content. Proofs above cite these.
use Rattle.std.proofs.Common.{◌≡◌, ℕ, zero, suc, ◌+◌, ◌<◌, ◌≤◌, ◌^◌, inl, inr, List, [], ◌∷◌, ◌++◌, length, refl, sym, ap, append-nil, length-append, arith}
use Rattle.std.proofs.lemmas.Bool.{cases_lt}
use Rattle.der_reader.specs.Number.{IsBytes, number}
use Rattle.der_reader.specs.Value.{IsLength, Spells}
use Rattle.der_reader.specs.Integer.{IsInteger, TakesInteger}
use Rattle.der_reader.proofs.BytesLemmas.{one_more}
use Rattle.der_reader.proofs.LawLemmas.{each_number}
use Rattle.der_reader.proofs.NumberLemmas.{number_big}

-- a number of 32 bits has a content of at most five bytes
short_content : (content : List ℕ) (n : ℕ) → IsInteger content n → length content ≤ 5
short_content [] n is = omega arith
short_content (zero ∷ []) n is = omega arith
short_content (zero ∷ b ∷ bs) n is =
    elim (cases_lt 4 (length (b ∷ bs))) [
      | inr short ↦ omega arith
      | inl long ↦ let high : 128 ≤ b = is.shortest refl in let big = number_big (b ∷ bs) long (omega arith) in let value : number (b ∷ bs) ≡ n = is.value in let small = is.small in absurd (omega arith)
    ]
short_content (suc b ∷ bs) n is =
    elim (cases_lt 4 (length (suc b ∷ bs))) [
      | inr short ↦ omega arith
      | inl long ↦ let big = number_big (suc b ∷ bs) long (omega arith) in let value = is.value in let small = is.small in absurd (omega arith)
    ]

-- a spelled INTEGER, of at most seven bytes
pub record SpelledInteger (n : ℕ) : Type 0 where
  pub front : List ℕ
  pub bytes : IsBytes front
  pub short : length front ≤ 7
  pub takes : TakesInteger front n []

pub spelled_integer : (n : ℕ) → n < 2 ^ 32 → SpelledInteger n
spelled_integer n h =
    let found = each_number n h in
    let content = found.one in
    let short = short_content content n found.is.is in
    record {
      front = 2 ∷ length content ∷ content;
      bytes = one_more 2 (length content ∷ content) (omega arith) (one_more (length content) content (omega arith) found.is.bytes);
      short = omega arith;
      takes = record {
        content = content;
        begins = record {
          front = 2 ∷ length content ∷ content;
          spelled = record { octets = length content ∷ []; length_is = inl (omega arith, refl); whole = refl };
          whole = sym (append-nil (2 ∷ length content ∷ content));
        };
        value = found.is.is;
      };
    }

short_length : (n : ℕ) (octets : List ℕ) → IsLength n octets → length octets ≤ 5
short_length n octets (inl h) = let l : length octets ≡ 1 = ap (λ (o : List ℕ). length o) h.1 in omega arith
short_length n octets (inr h) = let l : length octets ≡ suc (length h.digits) = ap (λ (o : List ℕ). length o) h.whole in let few = h.few in omega arith

-- a spelled value is at most six bytes longer than its content
pub short_value : (tag : ℕ) (content bytes : List ℕ) → Spells tag content bytes → length bytes ≤ length content + 6
short_value tag content bytes s =
    let all : length bytes ≡ suc (length (s.octets ++ content)) = ap (λ (b : List ℕ). length b) s.whole in
    let parts = length-append s.octets content in
    let few = short_length (length content) s.octets s.length_is in
    omega arith
