-- Numbers of a few bytes.
use Rattle.std.proofs.lemmas.Nat.{pow-add}
use Rattle.std.proofs.Common.{ℕ, zero, suc, ◌+◌, ◌*◌, ◌<◌, ◌≤◌, ◌^◌, List, [], ◌∷◌, length, slice_index, arith}
use Rattle.der_reader.specs.Number.{number_from, number}

-- the loop's step, at each of its four turns
pub number_fits : (n i : ℕ) → n < 256 ^ i → i < 4 → n < 2 ^ 24
number_fits n zero h l = omega arith
number_fits n (suc zero) h l = omega arith
number_fits n (suc (suc zero)) h l = omega arith
number_fits n (suc (suc (suc zero))) h l = omega arith
number_fits n (suc (suc (suc (suc i)))) h l = absurd (omega arith)

pub number_small : (n d i : ℕ) → n < 256 ^ i → d < 256 → n * 256 + d < 256 ^ (i + 1)
number_small n d i h l = rw (pow-add 256 i 1) (omega arith)

-- a number never falls
from_least : (n : ℕ) (bs : List ℕ) → n ≤ number_from n bs
from_least n [] = omega arith
from_least n (b ∷ bs) = let more : n * 256 + b ≤ number_from (n * 256 + b) bs = from_least (n * 256 + b) bs in omega arith

-- five bytes and more, the first not 0
pub number_big : (bs : List ℕ) → 4 < length bs → 0 < slice_index bs 0 → 2 ^ 32 ≤ number bs
number_big [] h l = absurd (omega arith)
number_big (b ∷ []) h l = absurd (omega arith)
number_big (b ∷ c ∷ []) h l = absurd (omega arith)
number_big (b ∷ c ∷ d ∷ []) h l = absurd (omega arith)
number_big (b ∷ c ∷ d ∷ e ∷ []) h l = absurd (omega arith)
number_big (b ∷ c ∷ d ∷ e ∷ f ∷ bs) h l =
    let least : ((((0 + b) * 256 + c) * 256 + d) * 256 + e) * 256 + f ≤ number (b ∷ c ∷ d ∷ e ∷ f ∷ bs) = from_least _ bs in omega arith

pub ruleset number_steps = (number_small, number_fits)
