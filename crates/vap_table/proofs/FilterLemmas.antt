-- A number more is marked.
use Rattle.std.proofs.Common.{◌≡◌, ℕ, ◌*◌, ◌%◌, ◌^◌, ◌<◌, nat_eq, Bool, true, List, length, get_or, set, arith, ap, sym, ◌∙◌, bit_or, length-set}
use Rattle.std.specs.Int.{bit_at, w64}
use Rattle.std.proofs.lemmas.Bool.Decides.{nat_tests}
use Rattle.std.proofs.lemmas.List.{get_or-set_same, get_or-set_other}
use Rattle.std.proofs.lemmas.Nat.Bits.{bit_at_set_same, bit_at_set_other}
use Rattle.vap_table.specs.Filter.{place_of, bit_of, is_marked}

-- a bit of a word is set
abbrev is_set : List ℕ → ℕ → ℕ → Bool
is_set words place bit = nat_eq (bit_at (get_or words place 0) bit) 1

module _ (words : List ℕ) (place bit : ℕ) (within : place < length words) (low : bit < 64) where
  abbrev word : ℕ
  word = bit_or (get_or words place 0) (1 * 2 ^ bit % 2 ^ 64)

  set_here : is_set (set words place word) place bit ≡ true
  set_here = grind (arith, nat_tests, get_or-set_same words place word 0 within, bit_at_set_same w64 (get_or words place 0) bit low)

  set_still : (p b : ℕ) → is_set words p b ≡ true → is_set (set words place word) p b ≡ true
  set_still p b is = grind (arith, nat_tests, is, get_or-set_same words place word 0 within, get_or-set_other words place p word 0, set_here, bit_at_set_other w64 (get_or words place 0) bit low b)

  -- whatever was marked still is
  pub marked_still : (q : ℕ) → is_marked words q ≡ true → is_marked (set words place word) q ≡ true
  marked_still q is = ap (λ (len : ℕ). is_set (set words place word) (place_of len q) (bit_of q)) (length-set words place word) ∙ set_still (place_of (length words) q) (bit_of q) is

  pub marked_here : (number : ℕ) → place ≡ place_of (length words) number → bit ≡ bit_of number → is_marked (set words place word) number ≡ true
  marked_here number at on =
      ap (λ (len : ℕ). is_set (set words place word) (place_of len number) (bit_of number)) (length-set words place word)
      ∙ rw (sym at, sym on) set_here
