-- Groups of hexadecimal digits as RFC 4291, section 2.2, has them: one to four, of either case.
use Rattle.std.specs.Prelude.{◌≡◌, ℕ, ◌+◌, ◌*◌, ◌<◌, ◌≤◌, ◌⊎◌, List, [], ◌∷◌, length}

-- the byte is this digit
abbrev pub IsHexDigit : ℕ → ℕ → Type 0
IsHexDigit byte d = ((d < 10) × (byte ≡ 48 + d)) ⊎ (((10 ≤ d) × (d < 16) × (byte ≡ 87 + d)) ⊎ ((10 ≤ d) × (d < 16) × (byte ≡ 55 + d)))

-- these digits, the first the most significant, behind a number, make that number
abbrev pub AreDigits : ℕ → List ℕ → ℕ → Type 0
AreDigits so_far [] n = n ≡ so_far
AreDigits so_far (b ∷ bs) n = (d : ℕ) × IsHexDigit b d × AreDigits (so_far * 16 + d) bs n

-- the text is a group of this number
pub record IsGroup (text : List ℕ) (n : ℕ) : Type 0 where
  pub some : 1 ≤ length text
  pub few : length text ≤ 4
  pub digits : AreDigits 0 text n
