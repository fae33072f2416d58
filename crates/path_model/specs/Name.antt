-- Names that a script gives to sources and streams; their form is this project's own.
use Rattle.std.specs.Prelude.{ℕ, Bool, ◌≤◌, ◌==◌, ◌||◌, List, length, All, IsTrue}
use Rattle.std.specs.Char.{is_ascii_alphanumeric}

-- a letter, a digit, `.`, `_` or `-`
abbrev pub is_name_byte : ℕ → Bool
is_name_byte byte = is_ascii_alphanumeric byte || (byte == 46) || (byte == 95) || (byte == 45)

-- 1 to 64 bytes, each of these
pub record IsName (text : List ℕ) : Type 0 where
  pub some : 1 ≤ length text
  pub short : length text ≤ 64
  pub bytes : All (λ byte. IsTrue (is_name_byte byte)) text
