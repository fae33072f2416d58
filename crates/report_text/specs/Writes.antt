-- A text that is written into the room of a line; only private contracts cite it.
use Rattle.std.specs.Prelude.{◌≡◌, ℕ, List, ◌++◌, take}

-- the text was written behind so many bytes, which stayed, and ends so far
pub record Writes (text old : List ℕ) (at : ℕ) (new : List ℕ) (end : ℕ) : Type 0 where
  pub front : take end new ≡ take at old ++ text
