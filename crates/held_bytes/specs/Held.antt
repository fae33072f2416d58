-- What is held of a stream that comes in pieces.
use Rattle.std.specs.Prelude.{◌≡◌, ℕ, List, ◌++◌, take, drop}

-- bytes that were taken and are still kept, and those that are left behind them
pub record Held : Type 0 where
  pub taken : List ℕ
  pub left : List ℕ

-- so many bytes were taken off the front
abbrev pub TakesOff : ℕ → Held → Held → Type 0
TakesOff count old new = (new.taken ≡ old.taken ++ take count old.left) × (new.left ≡ drop count old.left)
