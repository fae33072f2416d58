-- How a connection stands in the end.
use Rattle.std.specs.Prelude.{◌≡◌, ℕ, ◌<◌, true, List, [], ◌++◌, length}
use Rattle.std.specs.declared.option.Option.TheVariants.{Some, None}
use Rattle.av_base.specs.Connections.{Link}
use Rattle.av_base.specs.declared.standing.Break.TheVariants.{BySend, ByRecv}

-- these bytes went behind those that were sent before
abbrev pub HasSent : Link → List ℕ → List ℕ → Type 0
HasSent t sent bytes = (rest : List ℕ) × (t.sent ≡ sent ++ bytes ++ rest)

-- the connection broke before all of them had gone
pub record LostAtSend (t : Link) (sent bytes : List ℕ) : Type 0 where
  pub front : List ℕ
  pub rest : List ℕ
  pub whole : bytes ≡ front ++ rest
  pub some_left : 0 < length rest
  pub gave : t.sent ≡ sent ++ front
  pub broke : t.broken ≡ Some BySend

abbrev pub IsClosed : Link → Type 0
IsClosed t = t.closed ≡ true

-- its bytes came to their end, and no call failed on it
abbrev pub CameToEnd : Link → Type 0
CameToEnd t = (t.broken ≡ None) × (t.to_come ≡ [])

-- a receive failed on it
abbrev pub BrokeByReceive : Link → Type 0
BrokeByReceive t = t.broken ≡ Some ByRecv
