-- What the step of a row adds; private contracts alone cite it.
use Rattle.std.specs.Prelude.{ℕ, List, map}
use Rattle.path_model.specs.declared.nlri.Nlri.{Nlri}
use Rattle.path_model.specs.declared.peer.Peer.{Peer}
use Rattle.path_model.specs.declared.verdict.Verdict.{Verdict}
use Rattle.rib_store.specs.Rows.{rows_under}
use Rattle.listings.specs.Rows.{row_of}

-- each row of a peer its line
abbrev pub pieces_under : Peer → List (Nlri × Verdict) → List (List ℕ)
pieces_under peer rows = map row_of (rows_under peer rows)
