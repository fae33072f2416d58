-- How peers are written.
use Rattle.std.specs.Prelude.{ℕ, List, ◌∷◌, ◌++◌, decimal}
use Rattle.path_model.specs.declared.peer.Peer.{Peer}
use Rattle.av_text.specs.AddressText.{addr_text}

-- the one spelling of a peer: its address, a space and its AS
abbrev pub peer_text : Peer → List ℕ
peer_text peer = addr_text peer.addr ++ 32 ∷ decimal peer.asn
