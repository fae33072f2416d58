-- The bodies of the messages that are read: Route Monitoring, Peer Down and Peer Up (RFC 7854, sections 4.6, 4.9 and 4.10).
use Rattle.std.specs.Prelude.{◌≡◌, ℕ, List, ◌∷◌, ◌++◌, length}
use Rattle.held_bytes.specs.Units.{Begins}
use Rattle.bmp_reader.specs.declared.header.PeerHeader.{PeerHeader}
use Rattle.bmp_reader.specs.Headers.{IsPeerHeader}
use Rattle.bmp_reader.specs.Opens.{Open, IsOpen}

-- a Route Monitoring: a header, and one BGP message, which is all the rest
abbrev pub IsRouteMonitoring : List ℕ → PeerHeader → List ℕ → Type 0
IsRouteMonitoring body header message = Begins IsPeerHeader body header message

-- a Peer Down: a header, a byte of reason, and data, which aren't read
abbrev pub IsPeerDown : List ℕ → PeerHeader → Type 0
IsPeerDown body header = (reason : ℕ) × (more : List ℕ) × Begins IsPeerHeader body header (reason ∷ more)

-- what is read of a Peer Up: the OPEN that the router sent to the peer, and the one that it received from the peer
pub record Up : Type 0 where
  pub header : PeerHeader
  pub sent : Open
  pub received : Open

-- A Peer Up: a header, sixteen bytes of local address and twice two of ports, both OPENs, and information, which isn't read.
pub record IsPeerUp (body : List ℕ) (up : Up) : Type 0 where
  pub behind : List ℕ
  pub local : List ℕ
  pub opens : List ℕ
  pub second : List ℕ
  pub information : List ℕ
  pub header : Begins IsPeerHeader body up.header behind
  pub twenty : length local ≡ 20
  pub whole : behind ≡ local ++ opens
  pub sent : Begins IsOpen opens up.sent second
  pub received : Begins IsOpen second up.received information
