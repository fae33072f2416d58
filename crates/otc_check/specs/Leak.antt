-- What Only-to-Customer tells of a route from a neighbour (RFC 9234, section 5: the procedure for what is received).
use Rattle.std.specs.Prelude.{◌≡◌, ◌≢◌, ℕ}
use Rattle.path_model.specs.declared.otc.Otc.{Otc}
use Rattle.path_model.specs.declared.otc.Otc.TheVariants.{As, Malformed as IsMalformed}
use Rattle.path_model.specs.declared.role.Role.{Role}
use Rattle.path_model.specs.declared.role.Role.TheVariants.{Customer as OurCustomer, RsClient as OurRsClient, Peer as OurPeer}
use Rattle.path_model.specs.declared.leak.Leak.{Leak}
use Rattle.path_model.specs.declared.leak.Leak.TheVariants.{Clean, Customer, RsClient, Peer, Malformed}

-- a neighbour of this role may send a route with this AS
pub record MaySend (role : Role) (neighbour asn : ℕ) : Type 0 where
  pub no_customer : role ≢ OurCustomer
  pub no_client : role ≢ OurRsClient
  pub peer : role ≡ OurPeer → asn ≡ neighbour

-- the attribute is well formed, and the neighbour may send a route with its AS, if there is one
pub record IsClean (role : Role) (neighbour : ℕ) (otc : Otc) : Type 0 where
  pub formed : otc ≢ IsMalformed
  pub allowed : (asn : ℕ) → otc ≡ As asn → MaySend role neighbour asn

-- what the attribute tells of a route from a neighbour of this role
abbrev pub IsLeak : Role → ℕ → Otc → Leak → Type 0
IsLeak role neighbour otc Clean = IsClean role neighbour otc
IsLeak role neighbour otc (Customer asn) = (otc ≡ As asn) × (role ≡ OurCustomer)
IsLeak role neighbour otc (RsClient asn) = (otc ≡ As asn) × (role ≡ OurRsClient)
IsLeak role neighbour otc (Peer asn) = (otc ≡ As asn) × (role ≡ OurPeer) × (asn ≢ neighbour)
IsLeak role neighbour otc Malformed = otc ≡ IsMalformed
