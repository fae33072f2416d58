-- The leak of a case as a function; private contracts and proofs alone cite it.
use Rattle.std.specs.Prelude.{ℕ, cond, nat_eq}
use Rattle.path_model.specs.declared.otc.Otc.{Otc}
use Rattle.path_model.specs.declared.otc.Otc.TheVariants.{Absent, As, Malformed as IsMalformed}
use Rattle.path_model.specs.declared.role.Role.{Role}
use Rattle.path_model.specs.declared.role.Role.TheVariants.{Provider as OurProvider, Customer as OurCustomer, Peer as OurPeer, Rs as OurRs, RsClient as OurRsClient, Mutual as OurMutual}
use Rattle.path_model.specs.declared.leak.Leak.{Leak}
use Rattle.path_model.specs.declared.leak.Leak.TheVariants.{Clean, Customer, RsClient, Peer, Malformed}

-- what the attribute makes of a route from a neighbour of this role
abbrev pub leak_of : Role → ℕ → Otc → Leak
leak_of role neighbour Absent = Clean
leak_of role neighbour IsMalformed = Malformed
leak_of OurProvider neighbour (As asn) = Clean
leak_of OurCustomer neighbour (As asn) = Customer asn
leak_of OurPeer neighbour (As asn) = cond (nat_eq asn neighbour) Clean (Peer asn)
leak_of OurRs neighbour (As asn) = Clean
leak_of OurRsClient neighbour (As asn) = RsClient asn
leak_of OurMutual neighbour (As asn) = Clean
