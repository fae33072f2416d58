-- What is no hop is no hop that stops.
use Rattle.std.proofs.Common.{ℕ, List, ◌↔◌, IsTrue, false}
use Rattle.std.specs.declared.option.Option.TheVariants.{None}
use Rattle.path_model.specs.Witness.{IsHop}
use Rattle.witness_checker.specs.Hops.{IsJoined}

pub no_hop : (chain : List ℕ) (does : ℕ → Type 0) (hop : ℕ) → IsJoined chain hop None → IsTrue false ↔ IsHop chain does hop
no_hop chain does hop none = (λ never. absurd (cc), λ is. absurd (none is.place is.number is.within))
