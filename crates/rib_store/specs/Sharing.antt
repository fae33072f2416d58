-- Which cases are stored.
use Rattle.std.specs.Prelude.{◌≡◌, ℕ, ⊤}
use Rattle.std.specs.declared.option.Option.{Option}
use Rattle.std.specs.declared.option.Option.TheVariants.{Some, None}
use Rattle.std.specs.FinMap as fin
use Rattle.path_model.specs.declared.key.Key.{Key}
use Rattle.path_model.specs.Routes.{Routes}
use Rattle.path_model.specs.Trail.{Path}
use Rattle.shared_cases.specs.declared.case.StoredCase.{StoredCase}
use Rattle.shared_cases.specs.Cases.{Slots, at, AreDistinct, IsStoredAs}
use Rattle.shared_cases.specs.Grounds.{IsJudged}
use Rattle.rib_store.specs.Pairs.{routes_with}
use Rattle.rib_store.specs.State.{State}
use Rattle.rib_store.specs.Touched.{grounds_of}

-- The stored cases are exactly the distinct pairs of a peer AS and a path of the routes, each under one number, with its right judgement by
-- the current table and the roles.
pub record AreCasesOf (state : State) (cases : Slots) : Type 0 where
  pub of_a_route : (n asn : ℕ) (path : Path) → IsStoredAs (at cases n) asn path
      → (key : Key) × (key.peer.asn ≡ asn) × (fin.get state.routes key ≡ Some path)
  pub of_each_route : (key : Key) (path : Path) → fin.get state.routes key ≡ Some path → (n : ℕ) × IsStoredAs (at cases n) key.peer.asn path
  pub apart : AreDistinct cases
  pub judged : (n : ℕ) → IsJudged (grounds_of state) (at cases n)

-- the case has as many users as there are routes of its AS and its path
abbrev pub CountsItsRoutes : Routes → Option StoredCase → Type 0
CountsItsRoutes routes None = ⊤
CountsItsRoutes routes (Some c) = c.users ≡ routes_with routes c.asn c.trail

-- and so has each of them
abbrev pub CountTheirRoutes : Routes → Slots → Type 0
CountTheirRoutes routes cases = (n : ℕ) → CountsItsRoutes routes (at cases n)
