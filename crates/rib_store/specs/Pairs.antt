-- The pairs of a peer AS and a path that routes have: how many routes have each, and how it stands.
use Rattle.std.specs.Prelude.{◌≡◌, ◌<◌, ◌&&◌, ℕ, nat_eq, Bool, List, map, All, Contains, Some}
use Rattle.std.specs.Bool.{beq}
use Rattle.std.specs.Cmp.Lexicographic.{pointwise}
use Rattle.std.specs.FinMap as fin
use Rattle.std.specs.List.{count_by}
use Rattle.path_model.specs.declared.key.Key.{Key}
use Rattle.path_model.specs.Authority.{Table}
use Rattle.attestations.specs.CurrentTable.{IsCurrentTable}
use Rattle.path_model.specs.PrintedWitness.{IsPrinted}
use Rattle.path_model.specs.Roles.{Relations, role_of}
use Rattle.path_model.specs.Routes.{Routes}
use Rattle.path_model.specs.Trail.{Path}
use Rattle.path_model.specs.Witness.{Facts}
use Rattle.shared_cases.specs.Listed.{Listed}
use Rattle.shared_cases.specs.Touched.{AreApart}
use Rattle.rib_store.specs.declared.pairs.Pair.{Pair}
use Rattle.rib_store.specs.declared.pairs.Pairs.{Pairs}
use Rattle.rib_store.specs.Shown.{Standing}
use Rattle.rib_store.specs.ShownLeft.{standing_by}
use Rattle.rib_store.specs.State.{State}

-- the AS of some peers with how a path from it stands, and how many routes have the two
pub record Paired : Type 0 where
  pub asn : ℕ
  pub standing : Standing
  pub routes : ℕ

-- the two
abbrev pub pair_of : Paired → ℕ × Path
pair_of p = (p.asn, p.standing.path)

-- whether two paths are the same
abbrev pub is_same_path : Path → Path → Bool
is_same_path one other = beq one.set other.set && pointwise nat_eq one.chain other.chain

-- whether the route is from this AS and has this path
abbrev pub has_pair : ℕ → Path → Key × Path → Bool
has_pair asn path route = nat_eq route.0.peer.asn asn && is_same_path route.1 path

-- how many routes are from this AS and have this path
abbrev pub routes_with : Routes → ℕ → Path → ℕ
routes_with routes asn path = count_by (has_pair asn path) (fin.entries routes)

-- By the current table, the role is that of the AS, the verdict is the right one of the path from it, and the witness is the printed one, whose
-- facts hold.
pub record IsStandingFrom (state : State) (asn : ℕ) (s : Standing) : Type 0 where
  pub role : s.role ≡ role_of state.roles asn
  pub table : Table
  pub current : IsCurrentTable state.parts table
  pub printed : IsPrinted table (role_of state.roles asn) asn s.path s.verdict s.witness
  pub facts : Facts table (role_of state.roles asn) asn s.path s.verdict s.witness

-- some routes have the pair, and so many, and it stands so
pub record IsPaired (state : State) (p : Paired) : Type 0 where
  pub counted : p.routes ≡ routes_with state.routes p.asn p.standing.path
  pub some : 0 < p.routes
  pub stands : IsStandingFrom state p.asn p.standing

-- each pair of a peer AS and a path that a route has, once, in any order, with how many routes have it and how it stands
pub record ArePairs (state : State) (pairs : List Paired) : Type 0 where
  pub apart : AreApart (map pair_of pairs)
  pub all : (key : Key) (path : Path) → fin.get state.routes key ≡ Some path
      → Contains (map pair_of pairs) (key.peer.asn, path)
  pub each : All (IsPaired state) pairs

-- ---- what an iterator over them has left

-- what a pair says, with the path itself
abbrev pub paired : Pair → Paired
paired pair = record {
  asn = pair.asn;
  standing = record { path = pair.trail.now; role = pair.role; verdict = pair.verdict; witness = pair.witness };
  routes = pair.routes;
}

-- a case, in the role of its AS
abbrev pub paired_by : Relations → Listed → Paired
paired_by relations l = record {
  asn = l.asn;
  standing = standing_by relations l.asn l.trail l.judged;
  routes = l.users;
}

-- each case that is left, in the role of its AS
abbrev pub pairs_left : Pairs → List Paired
pairs_left pairs = map (paired_by pairs.roles.now) pairs.rest
