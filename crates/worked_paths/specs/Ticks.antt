-- A row of events, and what it makes of an analysis in which nothing has happened yet.
use Rattle.std.specs.Prelude.{false, [], ◌∷◌}
use Rattle.std.specs.FinMap as fin
use Rattle.std.specs.declared.option.Option.TheVariants.{None}
use Rattle.path_model.specs.declared.addr.Addr.TheVariants.{V4}
use Rattle.path_model.specs.declared.key.Key.{Key}
use Rattle.path_model.specs.declared.role.Role.TheVariants.{Customer, Peer as PeerRole}
use Rattle.path_model.specs.Roles.{set_role}
use Rattle.path_model.specs.Trail.{Path, path_of}
use Rattle.rib_store.specs.State.{State, no_state}

-- the key of 198.51.100.0/24 at 192.0.2.1 in AS 64501, without a path identifier
abbrev pub route_key : Key
route_key = record {
  peer = record { addr = V4 3221225985; asn = 64501 };
  prefix = record { addr = V4 3325256704; len = 24 };
  path = None;
}

-- AS 64500 is the origin, and AS 64501 the neighbour
abbrev pub route_path : Path
route_path = path_of false (64501 ∷ 64500 ∷ [])

-- the route is announced,
abbrev pub announced_state : State
announced_state = record no_state { routes = fin.insert fin.empty route_key route_path }

-- 7, which isn't in its path, attests 8,
abbrev pub other_asserted_state : State
other_asserted_state = record announced_state { parts = record announced_state.parts { assertions = fin.insert fin.empty 7 (8 ∷ []) } }

-- the origin's rows are filtered out, of which there are none,
abbrev pub filtered_state : State
filtered_state = record other_asserted_state { parts = record other_asserted_state.parts { filters = 64500 ∷ [] } }

-- the origin attests the neighbour,
abbrev pub origin_asserted_state : State
origin_asserted_state =
    record filtered_state { parts = record filtered_state.parts { assertions = fin.insert filtered_state.parts.assertions 64500 (64501 ∷ []) } }

-- an AS that is no peer's has a role,
abbrev pub other_role_state : State
other_role_state = record origin_asserted_state { roles = set_role origin_asserted_state.roles 1 PeerRole }

-- the peer's AS has one of its own,
abbrev pub peer_role_state : State
peer_role_state = record other_role_state { roles = set_role other_role_state.roles 64501 Customer }

-- and all others have another one than before
abbrev pub default_role_state : State
default_role_state = record peer_role_state { roles = record peer_role_state.roles { default = Customer } }
