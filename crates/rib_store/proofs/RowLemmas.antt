-- The rows that are made of a state's routes.
use Rattle.std.proofs.Common.{◌≡◌, ℕ, List, [], ◌∷◌, Some, refl, ap, ◌∙◌}
use Rattle.std.specs.Prelude.{map, All}
use Rattle.std.specs.FinMap as fin
use Rattle.std.proofs.lemmas.List.Elements.{All-nil, All-cons}
use Rattle.path_model.specs.declared.key.Key.{Key}
use Rattle.path_model.specs.declared.role.Role.{Role}
use Rattle.path_model.specs.declared.verdict.Verdict.{Verdict}
use Rattle.path_model.specs.Authority.{Table}
use Rattle.attestations.specs.ComputedTable.{table_of}
use Rattle.attestations.specs.CurrentTable.{Parts}
use Rattle.path_model.specs.RightVerdict.{IsRight}
use Rattle.path_model.specs.Roles.{Relations, role_of}
use Rattle.path_model.specs.Trail.{Path}
use Rattle.path_model.proofs.LawLemmas.{one_right}
use Rattle.attestations.proofs.PartsLemmas.{table_is_current}
use Rattle.rib_store.specs.Rows.{verdict_of, current_verdict, rows_of}
use Rattle.rib_store.specs.State.{State, IsCurrent, AreRows}
use Rattle.rib_store.proofs.KeyLemmas.{AllFound, all_found}

-- ---- the verdict that the law gives

pub right_verdict : (table : Table) (role : Role) (neighbour : ℕ) (path : Path) → IsRight table role neighbour path (verdict_of table role neighbour path)
unfolding verdict_of
right_verdict table role neighbour path = (one_right table role neighbour path).is

pub is_verdict_of : (table : Table) (role : Role) (neighbour : ℕ) (path : Path) (verdict : Verdict) → IsRight table role neighbour path verdict → verdict ≡ verdict_of table role neighbour path
unfolding verdict_of
is_verdict_of table role neighbour path verdict right = (one_right table role neighbour path).only verdict right

-- ---- the rows

current_row : (state : State) (key : Key) (path : Path) → fin.get state.routes key ≡ Some path → IsCurrent state key (current_verdict state.parts state.roles key path)
current_row state key path route = record {
  path = path;
  route = route;
  table = table_of state.parts;
  current = table_is_current state.parts;
  right = right_verdict (table_of state.parts) (role_of state.roles key.peer.asn) key.peer.asn path;
}

-- what is right by the parts' table is current
pub current_by : (state : State) (key : Key) (path : Path) (verdict : Verdict) → fin.get state.routes key ≡ Some path → verdict ≡ current_verdict state.parts state.roles key path → IsCurrent state key verdict
current_by state key path verdict route is = rw is (current_row state key path route)

each_current : (state : State) (es : List (Key × Path)) → AllFound (fin.entries state.routes) es → All (λ (row : Key × Verdict). IsCurrent state row.0 row.1) (rows_of state.parts state.roles es)
each_current state [] found = All-nil (λ (row : Key × Verdict). IsCurrent state row.0 row.1)
each_current state (e ∷ es) found = All-cons (λ (row : Key × Verdict). IsCurrent state row.0 row.1) (e.0, current_verdict state.parts state.roles e.0 e.1) (rows_of state.parts state.roles es)
    (current_row state e.0 e.1 (fin.get-entries state.routes e.0 ∙ found.0)) (each_current state es found.1)

firsts : (parts : Parts) (roles : Relations) (es : List (Key × Path)) → map (λ (row : Key × Verdict). row.0) (rows_of parts roles es) ≡ map (λ (e : Key × Path). e.0) es
firsts parts roles [] = refl
firsts parts roles (e ∷ es) = ap (λ (ks : List Key). e.0 ∷ ks) (firsts parts roles es)

pub are_rows : (state : State) → AreRows state (rows_of state.parts state.roles (fin.entries state.routes))
are_rows state = record {
  keys = firsts state.parts state.roles (fin.entries state.routes);
  current = each_current state (fin.entries state.routes) (all_found (fin.entries state.routes) (fin.entries_sorted state.routes));
}
