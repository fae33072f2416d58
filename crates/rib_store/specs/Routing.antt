-- The routes with their cases and marks, by a table and roles. Private contracts alone cite it.
use Rattle.std.specs.Prelude.{◌≡◌, ℕ, List, ⊤}
use Rattle.attestations.specs.CurrentTable.{Parts}
use Rattle.path_model.specs.Roles.{Relations}
use Rattle.path_model.specs.Trail.{Path as AnyPath}
use Rattle.shared_cases.specs.declared.grounds.Grounds.{Grounds as LentGrounds}
use Rattle.shared_cases.specs.Cases.{Slots, at, IsStoredAs}
use Rattle.rib_store.specs.Grounds.{grounds}
use Rattle.rib_store.specs.declared.marks.Marks.{Marks}
use Rattle.rib_store.specs.declared.routing.CaseBy.{CaseBy}
use Rattle.rib_store.specs.declared.routing.CaseBy.TheVariants.{Path, Number}
use Rattle.rib_store.specs.declared.routing.Routing.{Routing}
use Rattle.rib_store.specs.Cased.{path_or, routes_by, marked_by, Numbered}
use Rattle.rib_store.specs.Marks.{AreSound, Defers}
use Rattle.rib_store.specs.State.{State}

-- the state of the analysis
abbrev pub routed_state : Parts → Relations → Routing → State
routed_state parts relations r = record {
  parts = parts;
  roles = relations;
  routes = routes_by r.cases r.routes;
  marked = marked_by r.marks.is_marked r.cases r.routes r.marks.notes;
}

-- the cases and the marks are those of the routes
abbrev pub AreRouted : Parts → Relations → Routing → Type 0
AreRouted parts relations r = AreSound (grounds parts relations) r.routes r.cases r.marks

-- the same by what is lent
abbrev pub state_on : LentGrounds Parts → Routing → State
state_on on r = routed_state on.table.now on.roles.now r

abbrev pub AreRoutedOn : LentGrounds Parts → Routing → Type 0
AreRoutedOn on r = AreRouted on.table.now on.roles.now r

-- the routes and the marks, with cases that were judged anew: the keys of those that newly differ are to be noted
pub record AreJudgedAnew (routes : Numbered) (cases : Slots) (marks : Marks) (differing : List ℕ) (r : Routing) : Type 0 where
  pub same : r ≡ record { routes = routes; cases = cases; marks = record marks { pending = r.marks.pending } }
  pub deferred : Defers marks.is_marked marks.pending differing r.marks.pending

-- the path of a case that is found so
abbrev pub path_by : Slots → CaseBy → AnyPath
path_by cases (Path trail hint) = trail.now
path_by cases (Number n) = path_or (at cases n)

-- where it is found by its number, it is there, and of this AS
abbrev pub IsFound : Slots → ℕ → CaseBy → Type 0
IsFound cases asn (Path trail hint) = ⊤
IsFound cases asn (Number n) = IsStoredAs (at cases n) asn (path_or (at cases n))
