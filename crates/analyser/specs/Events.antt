-- What each event makes of an analysis; all other parts of it stay as they were.
use Rattle.std.specs.Prelude.{◌≡◌}
use Rattle.attestations.specs.CurrentTable.{Parts}
use Rattle.path_model.specs.Roles.{set_role}
use Rattle.path_model.specs.Routes.{performed}
use Rattle.vap_table.specs.Change.{Alters}
use Rattle.rib_store.specs.State.{State}
use Rattle.analyser.specs.declared.event.Event.{Event}
use Rattle.analyser.specs.declared.event.Event.TheVariants.{Routes, Table, Role, DefaultRole}

abbrev pub Happens : State → Event → State → Type 0
Happens old (Routes changes) new = new ≡ record old { routes = performed changes old.routes }
Happens old (Table change) new = (parts : Parts) × Alters old.parts change parts × (new ≡ record old { parts = parts })
Happens old (Role asn role) new = new ≡ record old { roles = set_role old.roles asn role }
Happens old (DefaultRole role) new = new ≡ record old { roles = record old.roles { default = role } }
