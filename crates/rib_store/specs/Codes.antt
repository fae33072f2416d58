-- Codes of the values that the Models of this crate have.
use Rattle.std.specs.Prelude.{refl}
use Rattle.std.specs.FinMap as fin
use Rattle.std.specs.Coded.{Coded, code_by, coded×}
use Rattle.path_model.specs.Codes.{coded_key, coded_path}
use Rattle.attestations.specs.CurrentTable.{Parts}
use Rattle.path_model.specs.Roles.{Relations, coded_relations}
use Rattle.path_model.specs.Routes.{Routes}
use Rattle.vap_table.specs.Codes.{coded_parts}
use Rattle.shared_cases.specs.Cases.{Slots}
use Rattle.shared_cases.specs.Codes.{coded_slots, coded_verdict}
use Rattle.rib_store.specs.State.{State, Marked}
use Rattle.rib_store.specs.Stored.{Stored}

abbrev pub coded_routes : Coded Routes
coded_routes = fin.code coded_key coded_path

abbrev pub coded_marked : Coded Marked
coded_marked = fin.code coded_key coded_verdict

abbrev pub coded_state : Coded State
coded_state = code_by (Parts × (Relations × (Routes × Marked)))
    (coded× coded_parts (coded× coded_relations (coded× coded_routes coded_marked)))
    (λ s. (s.parts, (s.roles, (s.routes, s.marked))))
    (λ p. record { parts = p.0; roles = p.1.0; routes = p.1.1.0; marked = p.1.1.1 }) (λ _. refl)

abbrev pub coded_stored : Coded Stored
coded_stored = code_by (State × Slots) (coded× coded_state coded_slots) (λ s. (s.state, s.cases))
    (λ p. record { state = p.0; cases = p.1 }) (λ _. refl)
