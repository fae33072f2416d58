-- Each event costs what its kind may cost.
use Rattle.std.proofs.Common.{◌≡◌, ℕ, ◌+◌, ◌-◌, ◌≤◌, List, refl, sym, subst, arith}
use Rattle.path_model.specs.declared.role.Role.{Role}
use Rattle.path_model.specs.declared.change.Change.{Change}
use Rattle.attestations.specs.CurrentTable.{Parts}
use Rattle.path_model.specs.Roles.{set_role}
use Rattle.path_model.specs.Routes.{performed}
use Rattle.vap_table.specs.declared.change.TableChange.{TableChange}
use Rattle.vap_table.specs.Change.{Alters}
use Rattle.rib_store.specs.State.{State}
use Rattle.rib_store.specs.Touched.{announced, IsWithinTouched, IsTouchedNumber}
use Rattle.rib_store.proofs.TouchedLemmas.{within_number}
use Rattle.analyser.specs.declared.event.Event.{Event}
use Rattle.analyser.specs.declared.event.Event.TheVariants.{Routes, Table, DefaultRole}
use Rattle.analyser.specs.declared.event.Event.TheVariants.{Role as RoleEvent}
use Rattle.analyser.specs.Touched.{TicksWithin}

-- the steps that were taken are no more than what is touched
touched_within : (old made new : State) (before after cost : ℕ) → new ≡ made → IsWithinTouched old made (after - before) → IsTouchedNumber old new cost → after ≤ before + cost
touched_within old made new before after cost is within number =
    let fewer : after - before ≤ cost = within_number old new (after - before) cost
    (subst (λ (state : State). IsWithinTouched old state (after - before)) (sym is) within) number in
    omega (arith, fewer)

pub routes_within : (old : State) (changes : List Change) (before after : ℕ) → after ≤ before + announced changes → TicksWithin old (Routes changes) before after
routes_within old changes before after few = λ new cost happens costs. omega (arith, few, costs)

-- a caller that announces routes knows their number
pub announced_within : (old : State) (changes : List Change) (before after : ℕ) → TicksWithin old (Routes changes) before after → after ≤ before + announced changes
announced_within old changes before after within = within (record old { routes = performed changes old.routes }) (announced changes) refl refl

pub table_within : (old : State) (change : TableChange) (before after : ℕ)
    → ((parts : Parts) → Alters old.parts change parts → IsWithinTouched old (record old { parts = parts }) (after - before)) → TicksWithin old (Table change) before after
table_within old change before after within = λ new cost happens costs.
    touched_within old (record old { parts = happens.0 }) new before after cost happens.2 (within happens.0 happens.1) costs

pub role_within : (old : State) (asn : ℕ) (role : Role) (before after : ℕ)
    → IsWithinTouched old (record old { roles = set_role old.roles asn role }) (after - before) → TicksWithin old (RoleEvent asn role) before after
role_within old asn role before after within = λ new cost happens costs.
    touched_within old (record old { roles = set_role old.roles asn role }) new before after cost happens within costs

pub default_within : (old : State) (role : Role) (before after : ℕ)
    → IsWithinTouched old (record old { roles = record old.roles { default = role } }) (after - before) → TicksWithin old (DefaultRole role) before after
default_within old role before after within = λ new cost happens costs.
    touched_within old (record old { roles = record old.roles { default = role } }) new before after cost happens within costs

-- it doesn't depend on how the event, the state and the steps are written
pub within_too : (old state : State) (event given : Event) (before after also : ℕ) → old ≡ state → event ≡ given → after ≡ also → TicksWithin old given before also → TicksWithin state event before after
within_too old state event given before after also from is counted within =
    subst (λ (n : ℕ). TicksWithin state event before n) (sym counted)
    (subst (λ (e : Event). TicksWithin state e before also) (sym is) (subst (λ (s : State). TicksWithin s given before also) from within))
