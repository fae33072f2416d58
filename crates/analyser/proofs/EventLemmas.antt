-- Each event has one outcome from any state.
use Rattle.std.proofs.Common.{◌≡◌, refl, sym, ap, subst, ◌∙◌}
use Rattle.av_base.specs.One.{HasOne}
use Rattle.attestations.specs.CurrentTable.{Parts}
use Rattle.path_model.specs.Roles.{set_role}
use Rattle.path_model.specs.Routes.{performed}
use Rattle.vap_table.proofs.ChangeLemmas as changes
use Rattle.rib_store.specs.State.{State}
use Rattle.rib_store.specs.Stored.{Stored}
use Rattle.analyser.specs.declared.event.Event.{Event}
use Rattle.analyser.specs.declared.event.Event.TheVariants.{Routes, Table, Role, DefaultRole}
use Rattle.analyser.specs.Events.{Happens}

pub one_outcome_of : (state : State) (event : Event) → HasOne (Happens state event)
one_outcome_of state (Routes list) = record {
  one = record state { routes = performed list state.routes };
  is = refl;
  only = λ other is. is;
}
one_outcome_of state (Table change) = let one = changes.one_outcome state.parts change in record {
  one = record state { parts = one.one };
  is = (one.one, one.is, refl);
  only = λ other is. is.2 ∙ ap (λ (parts : Parts). record state { parts = parts }) (one.only is.0 is.1);
}
one_outcome_of state (Role asn role) = record {
  one = record state { roles = set_role state.roles asn role };
  is = refl;
  only = λ other is. is;
}
one_outcome_of state (DefaultRole role) = record {
  one = record state { roles = record state.roles { default = role } };
  is = refl;
  only = λ other is. is;
}

-- some state comes of each event
pub some_outcome : (state : State) (event : Event) → (next : State) × Happens state event next
some_outcome state event = let one = one_outcome_of state event in (one.one, one.is)

-- and no other one
pub one_outcome : (state : State) (event : Event) (next other : State) → Happens state event next → Happens state event other → other ≡ next
one_outcome state event next other is also = let one = one_outcome_of state event in one.only other also ∙ sym (one.only next is)

-- what happens doesn't depend on how the event and the states are written
pub happens_too : (old state : State) (event given : Event) (store also : Stored) → old ≡ state → event ≡ given → store ≡ also → Happens old given also.state → Happens state event store.state
happens_too old state event given store also from is to happens =
    subst (λ (e : Event). Happens state e store.state) (sym is) (subst (λ (s : Stored). Happens state given s.state) (sym to) (subst (λ (s : State). Happens s given also.state) from happens))
