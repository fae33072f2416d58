-- Events that happen one after another: one more, and that they have one outcome.
use Rattle.std.proofs.Common.{◌≡◌, List, [], ◌∷◌, refl, sym, subst, ◌∙◌}
use Rattle.rib_store.specs.State.{State}
use Rattle.analyser.specs.declared.event.Event.{Event}
use Rattle.analyser.specs.Events.{Happens}
use Rattle.analyser.proofs.EventLemmas.{some_outcome, one_outcome}
use Rattle.stated_workload.specs.Happening.{HappenAll, HappenedBefore}

pub happened_none : (old : State) (all : List Event) → HappenedBefore old old all all
happened_none old all = record { goes_on = λ new happens. happens }

pub happened_more : {old mid : State} {all rest : List Event} → HappenedBefore old mid all rest → (event : Event) (more : List Event) (new : State) → rest ≡ event ∷ more → Happens mid event new → HappenedBefore old new all more
happened_more {old} {mid} {all} {rest} so_far event more new first happens = record {
  goes_on = λ end happen. so_far.goes_on end (subst (λ (l : List Event). HappenAll mid l end) (sym first) (new, happens, happen));
}

pub happened_all : {old mid : State} {all rest : List Event} → HappenedBefore old mid all rest → rest ≡ [] → HappenAll old all mid
happened_all {old} {mid} {all} {rest} so_far none = so_far.goes_on mid (subst (λ (l : List Event). HappenAll mid l mid) (sym none) refl)

pub ruleset happening_steps = (happened_none, happened_more, happened_all)

-- ---- one outcome

pub one_end : (old state : State) (events : List Event) (new other : State) → old ≡ state → HappenAll old events new → HappenAll state events other → other ≡ new
one_end old state [] new other same a b = b ∙ sym same ∙ sym a
one_end old state (event ∷ events) new other same a b =
    one_end a.0 b.0 events new other (one_outcome state event b.0 a.0 b.1 (subst (λ (s : State). Happens s event a.0) same a.1)) a.2 b.2

pub some_end : (old : State) (events : List Event) → (new : State) × HappenAll old events new
some_end old [] = (old, refl)
some_end old (event ∷ events) =
    let first = some_outcome old event in
    let rest = some_end first.0 events in
    (rest.0, (first.0, first.1, rest.1))
