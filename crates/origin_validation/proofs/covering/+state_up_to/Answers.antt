use Rattle.std.proofs.Common.{◌∙◌, ℕ, ap, sym, subst}
use Rattle.path_model.specs.declared.addr.Addr.{Addr}
use Rattle.path_model.specs.Prefix.{prefix_of}
use Rattle.origin_model.specs.OriginState.{HasState}
use Rattle.origin_validation.specs.Records.{IsUnhitUpTo}
use Rattle.origin_validation.proofs.FrontLemmas.{up_to_front, up_to_next}
use Rattle.origin_validation.proofs.covering.+state_up_to.Goals as goal

pub returns-in-None : goal.returns-in-None
returns-in-None t c =
    let is = ap (λ (a : Addr). prefix_of a c.args.len) (sym c.addr.ensures.addr) ∙ sym c.new.ensures ∙ c.in-Some.is in
    up_to_front c.args.set.now c.args.filters.now c.args.prefix.now c.args.origin c.in-Some.front c.args.len is c.requires c.state_at-state.result c.in-None.ensures.none c.state_at-state.ensures

pub returns-in-Some-next_front : goal.returns-in-Some-next_front
returns-in-Some-next_front t c =
    let is = ap (λ (a : Addr). prefix_of a c.args.len) (sym c.addr.ensures.addr) ∙ sym c.new.ensures ∙ c.in-Some.is in
    let more = subst (λ (n : ℕ). HasState (IsUnhitUpTo c.args.set.now c.args.filters.now n) c.args.prefix.now c.args.origin c.state_up_to.result) c.len.ensures.len c.state_up_to.ensures in
    subst (HasState (IsUnhitUpTo c.args.set.now c.args.filters.now c.args.len) c.args.prefix.now c.args.origin) (sym c.or.ensures)
    (up_to_next c.args.set.now c.args.filters.now c.args.prefix.now c.args.origin c.in-Some.front c.args.len is c.requires c.in-Some-next_front.next c.state_at-state.result c.state_up_to.result
    c.in-Some-next_front.ensures.some c.state_at-state.ensures more)
