use Rattle.std.proofs.Common.{List, ap, subst, sym, ◌∙◌, ◌⊎◌, inl, inr}
use Rattle.origin_model.specs.declared.prefix_filter.PrefixFilter.{PrefixFilter}
use Rattle.origin_model.specs.Current.{Parts, IsCurrent}
use Rattle.origin_model.specs.PrefixFilter.{IsHit}
use Rattle.origin_model.specs.OriginState.{HasState, better}
use Rattle.origin_model.specs.Vrp.{Payload}
use Rattle.origin_model.specs.VrpSet.{has}
use Rattle.origin_model.proofs.StateLemmas.{has_like, has_or}
use Rattle.origin_validation.specs.Records.{IsGivenUnhit, IsUnhit}
use Rattle.origin_validation.proofs.records.Records.state.Goals as goal

pub returns : goal.returns
returns c =
    let asserted = λ (v : Payload). ap (λ (p : Parts). has p.assertions v) c.self.view_is in
    let A : Payload → Type 0 = IsGivenUnhit c.args.self.now.sources c.args.self.now.filters in
    let B : Payload → Type 0 = IsUnhit c.self.inside.assertions c.new-none.result in
    subst (HasState (IsCurrent c.args.self.now) c.args.prefix.now c.args.origin) (sym c.or.ensures)
    (has_like c.args.prefix.now c.args.origin (λ v. A v ⊎ B v) (IsCurrent c.args.self.now) (better c.given_state-given.result c.state_in-asserted.result)
    (λ v covers a. elim a [ inl g ↦ inl g | inr b ↦ inr (sym (asserted v) ∙ b.0) ])
    (λ v covers a. elim a [ inl g ↦ inl g | inr h ↦ inr (asserted v ∙ h, λ hit. subst (λ (fs : List PrefixFilter). IsHit fs v) c.new-none.ensures hit) ])
    (has_or c.args.prefix.now c.args.origin A B c.given_state-given.result c.state_in-asserted.result c.given_state-given.ensures c.state_in-asserted.ensures))
