use Rattle.std.proofs.Common.{◌≡◌, ◌≢◌, ℕ, ◌&&◌, subst, ◌∙◌}
use Rattle.shared_cases.specs.Numbers.{has}
use Rattle.shared_cases.specs.Peers.{found, has_cases, ByPeer}
use Rattle.shared_cases.proofs.NumberLemmas.{nat_eq-other, number_less, this_at}
use Rattle.shared_cases.proofs.PeerLemmas.{as_goes, left_have_cases, members_left}
use Rattle.shared_cases.proofs.peers.Peers.remove.Goals as goal

pub invariant_of-self : goal.invariant_of-self
invariant_of-self c =
    let others : (a : ℕ) → a ≢ c.args.asn → found c.remove.new.self.entries a ≡ found c.self.inside.members.entries a = λ a other.
    c.remove.ensures.updates.2 a (this_at c.args.asn a ∙ nat_eq-other a c.args.asn other) ∙ c.take_out.ensures.others a other in (
      members_left c.self.inside.members.entries c.remove.new.self.entries c.args.asn c.remove.ensures.updates.1 others c.self.invariant.0,
      left_have_cases c.self.inside.members.entries c.remove.new.self.entries c.args.asn c.remove.ensures.updates.1 others c.self.inside.defaulted.keys c.remove-then-take_out-3.new.self.keys c.self.invariant.1
          (number_less c.self.inside.defaulted.keys c.remove-then-take_out-3.new.self.keys c.args.asn c.remove-then-take_out-3.ensures.updates.0),
    )

pub returns-then-take_out-clause-defaulted : goal.returns-then-take_out-clause-defaulted
returns-then-take_out-clause-defaulted c = subst (λ (peers : ByPeer). (a : ℕ) → has c.remove-then-take_out-3.new.self.keys a ≡ (has peers.defaulted a && has_cases c.remove.new.self.entries a)) c.self.view_is
    (as_goes c.self.inside.members.entries c.remove.new.self.entries c.args.asn c.remove.ensures.updates.1
    (λ a other. c.remove.ensures.updates.2 a (this_at c.args.asn a ∙ nat_eq-other a c.args.asn other) ∙ c.take_out.ensures.others a other)
    c.self.inside.defaulted.keys c.remove-then-take_out-3.new.self.keys c.self.invariant.1
    (number_less c.self.inside.defaulted.keys c.remove-then-take_out-3.new.self.keys c.args.asn c.remove-then-take_out-3.ensures.updates.0))
