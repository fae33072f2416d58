use Rattle.std.proofs.Common.{◌≡◌, ℕ, nat_eq, not, ◌&&◌, sym, subst, ◌∙◌}
use Rattle.std.proofs.lemmas.Bool.{and_parts}
use Rattle.shared_cases.specs.Numbers.{has}
use Rattle.shared_cases.specs.Peers.{ByPeer}
use Rattle.shared_cases.proofs.NumberLemmas.{number_less}
use Rattle.shared_cases.proofs.peers.Peers.set_own.Goals as goal

pub invariant_of-self : goal.invariant_of-self
invariant_of-self c = (
  c.self.invariant.0,
  λ a there. c.self.invariant.1 a (and_parts (has c.self.inside.defaulted.keys a) (not (nat_eq a c.args.asn))
      (sym (number_less c.self.inside.defaulted.keys c.remove.new.self.keys c.args.asn c.remove.ensures.updates.0 a) ∙ there)).0,
)

pub returns-clause-defaulted : goal.returns-clause-defaulted
returns-clause-defaulted c = subst (λ (peers : ByPeer). (a : ℕ) → has c.remove.new.self.keys a ≡ (has peers.defaulted a && not (nat_eq a c.args.asn))) c.self.view_is
    (number_less c.self.inside.defaulted.keys c.remove.new.self.keys c.args.asn c.remove.ensures.updates.0)
