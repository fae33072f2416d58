use Rattle.std.proofs.Common.{◌≡◌, ℕ, ap, sym, subst, ◌∙◌}
use Rattle.std.specs.Option.{option_copied}
use Rattle.hop_index.specs.Index.{has as hops_have}
use Rattle.shared_cases.specs.Cases.{Slots, at}
use Rattle.shared_cases.specs.Owning.{owned_of}
use Rattle.shared_cases.specs.Peers.{Members, found}
use Rattle.shared_cases.proofs.KeptLemmas.{owned_kept}
use Rattle.shared_cases.proofs.OwnLemmas.{owned_all, owned_none}
use Rattle.shared_cases.proofs.TotalsLemmas.{owned_totals}
use Rattle.shared_cases.proofs.VerdictLemmas.{owned_verdicts}
use Rattle.shared_cases.proofs.cases.SharedCases.set_own.Goals as goal

pub invariant_of-self-in-Some : goal.invariant_of-self-in-Some
invariant_of-self-in-Some c =
    let own : (n : ℕ) → at c.set_all_own.new.slab.slots n ≡ owned_of c.args.asn (at c.self.inside.slab.slots n) =
    owned_all c.args.asn c.self.inside.slab.slots c.self.inside.kept.peers.members (c.self.invariant.0.indexed.members c.args.asn) c.set_all_own.new.slab.slots c.in-Some.numbers.now
    (ap (λ (members : Members). found members c.args.asn) (sym c.set_own.ensures.members) ∙ sym c.of.ensures ∙ ap option_copied c.in-Some.is)
    c.set_all_own.ensures.owned c.set_all_own.ensures.others in (
      owned_kept c.args.asn c.self.inside.slab.slots c.set_all_own.new.slab.slots c.self.inside.kept.names (hops_have c.self.inside.kept.index) c.self.inside.kept.peers c.set_own.new.self c.self.inside.kept.differed
          c.self.invariant.0 own c.set_own.ensures.members c.set_own.ensures.defaulted,
      c.self.invariant.1 ∙ owned_totals c.args.asn c.self.inside.slab.slots c.set_all_own.new.slab.slots own,
      owned_verdicts c.args.asn c.self.inside.slab.slots c.set_all_own.new.slab.slots c.self.inside.kept.verdicts c.self.invariant.2 own,
    )

pub returns-in-Some : goal.returns-in-Some
returns-in-Some c = subst (λ (cases : Slots). (n : ℕ) → at c.set_all_own.new.slab.slots n ≡ owned_of c.args.asn (at cases n)) c.self.view_is
    (owned_all c.args.asn c.self.inside.slab.slots c.self.inside.kept.peers.members (c.self.invariant.0.indexed.members c.args.asn) c.set_all_own.new.slab.slots c.in-Some.numbers.now
    (ap (λ (members : Members). found members c.args.asn) (sym c.set_own.ensures.members) ∙ sym c.of.ensures ∙ ap option_copied c.in-Some.is)
    c.set_all_own.ensures.owned c.set_all_own.ensures.others)

pub invariant_of-self-in-None : goal.invariant_of-self-in-None
invariant_of-self-in-None c = (
  owned_kept c.args.asn c.self.inside.slab.slots c.self.inside.slab.slots c.self.inside.kept.names (hops_have c.self.inside.kept.index) c.self.inside.kept.peers c.set_own.new.self c.self.inside.kept.differed
      c.self.invariant.0
      (owned_none c.args.asn c.self.inside.slab.slots c.self.inside.kept.peers.members (c.self.invariant.0.indexed.members c.args.asn)
      (ap (λ (members : Members). found members c.args.asn) (sym c.set_own.ensures.members) ∙ sym c.of.ensures ∙ ap option_copied c.in-None.is))
      c.set_own.ensures.members c.set_own.ensures.defaulted,
  c.self.invariant.1,
  c.self.invariant.2,
)

pub returns-in-None : goal.returns-in-None
returns-in-None c = subst (λ (cases : Slots). (n : ℕ) → at c.self.inside.slab.slots n ≡ owned_of c.args.asn (at cases n)) c.self.view_is
    (owned_none c.args.asn c.self.inside.slab.slots c.self.inside.kept.peers.members (c.self.invariant.0.indexed.members c.args.asn)
    (ap (λ (members : Members). found members c.args.asn) (sym c.set_own.ensures.members) ∙ sym c.of.ensures ∙ ap option_copied c.in-None.is))
