use Rattle.std.proofs.Common.{ℕ, List, subst, sym}
use Rattle.hop_index.specs.Index.{has as hops_have, Entries, IsWholeChain, Removes}
use Rattle.shared_cases.specs.Kept.{without_chain, FitBy}
use Rattle.shared_cases.proofs.FitLemmas.{fit_same, whole_chain}
use Rattle.shared_cases.proofs.cases.SharedCases.remove.Goals as goal

pub invariant_of-self : goal.invariant_of-self
invariant_of-self c =
    subst (λ (index : Entries). FitBy (hops_have index) c.take_out.new.slab.slots c.take_out.new.kept) (sym c.take_out.ensures.index)
    (c.in_default.ensures.none (hops_have c.self.inside.kept.index) c.self.invariant)

pub invariant_of-self-2 : goal.invariant_of-self-2
invariant_of-self-2 c =
    fit_same (without_chain (hops_have c.self.inside.kept.index) c.args.number c.in-Some.trail.chain) (hops_have c.forget.new.self) c.take_out.new.slab.slots c.take_out.new.kept
    (subst (λ (index : Entries). Removes index c.args.number c.in-Some.trail.chain c.forget.new.self) c.take_out.ensures.index
    (subst (λ (chain : List ℕ). Removes c.take_out.new.kept.index c.args.number chain c.forget.new.self) c.chain.ensures.chain c.forget.ensures))
    (c.in-Some.ensures.fit (hops_have c.self.inside.kept.index) c.self.invariant)

pub forget-requires : goal.forget-requires
forget-requires c =
    subst (λ (index : Entries). IsWholeChain index c.args.number c.chain.result.now) (sym c.take_out.ensures.index)
    (subst (λ (chain : List ℕ). IsWholeChain c.self.inside.kept.index c.args.number chain) (sym c.chain.ensures.chain)
    (whole_chain c.take_out.new.slab.slots (hops_have c.self.inside.kept.index) c.args.number c.in-Some.trail.chain
    (c.in-Some.ensures.fit (hops_have c.self.inside.kept.index) c.self.invariant).0.indexed.indexed c.take_out.ensures.gone.here))
