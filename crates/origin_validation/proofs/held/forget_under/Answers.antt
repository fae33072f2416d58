use Rattle.std.proofs.Common.{refl}
use Rattle.origin_validation.proofs.HeldLemmas.{keeps_itself}
use Rattle.origin_validation.proofs.UnderLemmas.{all_apart, still_kept}
use Rattle.origin_validation.proofs.held.forget_under.Goals as goal

pub loop-pair-init : goal.loop-pair-init
loop-pair-init c = keeps_itself (λ p. Unit {0}) c.args.held.now.entries c.args.held.now.entries refl (λ p. tt)

pub loop-pair-preserved : goal.loop-pair-preserved
loop-pair-preserved c = still_kept c.args.held.now.entries c.loop-pair.held.entries c.remove.new.self.entries c.in-Some.pair c.loop-pair.invariant c.remove.ensures.updates.0

pub returns : goal.returns
returns c = all_apart c.args.prefix.now c.args.held.now.entries c.loop-pair.held.entries c.loop-pair.invariant c.in_default.ensures.none
