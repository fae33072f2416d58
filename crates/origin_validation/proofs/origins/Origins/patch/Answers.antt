use Rattle.std.proofs.Common.{List, ap, subst}
use Rattle.origin_model.specs.Vrp.{Payload}
use Rattle.origin_validation.specs.Held.{AreAlready, Keeps}
use Rattle.origin_validation.specs.Records.{or_none}
use Rattle.origin_validation.proofs.PatchLemmas.{patched_right}
use Rattle.origin_validation.proofs.origins.Origins.patch.Goals as goal

pub invariant_of-self-in_default : goal.invariant_of-self-in_default
invariant_of-self-in_default c =
    patched_right c.self.inside.records c.patch.new.self c.args.name c.args.changes c.self.inside.held.entries c.forget_patched.new.held.entries c.in_default.ensures c.self.invariant
    (subst (λ (before : List Payload). Keeps (AreAlready before c.args.changes) c.self.inside.held.entries c.forget_patched.new.held.entries) (ap or_none c.source.ensures) c.forget_patched.ensures)
