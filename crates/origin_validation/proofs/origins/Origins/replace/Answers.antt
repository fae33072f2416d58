use Rattle.std.proofs.Common.{ap, sym, subst}
use Rattle.std.specs.Option.{option_copied}
use Rattle.origin_model.specs.Current.{Parts}
use Rattle.origin_validation.specs.Held.{AreRight}
use Rattle.origin_validation.specs.Records.{or_none}
use Rattle.origin_validation.proofs.ChangedLemmas.{replaced_right}
use Rattle.origin_validation.proofs.origins.Origins.replace.Goals as goal

pub invariant_of-self-2 : goal.invariant_of-self-2
invariant_of-self-2 c =
    subst (λ (p : Parts). AreRight p c.forget_replaced.new.held.entries) (sym c.in_ok-put.ensures.put)
    (replaced_right c.self.inside.records c.args.name c.args.set (or_none (option_copied c.source.result)) c.self.inside.held.entries c.forget_replaced.new.held.entries
    (ap or_none c.source.ensures) c.self.invariant c.forget_replaced.ensures)
