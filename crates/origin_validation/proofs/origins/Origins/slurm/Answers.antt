use Rattle.std.proofs.Common.{List, sym, subst}
use Rattle.origin_model.specs.declared.prefix_filter.PrefixFilter.{PrefixFilter}
use Rattle.origin_model.specs.Current.{Parts}
use Rattle.origin_model.specs.Vrp.{Payload}
use Rattle.origin_validation.specs.Held.{AreRight, IsUnhitByAll, Keeps, SameHave}
use Rattle.origin_validation.proofs.ChangedLemmas.{amended_right}
use Rattle.origin_validation.proofs.origins.Origins.slurm.Goals as goal

pub invariant_of-self : goal.invariant_of-self
invariant_of-self c =
    subst (λ (p : Parts). AreRight p c.forget_hit-2.new.held.entries) (sym c.amend.ensures.new)
    (amended_right c.self.inside.records c.args.filters c.args.assertions c.self.inside.held.entries c.forget_differing.new.held.entries c.forget_hit.new.held.entries c.forget_hit-2.new.held.entries c.self.invariant
    (subst (λ (vs : List Payload). Keeps (SameHave vs c.args.assertions) c.self.inside.held.entries c.forget_differing.new.held.entries) c.assertions.ensures c.forget_differing.ensures)
    (subst (λ (fs : List PrefixFilter). Keeps (IsUnhitByAll fs) c.forget_differing.new.held.entries c.forget_hit.new.held.entries) c.filters.ensures c.forget_hit.ensures)
    c.forget_hit-2.ensures)
