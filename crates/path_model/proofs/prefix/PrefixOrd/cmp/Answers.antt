use Rattle.std.proofs.Common.{◌∙◌}
use Rattle.path_model.proofs.HalvesLemmas.{fields_cmp, chained}
use Rattle.path_model.proofs.prefix.PrefixOrd.cmp.Goals as goal

pub returns : goal.returns
returns c = rw (← c.self.view_is, ← c.other.view_is)
    (chained c.cmp.result c.cmp-2.result c.cmp-3.result c.cmp-4.result _ _ _ _ c.then.result c.then-2.result c.then-3.result c.cmp.ensures c.cmp-2.ensures c.then.ensures c.cmp-3.ensures c.then-2.ensures c.cmp-4.ensures c.then-3.ensures
    ∙ fields_cmp c.self.inside.six c.other.inside.six c.self.inside.high c.self.inside.low c.other.inside.high c.other.inside.low c.self.inside.len c.other.inside.len c.self.invariant.halves c.other.invariant.halves)
