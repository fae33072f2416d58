use Rattle.std.proofs.Common.{sym, ◌∙◌}
use Rattle.origin_model.proofs.FilterLemmas.{index_next, ok_gives}
use Rattle.origin_model.proofs.prefix_filter.PrefixFilters.push.Goals as goal

pub invariant_of-self-else-not-noted : goal.invariant_of-self-else-not-noted
invariant_of-self-else-not-noted c =
    let updates = ok_gives c.insert.result _ (sym c.is_ok-noted.ensures.value ∙ c.if-not-noted.false) c.insert.ensures.updates in
    index_next c.self.inside.filters.items c.push.new.self.items c.self.inside.parts.keys c.insert.new.self.keys c.args.f c.in_ok-push.ensures.items c.self.invariant updates.0
