use Rattle.std.proofs.Common.{◌∙◌}
use Rattle.std.specs.Range.{range_inclusive_start, range_inclusive_end}
use Rattle.origin_model.proofs.PayloadLemmas.{some_within, some_only, some_all}
use Rattle.origin_model.proofs.vrp_set.VrpSet.of_prefix.Goals as goal

pub returns-clause-within : goal.returns-clause-within
returns-clause-within c = some_within c.args.prefix.now c.self.inside.members.keys c.args.self.now c.self.view_is c.self.invariant c.range.result
    (range_inclusive_start c.new.result) (range_inclusive_end c.new.result) (c.new.ensures.start ∙ c.least_of.ensures) (c.new.ensures.end ∙ c.greatest_of.ensures) (c.range.ensures.between c.new.ensures.exhausted)

pub returns-clause-only : goal.returns-clause-only
returns-clause-only c = some_only c.args.prefix.now c.self.inside.members.keys c.args.self.now c.self.view_is c.self.invariant c.range.result
    (range_inclusive_start c.new.result) (range_inclusive_end c.new.result) (c.new.ensures.start ∙ c.least_of.ensures) (c.new.ensures.end ∙ c.greatest_of.ensures) (c.range.ensures.between c.new.ensures.exhausted)

pub returns-clause-all : goal.returns-clause-all
returns-clause-all c = some_all c.args.prefix.now c.self.inside.members.keys c.args.self.now c.self.view_is c.self.invariant c.range.result
    (range_inclusive_start c.new.result) (range_inclusive_end c.new.result) (c.new.ensures.start ∙ c.least_of.ensures) (c.new.ensures.end ∙ c.greatest_of.ensures) (c.range.ensures.between c.new.ensures.exhausted)
