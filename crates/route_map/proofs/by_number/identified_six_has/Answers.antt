use Rattle.std.proofs.Common.{ap, ◌∙◌}
use Rattle.std.specs.declared.ops.Bound.TheVariants.{Included, Unbounded}
use Rattle.std.specs.BTreeMap.Range.{range_contains}
use Rattle.std.specs.List.{filter}
use Rattle.path_model.specs.declared.nlri.Nlri.{Nlri}
use Rattle.route_map.specs.Keys.{pair_cmp}
use Rattle.route_map.specs.Numbered.{least_nlri}
use Rattle.route_map.proofs.NumberedLemmas.{none_from, some_from, all_least}
use Rattle.route_map.proofs.by_number.identified_six_has.Goals as goal

pub returns-in-None : goal.returns-in-None
returns-in-None c =
    none_from c.args.numbered.now.keys least_nlri (all_least c.args.numbered.now.keys) c.range.ensures.ordered c.args.number c.range.result
    (c.range.ensures.between tt ∙ ap (λ (s : Nlri). filter (range_contains pair_cmp (Included (c.args.number, s)) Unbounded) c.args.numbered.now.keys) (c.nlri.ensures ∙ c.least.ensures))
    c.in-None.ensures.steps.0

pub returns-in-Some : goal.returns-in-Some
returns-in-Some c =
    some_from c.args.numbered.now.keys least_nlri (all_least c.args.numbered.now.keys) c.range.ensures.ordered c.args.number c.range.result
    (c.range.ensures.between tt ∙ ap (λ (s : Nlri). filter (range_contains pair_cmp (Included (c.args.number, s)) Unbounded) c.args.numbered.now.keys) (c.nlri.ensures ∙ c.least.ensures))
    c.in-Some.pair.now _ c.in-Some.ensures.steps
