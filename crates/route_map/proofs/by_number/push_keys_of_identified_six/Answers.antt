use Rattle.std.proofs.Common.{◌||◌, Bool, ap, ◌∙◌}
use Rattle.std.specs.declared.ops.Bound.TheVariants.{Included, Excluded}
use Rattle.std.specs.BTreeMap.Range.{range_contains}
use Rattle.std.specs.List.{filter}
use Rattle.path_model.specs.declared.nlri.Nlri.{Nlri}
use Rattle.route_map.specs.Keys.{has_key, pair_cmp}
use Rattle.route_map.specs.Numbered.{least_nlri}
use Rattle.route_map.proofs.NumberedLemmas.{gives, given, gives_next, all_least}
use Rattle.route_map.proofs.by_number.push_keys_of_identified_six.Goals as goal

pub loop-pair-init : goal.loop-pair-init
loop-pair-init c = λ q. ap (λ (t : Bool). has_key c.args.keys.now.items q || t)
    (ap (gives c.args.peer q)
    (c.into_iter-pair-iterator.ensures.into_iter_gives ∙ c.range-pair-items.ensures.between tt
    ∙ ap (λ (s : Nlri). filter (range_contains pair_cmp (Included (c.args.number, s)) (Excluded (c.args.next, c.nlri-end.result))) c.args.numbered.now.keys) (c.nlri-first.ensures ∙ c.least.ensures)
    ∙ ap (λ (s : Nlri). filter (range_contains pair_cmp (Included (c.args.number, least_nlri)) (Excluded (c.args.next, s))) c.args.numbered.now.keys) (c.nlri-end.ensures ∙ c.least-2.ensures))
    ∙ given c.args.peer q c.args.number c.args.next c.requires least_nlri c.args.numbered.now.keys (all_least c.args.numbered.now.keys))

pub loop-pair-preserved : goal.loop-pair-preserved
loop-pair-preserved c = λ q.
    gives_next c.args.peer c.loop-pair.keys.items c.push.new.self.items c.key_of.result c.in-Some.pair.now c.next.new.self c.loop-pair.pair-iterator
    c.in_ok-push.ensures.items c.key_of.ensures c.in-Some.ensures.steps q
    ∙ c.loop-pair.invariant q
