use Rattle.std.proofs.Common.{ap, ◌∙◌, ◌++◌}
use Rattle.std.specs.Map.{keys_of}
use Rattle.sorted_map.specs.Joined.{joined}
use Rattle.sorted_map.proofs.StepLemmas.{parts_pushed, parts_over}
use Rattle.sorted_map.proofs.sorted.Sorted.push_keys.Goals as goal

pub loop-chunk-init : goal.loop-chunk-init
loop-chunk-init g c = ap (λ es. c.args.into.now.items ++ keys_of es) (ap joined c.as_slice-chunk-items.ensures ∙ c.self.view_is)

pub loop-chunk-preserved : goal.loop-chunk-preserved
loop-chunk-preserved g c =
    parts_pushed (λ e. e.0) c.loop-chunk.into.items _ c.as_slice-chunk-items.result.now c.loop-chunk.chunk-index c.loop-chunk.invariant c.keys.result.now c.extend_from_slice.new.self.items c.chunk-item.result c.loop-chunk-test.true c.chunk-item.is
    c.keys.ensures c.in_ok-extend_from_slice.ensures.items

pub returns : goal.returns
returns g c = parts_over (λ e. e.0) c.loop-chunk.into.items _ c.as_slice-chunk-items.result.now c.loop-chunk.chunk-index c.loop-chunk.invariant c.loop-chunk-test.false
