use Rattle.std.proofs.Common.{◌++◌, List, ℕ, ap, ◌∙◌}
use Rattle.bgp_attrs.specs.Left.{ases_left, segments_left}
use Rattle.bgp_attrs.specs.Merging.{items_in, ases_in}
use Rattle.bgp_attrs.proofs.MergingLemmas.{front_step}
use Rattle.bgp_attrs.proofs.merging.plain_trail.Goals as goal

pub loop-segment-preserved : goal.loop-segment-preserved
loop-segment-preserved c =
    let s = front_step c.loop-segment.numbers.items c.loop-segment.set (c.in-Some.segment.0, ases_left c.in-Some.segment.1) (segments_left c.next.new.self) _ c.in-Some.ensures.steps in
    record {
      ases = ap (λ (xs : List ℕ). xs ++ ases_in (items_in (segments_left c.next.new.self))) c.in_ok-put_numbers.ensures ∙ s.0 ∙ c.loop-segment.invariant.ases;
      set = s.1 ∙ c.loop-segment.invariant.set;
    }
