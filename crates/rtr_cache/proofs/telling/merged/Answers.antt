use Rattle.std.proofs.Common.{List, take, sym, subst, arith}
use Rattle.path_model.specs.Rows.{PatchMap}
use Rattle.rtr_cache.specs.Kept.{LeadsTo}
use Rattle.rtr_cache.proofs.TellingLemmas.{leads_further, leads_start, one_further}
use Rattle.rtr_cache.proofs.telling.merged.Goals as goal

pub loop-i-init : goal.loop-i-init
loop-i-init c = λ rows. leads_start rows c.args.back.now.items c.new-whole.result c.new-whole.ensures

pub loop-i-preserved : goal.loop-i-preserved
loop-i-preserved c = λ rows.
    subst (λ (backs : List PatchMap). LeadsTo rows backs c.override_with.new.whole) (sym (one_further c.args.back.now.items c.loop-i.i c.index.result.now c.index.ensures (omega (arith, c.loop-i-test.true, c.requires))))
    (leads_further rows (take c.loop-i.i c.args.back.now.items) c.index.result.now c.loop-i.whole c.override_with.new.whole (c.loop-i.invariant rows) c.in_ok-override_with.ensures)
