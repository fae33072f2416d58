use Rattle.std.proofs.Common.{take}
use Rattle.path_model.specs.Rows.{RowMap}
use Rattle.rtr_cache.specs.Kept.{LeadsTo}
use Rattle.rtr_cache.proofs.telling.merged.Given as goal

abbrev pub invariant-loop-i : goal.invariant-loop-i
invariant-loop-i l = (rows : RowMap) → LeadsTo rows (take l.i l.back.items) l.whole
