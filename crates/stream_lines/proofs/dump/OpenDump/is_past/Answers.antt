use Rattle.std.proofs.lemmas.Bool.{le-leb, leb-true}
use Rattle.stream_lines.proofs.StampLemmas.{tells_never, tells_none, tells_stamp}
use Rattle.stream_lines.proofs.dump.OpenDump.is_past.Goals.{in-Some-stamp, in-None}
use Rattle.stream_lines.proofs.dump.OpenDump.is_past.Goals as goal

pub returns-clause-tells : goal.returns-clause-tells
returns-clause-tells g c = elim c.match-stamp.branch [
  | in-Some-stamp w ↦ rw (w.result-is, c.in-Some.is) (tells_stamp _ _ _ _ w.in-Some-stamp.stamp _ w.in-Some-stamp.ensures (leb-true _ _, le-leb _ _))
  | in-None w ↦ rw (w.result-is, c.in-Some.is) (tells_none _ _ _ _ w.in-None.ensures c.in_ok-fill.ensures.whole)
]
