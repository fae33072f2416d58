use Rattle.std.proofs.Common.{arith, ◌∙◌}
use Rattle.std.proofs.lemmas.Grind.{common_steps}
use Rattle.stream_lines.proofs.FrameLemmas.{Leaves-reads, Leaves-trans}
use Rattle.aspa_top.proofs.FileLemmas.{takes_more}
use Rattle.aspa_top.proofs.files.read_whole.Goals as goal
use Rattle.aspa_top.proofs.files.read_whole.Goals.{else-loop-buffer-test, then-loop-buffer-test+in_ok-count+then-count-eq0}

pub loop-buffer-preserved : goal.loop-buffer-preserved
loop-buffer-preserved g c = record {
  taken = grind (arith, common_steps, takes_more _ _ _ _ _ c.loop-buffer.invariant.taken c.in_ok-count.ensures.bytes.moved);
  within = grind (arith, common_steps);
  others = Leaves-trans c.loop-buffer.invariant.others (Leaves-reads _ _ _ _ c.in_ok-count.ensures.others);
  opened = c.read.ensures.opened ∙ c.loop-buffer.invariant.opened;
  faults = omega (arith, c.loop-buffer.invariant.faults, c.read.ensures.cause.later);
}

pub returns-in_err-extend_from_slice-clause-others : goal.returns-in_err-extend_from_slice-clause-others
returns-in_err-extend_from_slice-clause-others g c = Leaves-trans c.loop-buffer.invariant.others (Leaves-reads _ _ _ _ c.in_ok-count.ensures.others)

pub returns-clause-others : goal.returns-clause-others
returns-clause-others g c = elim c.loop-buffer-test.branch [
  | else-loop-buffer-test w ↦ rw w.shelf-is c.loop-buffer.invariant.others
  | then-loop-buffer-test+in_ok-count+then-count-eq0 w ↦ rw w.shelf-is (Leaves-trans c.loop-buffer.invariant.others (Leaves-reads _ _ _ _ w.in_ok-count.ensures.others))
]
