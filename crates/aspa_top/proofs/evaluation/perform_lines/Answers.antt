use Rattle.std.proofs.Common.{◌≡◌, ◌<◌, ◌^◌, [], Err, refl, sym, ap, ◌∙◌, arith}
use Rattle.std.specs.Io.KnownBytes.{append_known}
use Rattle.av_base.proofs.PouringLemmas.{Grows-trans}
use Rattle.av_base.proofs.ToldLemmas.{append_known-nil}
use Rattle.report_text.proofs.ReportedLemmas.{adds_front, adds_more, adds_more_front, written_lines}
use Rattle.aspa_top.specs.Passed.{told}
use Rattle.aspa_top.proofs.KeepLemmas.{Keeps-trans, keeps_all, keeps_sink}
use Rattle.aspa_top.proofs.PassedLemmas.{Keeps-held, KeepsAll-trans}
use Rattle.aspa_top.proofs.ReportingLemmas.{front_poured, lines_begun, lines_poured}
use Rattle.aspa_top.proofs.BeginningLemmas.{Tells-names}
use Rattle.aspa_top.proofs.PerformingLemmas.{idle_line, no_bytes}
use Rattle.aspa_top.proofs.ReadAsLemmas.{did_as, first_as, next_as, none_as, poured_as}
use Rattle.aspa_top.proofs.RunLemmas.{Performing-poured, ended_between, ended_within}
use Rattle.aspa_top.proofs.StopLemmas.{none_performed, sink_performed, sink_stopped, stopped_by}
use Rattle.aspa_top.proofs.evaluation.perform_lines.Goals as goal

pub loop-line-init : goal.loop-line-init
loop-line-init g c = record {
  so_far = λ world tells begun all more own read so_far. record {
    left = own;
    read = read;
    so_far = Performing-poured world all begun _ _ _ _ _ _ (ap (append_known (g.W.Sink.written c.args.outside.now.out.now)) c.requires.unheld) so_far;
  };
  keeps = record { lent = refl; keeps = keeps_all _ _ _ };
  count = omega arith;
  ready = record { sound = c.requires.ready.sound; caches = c.requires.ready.caches; feeds = c.requires.ready.feeds };
  adds = lines_begun _ _ _ c.requires.unheld;
}

-- a line without a byte was counted
pub loop-line-preserved-then-is_empty : goal.loop-line-preserved-then-is_empty
loop-line-preserved-then-is_empty g c =
    let none : c.in-Some.line.now ≡ [] = no_bytes c.in-Some.line.now (sym c.is_empty.ensures ∙ c.if-is_empty.true) in
    let room : c.loop-line.working.lines < 2 ^ 31 = omega (arith, c.requires.room, c.loop-line.invariant.count, c.in-Some.ensures.less) in
    let did = idle_line c.loop-line.working _ room c.loop-line.invariant.ready in
    record {
      so_far = λ world tells begun all more own read so_far.
          next_as world all begun c.in-Some.line.now _ _ more c.loop-line.working _ _ _ c.in-Some.ensures.first (c.loop-line.invariant.so_far world tells begun all more own read so_far)
          (Tells-names _ _ world c.loop-line.invariant.keeps.keeps.names tells) (keeps_all _ _ _) (rw none did) (g.met.K.Links.agrees c.loop-line.outside.links.now);
      keeps = c.loop-line.invariant.keeps;
      count = omega (arith, c.loop-line.invariant.count, c.in-Some.ensures.less);
      ready = did.did.ready;
      adds = c.loop-line.invariant.adds;
    }

pub perform_line-requires-clause-ready : goal.perform_line-requires-clause-ready
perform_line-requires-clause-ready g c = record { sound = c.loop-line.invariant.ready.sound; caches = c.loop-line.invariant.ready.caches; feeds = c.loop-line.invariant.ready.feeds }

-- a piece was written, and a line performed
pub loop-line-preserved : goal.loop-line-preserved
loop-line-preserved g c =
    let did = c.in-Ok.ensures.did in
    record {
      so_far = λ world tells begun all more own read so_far.
          next_as world all begun c.in-Some.line.now _ _ more c.loop-line.working _ _ _ c.in-Some.ensures.first
          (poured_as world all begun _ more _ _ _ _ _ c.pour_piece.ensures.same (c.loop-line.invariant.so_far world tells begun all more own read so_far))
          (Tells-names _ _ world c.loop-line.invariant.keeps.keeps.names tells) (Keeps-held _ _ c.perform_line.ensures.keeps.keeps) did (g.met.K.Links.agrees c.perform_line.new.outside.links.now);
      keeps = KeepsAll-trans c.loop-line.invariant.keeps (KeepsAll-trans (record { lent = refl; keeps = keeps_sink _ _ _ _ _ c.pour_piece.ensures.grows c.pour_piece.ensures.cause.later }) c.perform_line.ensures.keeps);
      count = omega (arith, c.loop-line.invariant.count, c.in-Some.ensures.less, did.did.lines);
      ready = did.did.ready;
      adds = adds_more _ _ _ _ _ _ (lines_poured _ _ _ _ _ c.pour_piece.ensures.same c.loop-line.invariant.adds) did.did.adds;
    }

-- a line ended early
pub returns-in-Err : goal.returns-in-Err
returns-in-Err g c =
    let did = c.in-Err.ensures.did in
    let later = c.write_held.ensures.faults in
    let grows = Grows-trans c.perform_line.ensures.keeps.keeps.grows c.write_held.ensures.grows in
    let poured = Keeps-trans c.loop-line.invariant.keeps.keeps (keeps_sink _ _ _ [] _ c.pour_piece.ensures.grows c.pour_piece.ensures.cause.later) in
    record {
      keeps = KeepsAll-trans c.loop-line.invariant.keeps (KeepsAll-trans (record { lent = refl; keeps = keeps_sink _ _ _ _ _ c.pour_piece.ensures.grows c.pour_piece.ensures.cause.later })
          (KeepsAll-trans c.perform_line.ensures.keeps (record { lent = refl; keeps = keeps_sink _ _ _ _ _ c.write_held.ensures.grows later })));
      performed = record {
        goes = λ world begun all more own read kept meets so_far.
            let keeps = Keeps-trans kept poured in
            let before = Keeps-trans kept c.loop-line.invariant.keeps.keeps in
            let found = first_as world all begun c.in-Some.line.now _ _ more _ c.loop-line.working c.in-Some.ensures.first
            (poured_as world all begun _ more _ _ _ _ _ c.pour_piece.ensures.same (c.loop-line.invariant.so_far world (Tells-names _ _ world kept.names meets.tells) begun all more own read so_far)) in
            ended_within world all begun _ _ _ _ found.first _ _ _ _ _ _ meets found.so_far refl (Tells-names _ _ world before.names meets.tells)
            c.perform_line.ensures.keeps.keeps.later c.write_held.ensures.same (Grows-trans keeps.grows grows)
            c.in-Err.stop c.write_held.result (did_as world all begun found.first c.in-Some.line.now c.loop-line.working _ _ (Err c.in-Err.stop) found.reads did) c.write_held.ensures.stops
            c.perform_line.ensures.keeps.keeps.sink_faults keeps.sink_faults;
        cause = stopped_by _ _ _ _ _ _ _ _ c.in-Err.stop c.write_held.result did c.write_held.ensures.stops (Keeps-held _ _ poured) (Keeps-held _ _ c.perform_line.ensures.keeps.keeps) later;
        adds = written_lines _ _ _ _ _ (Grows-trans poured.grows grows)
            (front_poured _ _ _ _ _ c.write_held.ensures.same (adds_more_front _ _ _ _ _ _ (lines_poured _ _ _ _ _ c.pour_piece.ensures.same c.loop-line.invariant.adds) did.did.adds));
      };
      few = tt;
      poured = tt;
    }

-- the sink failed between two lines
pub returns-in_err-pour_piece : goal.returns-in_err-pour_piece
returns-in_err-pour_piece g c =
    let grows = Grows-trans c.loop-line.invariant.keeps.keeps.grows c.pour_piece.ensures.grows in
    let later = c.pour_piece.ensures.cause.later in
    let keeps = c.loop-line.invariant.keeps in
    record {
      keeps = KeepsAll-trans keeps (record { lent = refl; keeps = keeps_sink _ _ _ _ _ c.pour_piece.ensures.grows later });
      performed = sink_performed _ _ _ _ c.from_residual.result c.from_residual.ensures.1 (record {
        goes = λ world begun all more own read kept meets so_far.
            let found = poured_as world all begun _ more _ _ _ _ _ c.pour_piece.ensures.same (c.loop-line.invariant.so_far world (Tells-names _ _ world kept.names meets.tells) begun all more own read so_far) in
            ended_between world all begun _ _ _ _ _ meets found.so_far (Grows-trans kept.grows grows) c.in_err-pour_piece.ensures.err;
        cause = sink_stopped _ _ _ (Keeps-held _ [] keeps.keeps) c.in_err-pour_piece.ensures.cause.failed;
        adds = written_lines _ _ _ _ _ grows (front_poured _ _ _ _ _ c.pour_piece.ensures.same (adds_front _ _ _ _ c.loop-line.invariant.adds));
      });
      few = none_performed c.from_residual.result _ c.from_residual.ensures.1;
      poured = none_performed c.from_residual.result _ c.from_residual.ensures.1;
    }

-- or after the last
pub returns-in_err-pour : goal.returns-in_err-pour
returns-in_err-pour g c =
    let grows = Grows-trans c.loop-line.invariant.keeps.keeps.grows c.pour.ensures.grows in
    record {
      keeps = KeepsAll-trans c.loop-line.invariant.keeps (record { lent = refl; keeps = keeps_sink _ _ _ _ _ c.pour.ensures.grows c.pour.ensures.cause.later });
      performed = sink_performed _ _ _ _ c.from_residual-in_err-pour.result c.from_residual-in_err-pour.ensures.1 (record {
        goes = λ world begun all more own read kept meets so_far.
            let found = poured_as world all begun _ more _ _ _ _ _ c.pour.ensures.same (c.loop-line.invariant.so_far world (Tells-names _ _ world kept.names meets.tells) begun all more own read so_far) in
            ended_between world all begun _ _ _ _ _ meets found.so_far (Grows-trans kept.grows grows) c.in_err-pour.ensures.err;
        cause = sink_stopped _ _ _ (Keeps-held _ [] c.loop-line.invariant.keeps.keeps) c.in_err-pour.ensures.cause.failed;
        adds = written_lines _ _ _ _ _ grows (front_poured _ _ _ _ _ c.pour.ensures.same (adds_front _ _ _ _ c.loop-line.invariant.adds));
      });
      few = none_performed c.from_residual-in_err-pour.result _ c.from_residual-in_err-pour.ensures.1;
      poured = none_performed c.from_residual-in_err-pour.result _ c.from_residual-in_err-pour.ensures.1;
    }

-- all lines were performed
pub returns : goal.returns
returns g c =
    let written = g.W.Sink.written c.pour.new.out in
    let same = ap (append_known written) (sym c.in_ok-pour.ensures.ok) ∙ c.pour.ensures.same in
    let now = told g.F.Shelf g.K.Links g.W.Sink c.loop-line.outside in
    record {
      keeps = KeepsAll-trans c.loop-line.invariant.keeps (record { lent = refl; keeps = keeps_sink _ _ _ _ _ c.pour.ensures.grows c.pour.ensures.cause.later });
      performed = record {
        goes = λ world tells begun all more own read so_far.
            Performing-poured world all begun more c.loop-line.working now written (g.W.Sink.faults c.pour.new.out) [] same
            (none_as world all begun _ more now c.loop-line.working c.in_default.ensures.none (c.loop-line.invariant.so_far world tells begun all more own read so_far));
        ready = record { sound = c.loop-line.invariant.ready.sound; caches = c.loop-line.invariant.ready.caches; feeds = c.loop-line.invariant.ready.feeds };
        adds = lines_poured _ _ _ _ _ (sym (append_known-nil written) ∙ same) c.loop-line.invariant.adds;
      };
      few = omega (arith, c.loop-line.invariant.count);
      poured = c.in_ok-pour.ensures.ok;
    }
