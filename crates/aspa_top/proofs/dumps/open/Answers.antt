use Rattle.std.proofs.Common.{refl, sym, ap, ◌∙◌, arith}
use Rattle.std.specs.Io.KnownBytes.{append_known}
use Rattle.av_base.specs.declared.stop.Stop.TheVariants as stops
use Rattle.aspa_top.specs.World.{names_of}
use Rattle.aspa_top.proofs.DidLemmas.{did_err, nothing}
use Rattle.aspa_top.proofs.DumpLemmas.{open_failed, open_misses, open_new, open_used, opens_names}
use Rattle.aspa_top.proofs.KeepLemmas.{keeps_all, keeps_shelf}
use Rattle.aspa_top.proofs.dumps.open.Goals as goal

-- the name is in use
pub returns-then-has_name : goal.returns-then-has_name
returns-then-has_name g c = record {
  keeps = record { lent = refl; keeps = keeps_all _ _ _ };
  did = open_used c.args.working _ c.args.kind c.args.name c.args.file.now _ _ c.requires.begun (sym c.has_name.ensures ∙ c.if-has_name.true) c.in_ok-refuse.ensures.text c.in_ok-refuse.ensures.next;
}

pub returns-in_err-refuse : goal.returns-in_err-refuse
returns-in_err-refuse g c = record {
  keeps = record { lent = refl; keeps = keeps_all _ _ _ };
  did = did_err c.args.working _ _ _ c.from_residual.result stops.NoMemory c.from_residual.ensures.1
      (nothing c.args.working _ _ _ refl (ap (append_known (g.W.Sink.written c.args.outside.now.out.now)) c.in_err-refuse.ensures.err) refl (omega arith));
}

-- the shelf failed
pub returns-in_default : goal.returns-in_default
returns-in_default g c = record {
  keeps = record { lent = refl; keeps = keeps_shelf _ _ _ _ _ _ (ap names_of c.in_default.ensures.err) c.open_file.ensures.cause.later };
  did = open_failed c.args.working c.args.kind c.args.name c.args.file.now _ _ _ _ c.in_default.ensures.cause.failed;
}

-- the file isn't there
pub returns-in_default-opened : goal.returns-in_default-opened
returns-in_default-opened g c =
    let missed = rw c.in_default-opened.is at c.in-Ok.ensures.answer in
    record {
      keeps = record { lent = refl; keeps = keeps_shelf _ _ _ _ _ _ (ap names_of missed.told) c.open_file.ensures.cause.later };
      did = open_misses c.args.working _ c.args.kind c.args.name c.args.file.now _ _ c.requires.begun _ _ _ _ (sym c.has_name.ensures ∙ c.if-has_name.false) c.text.ensures.text missed c.in_ok-refuse-2.ensures.text c.in_ok-refuse-2.ensures.next;
    }

pub returns-in_err-refuse-2 : goal.returns-in_err-refuse-2
returns-in_err-refuse-2 g c =
    let missed = rw c.in_default-opened.is at c.in-Ok.ensures.answer in
    record {
      keeps = record { lent = refl; keeps = keeps_shelf _ _ _ _ _ _ (ap names_of missed.told) c.open_file.ensures.cause.later };
      did = did_err c.args.working _ _ _ c.from_residual-in_err-refuse-2.result stops.NoMemory c.from_residual-in_err-refuse-2.ensures.1
          (nothing c.args.working _ _ _ refl (ap (append_known (g.W.Sink.written c.args.outside.now.out.now)) c.in_err-refuse-2.ensures.err) refl (omega arith));
    }

-- the dump is new
pub returns : goal.returns
returns g c =
    let opened = rw c.in-Some.is at c.in-Ok.ensures.answer in
    record {
      keeps = record { lent = refl; keeps = keeps_shelf _ _ _ _ _ _ (ap names_of opened.told ∙ opens_names opened.bytes _) c.open_file.ensures.cause.later };
      did = open_new c.args.working _ c.args.kind c.args.name c.args.file.now _ _ c.requires.begun _ _ _ _ (sym c.has_name.ensures ∙ c.if-has_name.false) c.text.ensures.text c.in-Some.number c.new-dump.result
          c.new-dump.ensures opened (g.met.F.Shelf.numbered c.args.outside.now.shelf.now) refl c.in_ok-name_dump.ensures;
    }

pub returns-in_err-name_dump : goal.returns-in_err-name_dump
returns-in_err-name_dump g c =
    let opened = rw c.in-Some.is at c.in-Ok.ensures.answer in
    record {
      keeps = record { lent = refl; keeps = keeps_shelf _ _ _ _ _ _ (ap names_of opened.told ∙ opens_names opened.bytes _) c.open_file.ensures.cause.later };
      did = did_err c.args.working _ _ _ c.from_residual-in_err-name_dump.result stops.NoMemory c.from_residual-in_err-name_dump.ensures.1 (nothing c.args.working _ _ _ refl refl refl (omega arith));
    }
