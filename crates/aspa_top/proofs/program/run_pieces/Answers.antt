use Rattle.std.proofs.Common.{◌≡◌, ℕ, ◌+◌, ◌≤◌, length, take, Err, refl, sym, ap, subst, ◌∙◌, arith}
use Rattle.rtr_client.proofs.StandingLemmas.{start_sound}
use Rattle.aspa_top.specs.declared.program.TheConstants.{SCRIPT_LIMIT}
use Rattle.aspa_top.specs.Standing.{IsSound}
use Rattle.aspa_top.proofs.KeepLemmas.{Keeps-trans, keeps_all}
use Rattle.aspa_top.proofs.ReadingLemmas.{end_room, read_failed, read_next, read_none, read_over, read_room, read_starved, read_start, read_stopped, read_stopped_last, read_whole}
use Rattle.aspa_top.proofs.StopLemmas.{rose_later}
use Rattle.aspa_top.proofs.program.run_pieces.Goals as goal

pub returns-in_default-clause-keeps : goal.returns-in_default-clause-keeps
returns-in_default-clause-keeps g c = record { lent = refl; keeps = keeps_all _ _ _ }

pub returns-in_default-clause-runs : goal.returns-in_default-clause-runs
returns-in_default-clause-runs g c = read_none SCRIPT_LIMIT _ _ _ refl

pub pieces-init : goal.pieces-init
pieces-init g c =
    let none : c.in-Ok.working.lines ≡ 0 = c.in-Ok.ensures.lines in
    record {
      so_far = read_start SCRIPT_LIMIT _ _ c.in-Ok.working _ c.new-held.ensures.items none (λ world begins. c.in-Ok.ensures.stands _ _ world begins) (record {
        sound = subst (λ (n : ℕ). IsSound (g.F.Shelf.opened c.args.outside.now.shelf.now) n c.in-Ok.working) (sym none) (c.in-Ok.ensures.sound (g.F.Shelf.opened c.args.outside.now.shelf.now));
        caches = λ session cache is. let no_cache : ⊥ = (let none = c.in-Ok.ensures.caches session in cc) in absurd no_cache;
        feeds = start_sound _ _ _ c.in-Ok.ensures.feeds;
      });
      lent = refl;
      unheld = c.requires.unheld;
      faults = omega arith;
    }

-- the lines count at most as many as the script may have bytes
pub perform_lines-requires-clause-room : goal.perform_lines-requires-clause-room
perform_lines-requires-clause-room g c =
    let came = rw c.in-Ok-More.field-0-is at c.in-Ok-More.ensures.came in
    let held = c.read_piece.new.held.items in
    let end = c.in-Ok-More.end in
    let lines : c.split_at.result.0.now ≡ take end held = c.split_at.ensures.front ∙ ap (take end) c.as_slice.ensures.value in
    let room : c.pieces.working.lines + length c.split_at.result.0.now ≤ 67108864 = read_room SCRIPT_LIMIT _ _ _ _ _ _ _ c.pieces.invariant.so_far _ held _ _ end came lines in
    omega (arith, room)

pub perform_lines-requires-in-Ok-End-clause-room : goal.perform_lines-requires-in-Ok-End-clause-room
perform_lines-requires-in-Ok-End-clause-room g c =
    let came = rw c.in-Ok-End.field-0-is at c.in-Ok-End.ensures.came in
    let room : c.pieces.working.lines + length c.as_slice-lines.result.now ≤ 67108864 =
    end_room SCRIPT_LIMIT _ _ _ _ _ _ _ c.pieces.invariant.so_far _ c.read_piece.new.held.items _ came c.as_slice-lines.ensures.value in
    omega (arith, room)

-- a read brought more, and its lines were performed
pub pieces-preserved : goal.pieces-preserved
pieces-preserved g c =
    let came = rw c.in-Ok-More.field-0-is at c.in-Ok-More.ensures.came in
    let held = c.read_piece.new.held.items in
    let end = c.in-Ok-More.end in
    let lines : c.split_at.result.0.now ≡ take end held = c.split_at.ensures.front ∙ ap (take end) c.as_slice.ensures.value in
    record {
      so_far = rw c.let_go.ensures (read_next SCRIPT_LIMIT _ _ _ _ _ _ _ c.pieces.invariant.so_far _ held _ _ end came lines _ _ c.in-Ok-perform_lines.ensures.performed c.in-Ok-perform_lines.ensures.few c.perform_lines.ensures.keeps.keeps);
      lent = c.perform_lines.ensures.keeps.lent ∙ c.pieces.invariant.lent;
      unheld = c.in-Ok-perform_lines.ensures.poured;
      faults = omega (arith, c.pieces.invariant.faults, c.read_piece.ensures.faults);
    }

-- something stopped them
pub returns-in-Err-clause-keeps : goal.returns-in-Err-clause-keeps
returns-in-Err-clause-keeps g c = record { lent = c.perform_lines.ensures.keeps.lent ∙ c.pieces.invariant.lent; keeps = Keeps-trans c.pieces.invariant.so_far.keeps c.perform_lines.ensures.keeps.keeps }

pub returns-in-Err-clause-runs : goal.returns-in-Err-clause-runs
returns-in-Err-clause-runs g c =
    let came = rw c.in-Ok-More.field-0-is at c.in-Ok-More.ensures.came in
    let held = c.read_piece.new.held.items in
    let end = c.in-Ok-More.end in
    let lines : c.split_at.result.0.now ≡ take end held = c.split_at.ensures.front ∙ ap (take end) c.as_slice.ensures.value in
    rw c.status_of.ensures (read_stopped SCRIPT_LIMIT _ _ _ _ _ _ _ c.pieces.invariant.so_far _ _ held _ _ end _ c.in-Err.stop came lines c.in-Err.ensures.performed)

-- nothing was left
pub returns-in-Ok-perform_lines-2-clause-keeps : goal.returns-in-Ok-perform_lines-2-clause-keeps
returns-in-Ok-perform_lines-2-clause-keeps g c = record { lent = c.perform_lines-in-Ok-End.ensures.keeps.lent ∙ c.pieces.invariant.lent; keeps = Keeps-trans c.pieces.invariant.so_far.keeps c.perform_lines-in-Ok-End.ensures.keeps.keeps }

pub returns-in-Ok-perform_lines-2-clause-runs : goal.returns-in-Ok-perform_lines-2-clause-runs
returns-in-Ok-perform_lines-2-clause-runs g c =
    let came = rw c.in-Ok-End.field-0-is at c.in-Ok-End.ensures.came in
    read_whole SCRIPT_LIMIT _ _ _ _ _ _ _ c.pieces.invariant.so_far _ c.read_piece.new.held.items _ came c.as_slice-lines.ensures.value _ _ c.in-Ok-perform_lines-2.last _
    c.in-Ok-perform_lines-2.ensures.performed c.perform_lines-in-Ok-End.ensures.keeps.keeps refl
    c.status_at_end.ensures.known c.status_at_end.ensures.clean c.status_at_end.ensures.refused

pub returns-in-Err-perform_lines-clause-keeps : goal.returns-in-Err-perform_lines-clause-keeps
returns-in-Err-perform_lines-clause-keeps g c = record { lent = c.perform_lines-in-Ok-End.ensures.keeps.lent ∙ c.pieces.invariant.lent; keeps = Keeps-trans c.pieces.invariant.so_far.keeps c.perform_lines-in-Ok-End.ensures.keeps.keeps }

pub returns-in-Err-perform_lines-clause-runs : goal.returns-in-Err-perform_lines-clause-runs
returns-in-Err-perform_lines-clause-runs g c =
    let came = rw c.in-Ok-End.field-0-is at c.in-Ok-End.ensures.came in
    let stop = c.in-Err-perform_lines.stop in
    rw c.status_of-in-Err-perform_lines.ensures (read_stopped_last SCRIPT_LIMIT _ _ _ _ _ _ _ c.pieces.invariant.so_far _ c.read_piece.new.held.items _ came c.as_slice-lines.ensures.value _ _ stop c.in-Err-perform_lines.ensures.performed)

-- more came than may
pub returns-in-Ok-Over-clause-runs : goal.returns-in-Ok-Over-clause-runs
returns-in-Ok-Over-clause-runs g c =
    let came = rw c.in-Ok-Over.field-0-is at c.in-Ok-Over.ensures.came in
    rw c.leave.ensures (read_over SCRIPT_LIMIT _ _ _ _ _ _ _ c.pieces.invariant.so_far _ _ c.read_piece.new.held.items came refl)

-- the script failed
pub returns-in-Err-Source-clause-runs : goal.returns-in-Err-Source-clause-runs
returns-in-Err-Source-clause-runs g c =
    let fault = c.in-Err-Source.ensures.fault (ap Err c.in-Err-Source.field-0-is) in
    let rose = c.in-Err-Source.ensures.cause (ap Err c.in-Err-Source.field-0-is) in
    rw c.leave-in-Err-Source.ensures (read_failed SCRIPT_LIMIT _ _ _ _ _ _ _ c.pieces.invariant.so_far _ _ fault (rose_later _ _ _ c.pieces.invariant.faults rose) refl)

-- there was no memory
pub returns-in-Err-NoMemory-clause-runs : goal.returns-in-Err-NoMemory-clause-runs
returns-in-Err-NoMemory-clause-runs g c =
    rw c.leave-in-Err-NoMemory.ensures (read_starved SCRIPT_LIMIT _ _ _ _ _ _ _ c.pieces.invariant.so_far _ _ c.in-Err-NoMemory.ensures.lost refl)
