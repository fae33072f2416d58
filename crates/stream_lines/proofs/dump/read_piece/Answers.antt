use Rattle.std.proofs.Common.{◌≡◌, ◌<◌, length, ap, subst, sym, ◌∙◌, arith}
use Rattle.std.specs.Prelude.{ℕ, List}
use Rattle.std.specs.Io.KnownBytes.{prepend_known}
use Rattle.std.proofs.lemmas.Bool.Decides.{nat_tests}
use Rattle.av_base.specs.Files.{left_of}
use Rattle.stream_lines.specs.Held.{held_of}
use Rattle.stream_lines.proofs.FrameLemmas.{Leaves-reads}
use Rattle.stream_lines.proofs.PieceLemmas.{piece_adds, piece_ended, piece_moves, same_reader}
use Rattle.stream_lines.proofs.dump.read_piece.Goals as goal

pub returns-clause-same : goal.returns-clause-same
returns-clause-same g c =
    let new = left_of (g.F.Shelf.files c.read_behind.new.shelf) c.args.file in
    piece_moves (held_of c.args.reader.now) c.read_behind.new.bytes.items c.in_ok-room.room.held c.in_ok-count.count (c.read_behind.ensures.before ∙ c.in_ok-room.ensures.held) _ new c.in_ok-count.ensures.came.moved
    ∙ ap (λ (held : List ℕ). prepend_known held new) (sym c.give_back.ensures.held)

pub returns-clause-more : goal.returns-clause-more
returns-clause-more g c = λ some.
    subst (λ (held : List ℕ). length (held_of c.args.reader.now) < length held) (sym c.give_back.ensures.held)
    (piece_adds (held_of c.args.reader.now) c.read_behind.new.bytes.items c.in_ok-room.room.held c.in_ok-count.count (c.read_behind.ensures.before ∙ c.in_ok-room.ensures.held) c.in_ok-count.ensures.within (grind (arith, nat_tests)))

pub returns-clause-ended : goal.returns-clause-ended
returns-clause-ended g c = λ none.
    let count : c.in_ok-count.count ≡ 0 = grind (arith, nat_tests) in (
      same_reader c.give_back.new.self c.args.reader.now
          (c.give_back.ensures.held ∙ piece_ended (held_of c.args.reader.now) c.read_behind.new.bytes.items c.in_ok-room.room.held c.in_ok-count.count (c.read_behind.ensures.before ∙ c.in_ok-room.ensures.held) count)
          (c.give_back.ensures.known ∙ c.lend.ensures.known),
      c.in_ok-count.ensures.came.ended count,
    )

pub returns-clause-others : goal.returns-clause-others
returns-clause-others g c = Leaves-reads _ _ _ _ c.in_ok-count.ensures.others
