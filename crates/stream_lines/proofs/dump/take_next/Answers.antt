use Rattle.std.proofs.Common.{◌≡◌, ℕ, List, ap, subst, sym, ◌∙◌}
use Rattle.std.specs.Io.KnownBytes.{prepend_known}
use Rattle.std.specs.declared.option.Option.{Option}
use Rattle.av_base.specs.Files.{left_of}
use Rattle.stream_lines.specs.declared.next.Next.{Next}
use Rattle.stream_lines.specs.Gives.{Gives, GivesNone, IsNext, IsPartial}
use Rattle.stream_lines.specs.Held.{held_of, known_of}
use Rattle.stream_lines.specs.Units.{Known}
use Rattle.stream_lines.proofs.NextLemmas.{IsNext-last}
use Rattle.stream_lines.proofs.dump.take_next.Goals as goal

pub returns-then-not-branch-clause-next : goal.returns-then-not-branch-clause-next
returns-then-not-branch-clause-next g c =
    let none : GivesNone (known_of c.loop-next.reader) (held_of c.loop-next.reader) (known_of c.next.new.self) (held_of c.next.new.self) =
    subst (λ (o : Option Next). Gives (known_of c.loop-next.reader) (held_of c.loop-next.reader) (known_of c.next.new.self) (held_of c.next.new.self) o) c.in_default.is c.in_ok-next.ensures in
    let ended = c.in_ok-read_piece.ensures.ended c.if-not-branch.true in
    let known : known_of c.read_piece.new.reader ≡ known_of c.args.reader.now = ap known_of ended.0 ∙ none.known_is ∙ c.loop-next.invariant.known in
    let held : held_of c.read_piece.new.reader ≡ held_of c.loop-next.reader = ap held_of ended.0 ∙ none.held_is in
    let old = prepend_known (held_of c.args.reader.now) (left_of (g.F.Shelf.files c.args.shelf.now) c.args.file) in
    let new = prepend_known (held_of c.read_piece.new.reader) (left_of (g.F.Shelf.files c.read_piece.new.shelf) c.args.file) in
    subst (λ (k : Known). IsNext (known_of c.args.reader.now) old k new c.last.result) (sym known)
    (IsNext-last (known_of c.args.reader.now) old (held_of c.read_piece.new.reader) (left_of (g.F.Shelf.files c.read_piece.new.shelf) c.args.file) c.last.result
    (c.loop-next.invariant.same ∙ ap (λ (t : List ℕ). prepend_known t (left_of (g.F.Shelf.files c.loop-next.shelf) c.args.file)) (sym none.held_is) ∙ c.in_ok-read_piece.ensures.same)
    ended.1
    (subst (λ (t : List ℕ). IsPartial (known_of c.args.reader.now) t) (sym held)
    (subst (λ (k : Known). IsPartial k (held_of c.loop-next.reader)) c.loop-next.invariant.known none.partial))
    c.last.ensures)
