use Rattle.std.proofs.Common.{◌≡◌, ℕ, ◌+◌, ◌≤◌, drop, length, max, min, subst, ◌∙◌, ap, arith}
use Rattle.std.specs.Io.KnownBytes.{prepend_known}
use Rattle.std.proofs.lemmas.Grind.{common_steps}
use Rattle.std.proofs.lemmas.List.{length-take}
use Rattle.av_text.specs.Lines.{IsPart}
use Rattle.aspa_top.specs.Script.{CameMore}
use Rattle.aspa_top.proofs.ScriptLemmas.{came_lines, came_part}
use Rattle.aspa_top.proofs.script.read_piece.Goals as goal

-- a part of a line came
pub returns-then-end-eq0-clause-came : goal.returns-then-end-eq0-clause-came
returns-then-end-eq0-clause-came g c =
    let bytes = c.split_at.result.0.now in
    let moved : g.S.Source.left c.args.source.now ≡ prepend_known bytes (g.S.Source.left c.read.new.self) = grind (arith, common_steps) in
    let size : length bytes ≡ c.in_ok-count.count = omega arith in
    let within : length c.read.new.buf ≡ c.max-most.result = omega (arith, c.read.auto.buf, length-take {A = ℕ}) in
    let most : c.max-most.result ≡ max (min c.args.room (length c.args.buffer.now)) 1 = c.max-most.ensures ∙ ap (λ (n : ℕ). max n 1) c.min.ensures in
    let few : length bytes ≤ c.args.room = omega (arith, most, c.in_ok-count.ensures.bound) in
    let lacks : IsPart bytes = subst (λ (n : ℕ). IsPart (drop n bytes)) c.if-end-eq0.true c.end_of_lines-end.ensures.part in
    subst (λ (n : ℕ). CameMore c.args.room (g.S.Source.left c.args.source.now) (g.S.Source.left c.read.new.self) c.args.held.now.items c.extend_from_slice.new.self.items n 0) size
    (came_part _ _ _ _ _ bytes moved (omega arith) few c.in_ok-extend_from_slice.ensures.items lacks)

-- the end of a line did
pub returns-clause-came : goal.returns-clause-came
returns-clause-came g c =
    let bytes = c.split_at.result.0.now in
    let moved : g.S.Source.left c.args.source.now ≡ prepend_known bytes (g.S.Source.left c.read.new.self) = grind (arith, common_steps) in
    let size : length bytes ≡ c.in_ok-count.count = omega arith in
    let within : length c.read.new.buf ≡ c.max-most.result = omega (arith, c.read.auto.buf, length-take {A = ℕ}) in
    let most : c.max-most.result ≡ max (min c.args.room (length c.args.buffer.now)) 1 = c.max-most.ensures ∙ ap (λ (n : ℕ). max n 1) c.min.ensures in
    let few : length bytes ≤ c.args.room = omega (arith, most, c.in_ok-count.ensures.bound) in
    let behind : c.len-before.result ≡ length c.args.held.now.items = omega arith in
    subst (λ (n : ℕ). CameMore c.args.room (g.S.Source.left c.args.source.now) (g.S.Source.left c.read.new.self) c.args.held.now.items c.extend_from_slice.new.self.items n (c.len-before.result + c.end_of_lines-end.result)) size
    (rw behind (came_lines _ _ _ _ _ bytes c.end_of_lines-end.result moved few c.in_ok-extend_from_slice.ensures.items (omega arith) c.end_of_lines-end.ensures.within c.end_of_lines-end.ensures.whole c.end_of_lines-end.ensures.part))
