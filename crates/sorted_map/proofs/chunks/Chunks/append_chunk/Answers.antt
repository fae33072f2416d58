use Rattle.std.proofs.Common.{◌++◌, ◌∙◌, ◌≡◌, ap, arith, length}
use Rattle.std.specs.List.{insert}
use Rattle.std.proofs.lemmas.List.Edits.{insert_end}
use Rattle.std.proofs.lemmas.Result.{on_ok_weaker}
use Rattle.sorted_map.specs.Joined.{joined}
use Rattle.sorted_map.proofs.JoinedLemmas.{joined_pushed}
use Rattle.sorted_map.proofs.chunks.Chunks.append_chunk.Goals as goal

pub returns-clause-appended : goal.returns-clause-appended
returns-clause-appended g c = on_ok_weaker c.insert_chunk.result
    (λ put.
    let long : c.len-len.result ≡ length c.args.self.now = omega (arith, c.len-len.ensures, c.self.inside.list.ok, ap length c.self.view_is) in
    ap joined put ∙ ap (λ n. joined (insert c.args.self.now n c.in_ok-chunk.chunk)) long ∙ ap joined (insert_end c.args.self.now c.in_ok-chunk.chunk)
    ∙ joined_pushed c.args.self.now c.in_ok-chunk.chunk ∙ ap (λ b. joined c.args.self.now ++ b) c.in_ok-chunk.ensures)
    c.insert_chunk.ensures.inserted
