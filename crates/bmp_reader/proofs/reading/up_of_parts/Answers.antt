use Rattle.std.proofs.Common.{◌≡◌, Bool, ◌&&◌, ap, sym, ◌∙◌}
use Rattle.bmp_reader.specs.Left.{up_of}
use Rattle.bmp_reader.proofs.ReadingLemmas.{opens_say}
use Rattle.bmp_reader.proofs.reading.up_of_parts.Goals as goal
use Rattle.bmp_reader.proofs.reading.up_of_parts.Goals.{then-sent, else-sent}

pub returns : goal.returns
returns c =
    let sent = c.seen_in-sent.result in
    let received = c.seen_in-received.result in
    let both : c.if-sent.result ≡ (sent.add_path && received.add_path) = elim c.if-sent.branch [
      | then-sent w ↦ w.result-is ∙ sym (ap (λ (b : Bool). b && received.add_path) w.if-sent.true)
      | else-sent w ↦ w.result-is ∙ w.if-sent.false ∙ sym (ap (λ (b : Bool). b && received.add_path) w.if-sent.false)
    ] in
    opens_say (up_of c.args.parts) c.role.result sent received c.if-sent.result c.seen_in-sent.ensures c.seen_in-received.ensures c.role.ensures both
