use Rattle.std.proofs.Common.{◌≡◌, ℕ, List, Ok, Some, ap, subst, sym, ◌∙◌}
use Rattle.std.specs.declared.option.Option.{Option}
use Rattle.std.specs.declared.result.Result.{Result}
use Rattle.held_bytes.specs.Units.{Begins}
use Rattle.bmp_reader.specs.declared.fault.BmpFrameFault.{BmpFrameFault}
use Rattle.bmp_reader.specs.declared.framer.Message.{Message}
use Rattle.bmp_reader.specs.Coming.{Answers, sent}
use Rattle.bmp_reader.specs.Messages.{IsMessage}
use Rattle.stream_lines.specs.Units.{Bmp}
use Rattle.stream_lines.proofs.NextLemmas.{gives_break, gives_message}
use Rattle.stream_lines.proofs.messages.Messages.next.Goals as goal

pub returns-in-Err : goal.returns-in-Err
returns-in-Err c =
    gives_break c.args.self.now.view c.args.self.now.peers c.args.self.now.framer c.next.follows.lender-at-none c.in-Err.fault c.break_cause.result
    (subst (λ (r : Result (Option Message) BmpFrameFault). Answers c.args.self.now.framer c.next.follows.lender-at-none r) c.in-Err.is c.next.follows.holds-at-none)
    c.break_cause.ensures

pub returns : goal.returns
returns c =
    let is : c.next.result ≡ Ok (Some c.in-Ok-Some.message) = c.in-Ok-Some.is ∙ ap (λ (o : Option Message). Ok o) c.in-Ok-Some.field-0-is in
    let begins = subst (λ (r : Result (Option Message) BmpFrameFault). Answers c.args.self.now.framer c.next.follows.lender-at-none r) is c.next.follows.holds-at-none in
    gives_message c.args.self.now.view c.args.self.now.peers c.args.self.now.framer c.take.new.self.framer (sent c.in-Ok-Some.message) c.read_message-reading.result
    (Bmp c.take.new.self.view c.take.new.self.peers) c.in_ok-effect.effect
    (subst (λ (t : List ℕ). Begins IsMessage c.args.self.now.framer (sent c.in-Ok-Some.message) t) (sym c.in_ok-effect.ensures.framer) begins)
    c.read_message-reading.ensures c.in_ok-effect.ensures.says
