use Rattle.std.proofs.Common.{ℕ, List, ◌++◌, ap, ◌∙◌, arith}
use Rattle.report_text.specs.Leaks.{shown_text}
use Rattle.report_text.proofs.FrontLemmas.{front_kept, line_of}
use Rattle.report_text.proofs.peer_lines.PeerLines.put_leak.Goals as goal

pub invariant_of-self : goal.invariant_of-self
invariant_of-self c = front_kept c.self.inside.peer c.self.invariant c.write_leak-end.ensures.written (omega arith) c.write_leak-end.ensures.within

pub invariant_of-self-2 : goal.invariant_of-self-2
invariant_of-self-2 c = front_kept c.self.inside.peer c.self.invariant c.write_leak-end.ensures.written (omega arith) c.write_leak-end.ensures.within

pub returns-clause-ok : goal.returns-clause-ok
returns-clause-ok c =
    c.in_ok-extend_from_slice.ensures.items
    ∙ ap (λ (t : List ℕ). c.args.out.now.items ++ t) (line_of c.self.inside.peer c.args.key.now (shown_text c.args.leak) (c.self.view_is ∙ c.turn_to.ensures) c.self.invariant c.write_leak-end.ensures.written)
