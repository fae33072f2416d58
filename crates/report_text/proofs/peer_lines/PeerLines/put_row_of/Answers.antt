use Rattle.std.proofs.Common.{◌≡◌, ℕ, List, ◌++◌, ap, sym, subst, ◌∙◌, arith}
use Rattle.path_model.specs.declared.key.Key.{Key}
use Rattle.path_model.specs.Key.{key_of}
use Rattle.av_text.specs.VerdictText.{verdict_text}
use Rattle.report_text.specs.Fronts.{row_rest}
use Rattle.report_text.specs.Writes.{Writes}
use Rattle.report_text.proofs.FrontLemmas.{front_kept, line_of}
use Rattle.report_text.proofs.peer_lines.PeerLines.put_row_of.Goals as goal

pub invariant_of-self : goal.invariant_of-self
invariant_of-self c = front_kept c.self.inside.peer c.self.invariant c.write_row-end.ensures.written (omega arith) c.write_row-end.ensures.within

pub invariant_of-self-2 : goal.invariant_of-self-2
invariant_of-self-2 c = front_kept c.self.inside.peer c.self.invariant c.write_row-end.ensures.written (omega arith) c.write_row-end.ensures.within

pub returns-clause-ok : goal.returns-clause-ok
returns-clause-ok c = λ peer held. c.in_ok-extend_from_slice.ensures.items
    ∙ ap (λ (t : List ℕ). c.args.out.now.items ++ t) (line_of c.self.inside.peer (key_of peer c.args.nlri) (verdict_text c.args.verdict) (c.self.view_is ∙ held) c.self.invariant
    (subst (λ (key : Key). Writes (row_rest key c.args.verdict) c.self.inside.line c.self.inside.front c.write_row-end.new.line c.write_row-end.result) c.new-key.ensures c.write_row-end.ensures.written))
