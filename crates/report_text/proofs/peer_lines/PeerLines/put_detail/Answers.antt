use Rattle.std.proofs.Common.{ℕ, List, [], ◌≡◌, ◌∷◌, ◌++◌, OnOk, subst, ◌∙◌, arith}
use Rattle.report_text.specs.Details.{behind_row}
use Rattle.report_text.proofs.FrontLemmas.{front_kept, words_of}
use Rattle.report_text.proofs.peer_lines.PeerLines.put_detail.Goals as goal

pub invariant_of-self : goal.invariant_of-self
invariant_of-self c = front_kept c.self.inside.peer c.self.invariant c.write_unended-end.ensures.written (omega arith) c.write_unended-end.ensures.within

pub returns-clause-ok : goal.returns-clause-ok
returns-clause-ok c =
    let words = words_of c.self.inside.peer c.args.key.now c.args.verdict (c.self.view_is ∙ c.turn_to.ensures) c.self.invariant c.write_unended-end.ensures.written in
    let P : List ℕ → Type 0 = λ row. OnOk c.put_behind.result (c.put_behind.new.out.items ≡ c.args.out.now.items ++ (behind_row row c.args.witness c.args.trail.now ++ 10 ∷ [])) in
    subst P words c.put_behind.ensures.ok
