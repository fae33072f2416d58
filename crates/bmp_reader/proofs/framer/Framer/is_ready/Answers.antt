use Rattle.std.proofs.Common.{List, ℕ, Ok, Err, subst, ◌∙◌}
use Rattle.bmp_reader.specs.Headed.{IsHeaded}
use Rattle.bmp_reader.proofs.LawLemmas.{ready_by_fault, ready_by_head}
use Rattle.bmp_reader.proofs.framer.Framer.is_ready.Goals as goal

pub returns-in-Ok : goal.returns-in-Ok
returns-in-Ok c =
    ready_by_head c.args.self.now c.in-Ok.head c.is_some.result c.is_some.ensures
    (subst (λ (left : List ℕ). IsHeaded left (Ok c.in-Ok.head)) (c.front.ensures ∙ c.self.view_is) c.in-Ok.ensures)

pub returns-in-Err : goal.returns-in-Err
returns-in-Err c =
    ready_by_fault c.args.self.now c.in-Err.field-0 (subst (λ (left : List ℕ). IsHeaded left (Err c.in-Err.field-0)) (c.front.ensures ∙ c.self.view_is) c.in-Err.ensures)
