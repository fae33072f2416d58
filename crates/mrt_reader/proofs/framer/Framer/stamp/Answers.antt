use Rattle.std.proofs.Common.{List, ℕ, Some, None, Ok, Err, subst, ◌∙◌}
use Rattle.std.specs.declared.option.Option.{Option}
use Rattle.mrt_reader.specs.declared.heading.Heading.{Heading}
use Rattle.mrt_reader.specs.Headed.{IsHeaded}
use Rattle.mrt_reader.proofs.LawLemmas.{stamp_by_head, no_stamp_by_head, no_stamp_by_fault}
use Rattle.mrt_reader.proofs.framer.Framer.stamp.Goals as goal

pub returns-in-Ok-Some : goal.returns-in-Ok-Some
returns-in-Ok-Some c =
    let head = c.in-Ok-Some.head in
    let is : IsHeaded c.front.result.now (Ok (Some head)) = subst (λ (o : Option Heading). IsHeaded c.front.result.now (Ok o)) c.in-Ok-Some.field-0-is c.in-Ok-Some.ensures in
    stamp_by_head c.args.self.now head (subst (λ (left : List ℕ). IsHeaded left (Ok (Some head))) (c.front.ensures ∙ c.self.view_is) is)

pub returns-in-Ok-None : goal.returns-in-Ok-None
returns-in-Ok-None c =
    let is : IsHeaded c.front.result.now (Ok None) = subst (λ (o : Option Heading). IsHeaded c.front.result.now (Ok o)) c.in-Ok-None.field-0-is c.in-Ok-None.ensures in
    no_stamp_by_head c.args.self.now (subst (λ (left : List ℕ). IsHeaded left (Ok None)) (c.front.ensures ∙ c.self.view_is) is)

pub returns-in-Err : goal.returns-in-Err
returns-in-Err c =
    no_stamp_by_fault c.args.self.now c.in-Err.field-0 (subst (λ (left : List ℕ). IsHeaded left (Err c.in-Err.field-0)) (c.front.ensures ∙ c.self.view_is) c.in-Err.ensures)
