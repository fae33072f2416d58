use Rattle.std.proofs.Common.{List, ℕ, ◌≡◌, ◌+◌, take, drop, Some, Ok, subst, sym, refl, ap, ◌∙◌}
use Rattle.std.specs.declared.option.Option.{Option}
use Rattle.held_bytes.specs.Units.{Begins}
use Rattle.mrt_reader.specs.Headed.{head_of, IsHeaded}
use Rattle.mrt_reader.specs.declared.heading.Heading.{Heading}
use Rattle.mrt_reader.specs.Records.{IsRecord}
use Rattle.mrt_reader.proofs.RecordLemmas.{next_record}
use Rattle.mrt_reader.proofs.framer.Framer.next.Goals as goal

pub returns-in-Ok-Some : goal.returns-in-Ok-Some
returns-in-Ok-Some c =
    let head = c.in-Ok-Some.head in
    let old = c.args.self.now in
    let held : c.front.result.now ≡ old = c.front.ensures ∙ c.self.view_is in
    let is : IsHeaded c.front.result.now (Ok (Some head)) = subst (λ (o : Option Heading). IsHeaded c.front.result.now (Ok o)) c.in-Ok-Some.field-0-is c.in-Ok-Some.ensures in
    let here : IsHeaded old (Ok (Some head)) = subst (λ (l : List ℕ). IsHeaded l (Ok (Some head))) held is in
    let lent = c.take.ensures.lends ∙ ap (λ (l : List ℕ). take (12 + head.size) l) c.self.view_is in
    let body = c.split_at.ensures.back ∙ ap (λ (l : List ℕ). drop 12 l) lent in
    let left = c.take.follows.holds-at-none.1 ∙ ap (λ (l : List ℕ). drop (12 + head.size) l) c.self.view_is in
    let begins = next_record old c.split_at.result.1.now (head_of head) here.0 here.1 here.2 body in (
      (
        refl,
        λ _. tt,
        subst (λ (rest : List ℕ). Begins IsRecord old (record { stamp = head.stamp; kind = head.mrt_type; subkind = head.subtype; body = c.split_at.result.1.now }) rest) (sym left) begins,
      ),
      record { taken = tt },
    )
