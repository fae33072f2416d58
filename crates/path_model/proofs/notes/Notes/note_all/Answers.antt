use Rattle.std.proofs.Common.{rules, length, ◌≡◌, [], ap, ◌∙◌, ◌++◌, ◌+◌, replicate}
use Rattle.std.proofs.lemmas.List.{nil_from_length}
use Rattle.path_model.specs.declared.otc.Otc.TheVariants.{Absent}
use Rattle.path_model.proofs.NotesLemmas.{more_absent}
use Rattle.path_model.proofs.notes.Notes.note_all.Goals as goal

-- src/notes.rt:50:5
pub returns-in_ok-self-inside-in-Absent-clause-ok :
    goal.returns-in_ok-self-inside-in-Absent-clause-ok
returns-in_ok-self-inside-in-Absent-clause-ok c =
    let len : length c.self.inside.rest.items ≡ 0 = search (rules, c.if-is_empty.true, c.as_slice.ensures.value, c.is_empty.ensures) in
    let none : c.self.inside.rest.items ≡ [] = nil_from_length c.self.inside.rest.items len in
    let sum : c.in_ok-self-inside-in-Absent.field-0 ≡ c.self.inside.absent + c.args.count = search rules in
    ap (λ n. replicate n Absent ++ c.self.inside.rest.items) sum
    ∙ more_absent c.self.inside.absent c.args.count Absent c.self.inside.rest.items none
    ∙ search rules
