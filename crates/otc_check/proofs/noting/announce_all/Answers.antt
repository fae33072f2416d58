use Rattle.std.proofs.Common.{List, length, drop, ap, sym, ◌∙◌, arith}
use Rattle.path_model.specs.declared.key.Key.{Key}
use Rattle.path_model.specs.declared.nlri.Nlri.{Nlri}
use Rattle.path_model.specs.declared.otc.Otc.{Otc}
use Rattle.path_model.specs.Batches.{announcements}
use Rattle.path_model.specs.Key.{key_of}
use Rattle.otc_check.specs.Marks.{marked_at, marks_of, noted_by}
use Rattle.otc_check.proofs.NotingLemmas.{one_noted}
use Rattle.otc_check.proofs.noting.announce_all.Goals as goal

pub loop-nlri-preserved : goal.loop-nlri-preserved
loop-nlri-preserved c =
    let key = key_of c.args.peer c.in-Some.nlri in
    let notes = c.args.notes.now in
    let i = c.loop-nlri.index in
    let before = marks_of c.loop-nlri.marks in
    let steps = c.in-Some.ensures.steps in
    record {
      within = omega (arith, ap (λ (l : List Nlri). length l) steps, c.loop-nlri.invariant.within);
      marks = λ path. one_noted key path (announcements c.args.peer path c.next.new.self) notes i before (marks_of c.announce.new.marks)
          (c.in_ok-announce.ensures ∙ ap (λ (k : Key). marked_at k c.note_of.result before) c.new.ensures ∙ ap (λ (o : Otc). marked_at key o before) c.note_of.ensures)
          ∙ ap (λ (l : List Nlri). noted_by (announcements c.args.peer path l) (drop i notes) before) (sym steps)
          ∙ c.loop-nlri.invariant.marks path;
    }
