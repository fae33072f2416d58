use Rattle.std.proofs.Common.{◌≡◌, ◌+◌, ℕ, List, ◌∷◌, drop, ap, sym, ◌∙◌, arith}
use Rattle.std.proofs.lemmas.List.{drop-drop, drop_more}
use Rattle.path_model.specs.declared.batch.Batch.{Batch}
use Rattle.path_model.specs.declared.change.Change.{Change}
use Rattle.path_model.specs.declared.otc.Otc.{Otc}
use Rattle.path_model.specs.Batches.{all_changes, changes_in}
use Rattle.path_model.specs.Notes.{announced_of}
use Rattle.otc_check.specs.Marks.{Marked, marks_of, noted_by}
use Rattle.otc_check.proofs.NotingLemmas.{announced_append, announced_most, noted_append}
use Rattle.otc_check.proofs.noting.note_all.Goals as goal

pub note_batch-requires : goal.note_batch-requires
note_batch-requires c =
    let batches : List Batch = c.batches-batch-items.result.now in
    let i : ℕ = c.loop-batch.batch-index in
    let b : Batch = c.batch-item.result in
    let step : drop i batches ≡ b ∷ drop (i + 1) batches = drop_more batches i b c.loop-batch-test.true ∙ ap (λ (x : Batch). x ∷ drop (i + 1) batches) (sym c.batch-item.is) in
    let parts : announced_of (all_changes (drop i batches)) ≡ announced_of (changes_in b) + announced_of (all_changes (drop (i + 1) batches)) =
    ap (λ (bs : List Batch). announced_of (all_changes bs)) step ∙ announced_append (changes_in b) (all_changes (drop (i + 1) batches)) in
    omega (arith, parts, c.loop-batch.invariant.within, announced_most c.args.noted.now.changes, c.len-len.ensures, c.len-len.type_inv)

pub loop-batch-preserved : goal.loop-batch-preserved
loop-batch-preserved c =
    let batches : List Batch = c.batches-batch-items.result.now in
    let i : ℕ = c.loop-batch.batch-index in
    let b : Batch = c.batch-item.result in
    let rest : List Change = all_changes (drop (i + 1) batches) in
    let notes : List Otc = c.args.noted.now.notes in
    let n : ℕ = c.loop-batch.index in
    let before : Marked = marks_of c.loop-batch.marks in
    let step : drop i batches ≡ b ∷ drop (i + 1) batches = drop_more batches i b c.loop-batch-test.true ∙ ap (λ (x : Batch). x ∷ drop (i + 1) batches) (sym c.batch-item.is) in
    let parts : announced_of (all_changes (drop i batches)) ≡ announced_of (changes_in b) + announced_of rest =
    ap (λ (bs : List Batch). announced_of (all_changes bs)) step ∙ announced_append (changes_in b) rest in
    record {
      within = omega (arith, parts, c.loop-batch.invariant.within, c.in_ok-index.ensures.next);
      marks = ap (noted_by rest (drop c.in_ok-index.index notes)) c.in_ok-index.ensures.marks
          ∙ ap (λ (k : ℕ). noted_by rest (drop k notes) (noted_by (changes_in b) (drop n notes) before)) c.in_ok-index.ensures.next
          ∙ ap (λ (ns : List Otc). noted_by rest ns (noted_by (changes_in b) (drop n notes) before)) (sym (drop-drop (announced_of (changes_in b)) n notes))
          ∙ sym (noted_append (changes_in b) rest (drop n notes) before)
          ∙ ap (λ (bs : List Batch). noted_by (all_changes bs) (drop n notes) before) (sym step)
          ∙ c.loop-batch.invariant.marks;
    }
