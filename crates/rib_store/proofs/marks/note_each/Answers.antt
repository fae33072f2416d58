use Rattle.std.proofs.Common.{◌≡◌, ◌+◌, ◌∷◌, ℕ, List, drop, get_or, ap, sym, ◌∙◌}
use Rattle.std.specs.BTreeMap.{is_at}
use Rattle.std.specs.Map.{lookup}
use Rattle.std.proofs.lemmas.List.{drop_more}
use Rattle.path_model.specs.Key.{key_cmp}
use Rattle.rib_store.specs.Marks.{note_by, or_else}
use Rattle.rib_store.proofs.MarksLemmas.{noted_more}
use Rattle.rib_store.proofs.marks.note_each.Goals as goal

pub loop-number-preserved : goal.loop-number-preserved
loop-number-preserved c q =
    let numbers : List ℕ = c.as_slice-number-items.result.now in
    let i : ℕ = c.loop-number.number-index in
    let x : ℕ = get_or numbers i 0 in
    let e : drop i numbers ≡ x ∷ drop (i + 1) numbers = drop_more numbers i 0 c.loop-number-test.true in
    noted_more c.args.keys.now c.args.cases.now x (drop (i + 1) numbers) q (lookup (is_at (key_cmp q)) c.loop-number.notes) (lookup (is_at (key_cmp q)) c.note_case.new.notes)
    (c.in_ok-note_case.ensures q)
    ∙ sym (ap (λ (ns : List ℕ). or_else (lookup (is_at (key_cmp q)) c.loop-number.notes) (note_by c.args.keys.now c.args.cases.now ns q)) e)
    ∙ c.loop-number.invariant q
