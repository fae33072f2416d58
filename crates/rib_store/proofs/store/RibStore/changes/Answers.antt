use Rattle.std.proofs.Common.{◌≡◌, Bool, ℕ, List, true, length, ap, sym, subst, ◌∙◌, arith}
use Rattle.std.specs.List.{filter_map}
use Rattle.path_model.specs.declared.key.Key.{Key}
use Rattle.rib_store.specs.declared.merged.Row.{Row}
use Rattle.rib_store.specs.Cased.{Noted}
use Rattle.rib_store.specs.Changes.{AreChanges}
use Rattle.rib_store.specs.ChangesLeft.{changed, row_change}
use Rattle.rib_store.specs.Marks.{AreNoted}
use Rattle.rib_store.specs.Merge.{merge, merged_left}
use Rattle.rib_store.specs.Stored.{Stored}
use Rattle.rib_store.proofs.JournalLemmas.{changes_of_notes, changes_of_rows, changed_fewer, rows_fewer}
use Rattle.rib_store.proofs.MergeLemmas.{merge_length}
use Rattle.rib_store.proofs.RouteLemmas.{state_by}
use Rattle.rib_store.proofs.store.RibStore.changes.Goals as goal

pub returns-then-is_empty-clause-changes : goal.returns-then-is_empty-clause-changes
returns-then-is_empty-clause-changes c =
    subst (λ (s : Stored). AreChanges s.state (filter_map (changed c.self.inside.routing.routes c.self.inside.routing.cases) c.iter.result)) c.self.view_is
    (subst (λ (es : Noted). AreChanges (state_by c.self.inside.table c.self.inside.roles c.self.inside.routing.marks.is_marked c.self.inside.routing.cases c.self.inside.routing.routes c.self.inside.routing.marks.notes)
    (filter_map (changed c.self.inside.routing.routes c.self.inside.routing.cases) es)) (sym c.iter.ensures.whole)
    (subst (λ (b : Bool). AreChanges (state_by c.self.inside.table c.self.inside.roles b c.self.inside.routing.cases c.self.inside.routing.routes c.self.inside.routing.marks.notes)
    (filter_map (changed c.self.inside.routing.routes c.self.inside.routing.cases) c.self.inside.routing.marks.notes)) (sym c.if-self.true)
    (changes_of_notes c.self.inside.table c.self.inside.roles c.self.inside.routing.routes c.self.inside.routing.cases c.self.inside.routing.marks.notes c.self.invariant.stored c.len-length.ensures.in_order
    c.iter.ensures.in_order
    (subst (λ (ps : List ℕ). AreNoted true c.self.inside.routing.routes c.self.inside.routing.cases c.self.inside.routing.marks.notes ps) (c.is_empty.ensures.0 c.if-is_empty.true)
    (subst (λ (b : Bool). AreNoted b c.self.inside.routing.routes c.self.inside.routing.cases c.self.inside.routing.marks.notes c.self.inside.routing.marks.pending) c.if-self.true c.self.invariant.marks.noted)) c.are_settled.ensures)))

pub returns-then-is_empty-clause-few : goal.returns-then-is_empty-clause-few
returns-then-is_empty-clause-few c = omega (arith, changed_fewer c.self.inside.routing.routes c.self.inside.routing.cases c.iter.result, c.iter.ensures.few)

pub returns-clause-changes : goal.returns-clause-changes
returns-clause-changes c =
    let merged : merged_left c.new.result ≡ merge c.self.inside.routing.marks.notes c.self.inside.routing.routes = c.new.ensures ∙ (λ i. merge (c.iter-2.ensures.whole i) (c.iter-3.ensures.whole i)) in
    subst (λ (s : Stored). AreChanges s.state (filter_map (row_change c.self.inside.routing.marks.is_marked c.self.inside.routing.cases) (merged_left c.new.result))) c.self.view_is
    (subst (λ (rows : List (Key × Row)). AreChanges (state_by c.self.inside.table c.self.inside.roles c.self.inside.routing.marks.is_marked c.self.inside.routing.cases c.self.inside.routing.routes c.self.inside.routing.marks.notes)
    (filter_map (row_change c.self.inside.routing.marks.is_marked c.self.inside.routing.cases) rows)) (sym merged)
    (changes_of_rows c.self.inside.table c.self.inside.roles c.self.inside.routing.routes c.self.inside.routing.cases c.self.inside.routing.marks.notes c.self.invariant.stored c.len-length.ensures.in_order
    c.iter-2.ensures.in_order c.self.inside.routing.marks.is_marked))

pub returns-clause-few : goal.returns-clause-few
returns-clause-few c = omega (
  arith,
  rows_fewer c.self.inside.routing.marks.is_marked c.self.inside.routing.cases (merged_left c.new.result),
  ap (λ (rows : List (Key × Row)). length rows) c.new.ensures,
  merge_length c.iter-2.result c.iter-3.result,
  c.iter-2.ensures.few,
  c.iter-3.ensures.few,
)
