-- The verdicts of the cases are the current ones of the routes.
use Rattle.std.proofs.Common.{◌≡◌, ℕ, ◌<◌, true, List, [], ◌∷◌, None, Some, refl, ap, sym, subst, ◌∙◌, arith}
use Rattle.std.specs.declared.option.Option.{Option}
use Rattle.std.specs.BTreeMap.{is_at}
use Rattle.std.specs.FinMap as fin
use Rattle.std.specs.List.Sorted.{IsStrictlySortedBy}
use Rattle.std.specs.Map.{lookup, keys_of}
use Rattle.path_model.specs.declared.key.Key.{Key}
use Rattle.path_model.specs.declared.verdict.Verdict.{Verdict}
use Rattle.attestations.specs.ComputedTable.{table_of}
use Rattle.attestations.specs.CurrentTable.{Parts}
use Rattle.path_model.specs.Key.{key_cmp}
use Rattle.path_model.specs.RightVerdict.{IsRight}
use Rattle.path_model.specs.Roles.{Relations, role_of}
use Rattle.path_model.specs.Routes.{Routes}
use Rattle.path_model.specs.Trail.{Path}
use Rattle.shared_cases.specs.declared.case.StoredCase.{StoredCase}
use Rattle.shared_cases.specs.Cases.{Slots, at, verdict_or, marked_or, marked_now}
use Rattle.shared_cases.specs.Grounds.{IsJudged}
use Rattle.rib_store.specs.Grounds.{grounds}
use Rattle.rib_store.specs.Cased.{Numbered, path_or, through, routes_by, marked_by, users_of, IsCounted, IsOfAs, AreStored}
use Rattle.rib_store.specs.Changes.{IsMarked}
use Rattle.rib_store.specs.Rows.{current_verdict, current_verdicts, rows_of}
use Rattle.rib_store.specs.State.{State, Marked, AreRows}
use Rattle.rib_store.proofs.CasedLemmas.{through_sorted, same_through}
use Rattle.rib_store.proofs.CountedLemmas.{users_positive}
use Rattle.rib_store.proofs.KeyLemmas.{AllFound, all_found, find_lookup, sorted_entries, entries_whole}
use Rattle.rib_store.proofs.MarkLemmas as marking
use Rattle.rib_store.proofs.RouteLemmas.{state_by}
use Rattle.rib_store.proofs.RowLemmas.{is_verdict_of, are_rows}

module _ (parts : Parts) (relations : Relations) (routes : Numbered) (cases : Slots) (stored : AreStored (grounds parts relations) routes cases) where
  verdict_by : (key : Key) (c : Option StoredCase) (users : ℕ) → IsCounted c users → 0 < users → IsOfAs c key.peer.asn → IsJudged (grounds parts relations) c
      → verdict_or c ≡ current_verdict parts relations key (path_or c)
  verdict_by key None users counted used is right = absurd (omega (arith, counted, used))
  verdict_by key (Some c) users counted used is right = is_verdict_of (table_of parts) (role_of relations key.peer.asn) key.peer.asn c.trail c.judged.verdict
      (subst (λ (a : ℕ). IsRight (table_of parts) (role_of relations a) a c.trail c.judged.verdict) is right.0.right)

  -- the verdict of a key's case
  pub verdict_is : (key : Key) (n : ℕ) → lookup (is_at (key_cmp key)) routes ≡ Some n → verdict_or (at cases n) ≡ current_verdict parts relations key (path_or (at cases n))
  verdict_is key n here = verdict_by key (at cases n) (users_of routes n) (stored.counted n) (users_positive routes key n here) (stored.of_peers key n here) (stored.judged n)

  rows_by : (es : Numbered) → AllFound routes es → through verdict_or cases es ≡ rows_of parts relations (through path_or cases es)
  rows_by [] found = refl
  rows_by (e ∷ es) found = λ i. (e.0, verdict_is e.0 e.1 (sym (find_lookup routes e.0) ∙ found.0) i) ∷ rows_by es found.1 i

  module _ (sorted : IsStrictlySortedBy key_cmp (keys_of routes)) where
    -- the rows by the cases are those of the routes
    pub rows_are : through verdict_or cases routes ≡ rows_of parts relations (through path_or cases routes)
    rows_are = rows_by routes (all_found routes (sorted_entries routes sorted))

    whole : fin.entries (routes_by cases routes) ≡ through path_or cases routes
    whole = entries_whole (through path_or cases routes) (through_sorted path_or cases routes sorted)

    pub stored_rows : (marked : Marked) → AreRows (record { parts = parts; roles = relations; routes = routes_by cases routes; marked = marked }) (through verdict_or cases routes)
    stored_rows marked =
        let state : State = record { parts = parts; roles = relations; routes = routes_by cases routes; marked = marked } in
        subst (λ (rows : List (Key × Verdict)). AreRows state rows) (ap (rows_of parts relations) whole ∙ sym rows_are) (are_rows state)

    -- ---- marking
    mark_is : (c : Option StoredCase) → marked_or (marked_now c) ≡ verdict_or c
    mark_is None = refl
    mark_is (Some c) = refl

    path_is : (c : Option StoredCase) → path_or (marked_now c) ≡ path_or c
    path_is None = refl
    path_is (Some c) = refl

    marks_through : (new : Slots) → ((n : ℕ) → at new n ≡ marked_now (at cases n)) → (es : Numbered) → through marked_or new es ≡ through verdict_or cases es
    marks_through new marked [] = refl
    marks_through new marked (e ∷ es) = λ i. (e.0, (ap marked_or (marked e.1) ∙ mark_is (at cases e.1)) i) ∷ marks_through new marked es i

    pub marked_state : (new : Slots) (old_marked : Marked) → ((n : ℕ) → at new n ≡ marked_now (at cases n))
        → IsMarked (record { parts = parts; roles = relations; routes = routes_by cases routes; marked = old_marked }) (state_by parts relations true new routes [])
    marked_state new old_marked marked =
        let state : State = record { parts = parts; roles = relations; routes = routes_by cases routes; marked = old_marked } in
        let same : routes_by new routes ≡ routes_by cases routes = ap (λ (es : List (Key × Path)). fin.from_entries {R = key_cmp} es)
        (same_through path_or cases new routes (λ n. ap path_or (marked n) ∙ path_is (at cases n))) in
        let marks : marked_by true new routes [] ≡ current_verdicts parts relations (routes_by cases routes) = ap (λ (es : List (Key × Verdict)). fin.from_entries {R = key_cmp} es)
        (marks_through new marked routes ∙ rows_are ∙ ap (rows_of parts relations) (sym whole)) in
        subst (λ (m : Routes). IsMarked state (record { parts = parts; roles = relations; routes = m; marked = marked_by true new routes [] })) (sym same)
        (marking.marked_by state (marked_by true new routes []) marks)
