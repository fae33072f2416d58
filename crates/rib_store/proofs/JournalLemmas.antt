-- The changes among all notes and routes are those of the state, and so are those among the notes where each key that may have changed has one.
use Rattle.std.proofs.Common.{◌≡◌, ℕ, ◌≤◌, true, false, length, None, Some, refl, ap, sym, subst, ◌∙◌, Bool, List, []}
use Rattle.std.specs.declared.option.Option.{Option}
use Rattle.std.specs.BTreeMap.{is_at}
use Rattle.std.specs.FinMap as fin
use Rattle.std.specs.List.{filter_map}
use Rattle.std.specs.List.Sorted.{IsStrictlySortedBy}
use Rattle.std.specs.Map.{lookup, keys_of}
use Rattle.std.specs.Option.{option_map}
use Rattle.path_model.specs.declared.key.Key.{Key}
use Rattle.path_model.specs.declared.verdict.Verdict.{Verdict}
use Rattle.attestations.specs.CurrentTable.{Parts}
use Rattle.path_model.specs.Key.{key_cmp}
use Rattle.path_model.specs.Roles.{Relations}
use Rattle.shared_cases.specs.declared.case.StoredCase.{StoredCase}
use Rattle.shared_cases.specs.Cases.{Slots, at, verdict_or, marked_or, IsSettled}
use Rattle.shared_cases.specs.Differed.{AreSettledOrDiffered}
use Rattle.rib_store.specs.Grounds.{grounds}
use Rattle.rib_store.specs.Cased.{Noted, Numbered, noted_or, path_or, AreStored, marked_by}
use Rattle.rib_store.specs.Changes.{StandsAs, AreChanges}
use Rattle.rib_store.specs.ChangesLeft.{changed, row_change}
use Rattle.rib_store.specs.Marks.{AreNoted}
use Rattle.rib_store.specs.Merge.{merge, marked_of}
use Rattle.rib_store.specs.declared.merged.Row.{Row}
use Rattle.rib_store.proofs.CasedLemmas.{get_through}
use Rattle.rib_store.proofs.ChangeLemmas.{changes_among}
use Rattle.rib_store.proofs.MarkLemmas.{stands_now}
use Rattle.rib_store.proofs.MarksLemmas.{unnoted_settled}
use Rattle.rib_store.proofs.MergeLemmas.{found_merge, joined, joined_case, joined_none, joined_note, merge_sorted}
use Rattle.rib_store.proofs.NotedLemmas.{get_marked, mark_at}
use Rattle.rib_store.proofs.PartLemmas.{fewer}
use Rattle.rib_store.proofs.RouteLemmas.{state_by}
use Rattle.rib_store.proofs.VerdictLemmas.{verdict_is}

settled_mark : (c : Option StoredCase) → IsSettled c → marked_or c ≡ verdict_or c
settled_mark None settled = refl
settled_mark (Some c) settled = settled

module _ (parts : Parts) (relations : Relations) (routes : Numbered) (cases : Slots) (notes : Noted) (stored : AreStored (grounds parts relations) routes cases)
    (sorted : IsStrictlySortedBy key_cmp (keys_of routes)) where
  -- a key stands as the verdict of its route's case
  stands : (is_marked : _) (q : Key) (o : Option ℕ) → lookup (is_at (key_cmp q)) routes ≡ o
      → StandsAs (state_by parts relations is_marked cases routes notes) q (option_map (λ n. verdict_or (at cases n)) o)
  stands is_marked q None here = stands_now (state_by parts relations is_marked cases routes notes) q None
      (get_through path_or cases routes q ∙ ap (option_map (λ n. path_or (at cases n))) here)
  stands is_marked q (Some n) here =
      subst (λ (v : Verdict). StandsAs (state_by parts relations is_marked cases routes notes) q (Some v)) (sym (verdict_is parts relations routes cases stored q n here))
      (stands_now (state_by parts relations is_marked cases routes notes) q (Some (path_or (at cases n)))
      (get_through path_or cases routes q ∙ ap (option_map (λ n. path_or (at cases n))) here))

  module _ (notes_sorted : IsStrictlySortedBy key_cmp (keys_of notes)) (is_marked : Bool) where
    abbrev row_at : Key → Option Row
    row_at q = lookup (is_at (key_cmp q)) (merge notes routes)

    joins : (q : Key) → row_at q ≡ joined (lookup (is_at (key_cmp q)) notes) (lookup (is_at (key_cmp q)) routes)
    joins q = found_merge q notes routes notes_sorted sorted

    case_at : (q : Key) (row : Row) → row_at q ≡ Some row → row.case ≡ lookup (is_at (key_cmp q)) routes
    case_at q row found = joined_case _ _ row (sym (joins q) ∙ found)

    marks_at : (b : Bool) (q : Key) (row : Row) → row_at q ≡ Some row → fin.get (marked_by b cases routes notes) q ≡ marked_of b cases row
    marks_at false q row found = fin.get-empty key_cmp q
    marks_at true q row found = get_marked cases routes notes q
        ∙ (λ i. noted_or (sym (joined_note _ _ row (sym (joins q) ∙ found)) i) (option_map (λ n. marked_or (at cases n)) (sym (case_at q row found) i)))

    idle_at : (b : Bool) (q : Key) → row_at q ≡ None → fin.get (marked_by b cases routes notes) q ≡ None
    idle_at false q none = fin.get-empty key_cmp q
    idle_at true q none =
        let both = joined_none _ _ (sym (joins q) ∙ none) in
        get_marked cases routes notes q ∙ (λ i. noted_or (both.0 i) (option_map (λ n. marked_or (at cases n)) (both.1 i)))

    pub changes_of_rows : AreChanges (state_by parts relations is_marked cases routes notes) (filter_map (row_change is_marked cases) (merge notes routes))
    changes_of_rows = changes_among (λ e. marked_of is_marked cases e.1) (λ e. option_map (λ n. verdict_or (at cases n)) e.1.case) (state_by parts relations is_marked cases routes notes) (merge notes routes)
        (merge_sorted notes routes notes_sorted sorted)
        (λ e found. marks_at is_marked e.0 e.1 found)
        (λ e found. stands is_marked e.0 e.1.case (sym (case_at e.0 e.1 found)))
        (λ q none. subst (StandsAs (state_by parts relations is_marked cases routes notes) q) (sym (idle_at is_marked q none))
        (stands is_marked q None (joined_none _ _ (sym (joins q) ∙ none)).1))

  module _ (notes_sorted : IsStrictlySortedBy key_cmp (keys_of notes)) (noted : AreNoted true routes cases notes []) (settled : AreSettledOrDiffered cases) where
    -- a key without a note is marked as its case stands
    marked_as : (q : Key) → lookup (is_at (key_cmp q)) notes ≡ None → (o : Option ℕ) → lookup (is_at (key_cmp q)) routes ≡ o
        → option_map (λ n. marked_or (at cases n)) o ≡ option_map (λ n. verdict_or (at cases n)) o
    marked_as q none None here = refl
    marked_as q none (Some n) here = ap Some (settled_mark (at cases n) (unnoted_settled routes cases notes noted settled q n here none))

    pub changes_of_notes : AreChanges (state_by parts relations true cases routes notes) (filter_map (changed routes cases) notes)
    changes_of_notes = changes_among (λ e. e.1) (λ e. option_map (λ n. verdict_or (at cases n)) (lookup (is_at (key_cmp e.0)) routes)) (state_by parts relations true cases routes notes) notes notes_sorted
        (λ e found. get_marked cases routes notes e.0 ∙ ap (λ (o : Option (Option Verdict)). noted_or o (mark_at cases routes e.0)) found)
        (λ e found. stands true e.0 (lookup (is_at (key_cmp e.0)) routes) refl)
        (λ q none. subst (StandsAs (state_by parts relations true cases routes notes) q)
        (sym (get_marked cases routes notes q ∙ ap (λ (o : Option (Option Verdict)). noted_or o (mark_at cases routes q)) none ∙ marked_as q none (lookup (is_at (key_cmp q)) routes) refl))
        (stands true q (lookup (is_at (key_cmp q)) routes) refl))

pub rows_fewer : (is_marked : Bool) (cases : Slots) (es : List (Key × Row)) → length (filter_map (row_change is_marked cases) es) ≤ length es
rows_fewer is_marked cases es = fewer (row_change is_marked cases) es

pub changed_fewer : (routes : Numbered) (cases : Slots) (es : Noted) → length (filter_map (changed routes cases) es) ≤ length es
changed_fewer routes cases es = fewer (changed routes cases) es
