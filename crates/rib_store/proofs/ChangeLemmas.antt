-- The changes that are made of entries that tell of their keys what was marked and what stands.
use Rattle.std.proofs.Common.{◌≡◌, ◌≢◌, Bool, true, false, cond, List, [], ◌∷◌, None, Some, refl, ap, sym, subst, ◌∙◌, true≢false}
use Rattle.std.specs.Prelude.{All}
use Rattle.std.specs.declared.option.Option.{Option}
use Rattle.std.specs.BTreeMap.{is_at}
use Rattle.std.specs.FinMap as fin
use Rattle.std.specs.List.{cons_option, filter_map}
use Rattle.std.specs.List.Sorted.{IsStrictlySortedBy}
use Rattle.std.specs.Map.{keys_of, lookup}
use Rattle.std.specs.Option.{unwrap_or}
use Rattle.std.proofs.lemmas.List.Elements.{All-nil, All-cons, All-head, All-tail}
use Rattle.path_model.specs.declared.key.Key.{Key}
use Rattle.path_model.specs.declared.verdict.Verdict.{Verdict}
use Rattle.path_model.specs.declared.verdict.Verdict.TheVariants.{Valid, Unknown, Invalid}
use Rattle.attestations.specs.CurrentTable.{Parts}
use Rattle.path_model.specs.Key.{key_cmp}
use Rattle.path_model.specs.Roles.{Relations}
use Rattle.rib_store.specs.declared.journal.ChangedKey.{ChangedKey}
use Rattle.rib_store.specs.Changes.{StandsAs, IsChange, AreChanges}
use Rattle.rib_store.specs.ChangesLeft.{present_verdict, are_same, change_between, changes_in}
use Rattle.rib_store.specs.Held.{Held, paths_in, marks_in, at}
use Rattle.rib_store.specs.State.{State}
use Rattle.rib_store.proofs.KeyLemmas.{same_key, sorted_entries, AllFound, all_found, find_lookup}
use Rattle.rib_store.proofs.MarkLemmas.{stands_now}
use Rattle.rib_store.proofs.PartLemmas.{part_of, get_part, kept_sorted}

-- ---- whether two verdicts are the same

pub same_itself : (verdict : Option Verdict) → are_same verdict verdict ≡ true
same_itself None = refl
same_itself (Some Valid) = refl
same_itself (Some Unknown) = refl
same_itself (Some Invalid) = refl

pub same_means : (one other : Option Verdict) → are_same one other ≡ true → one ≡ other
same_means None None e = refl
same_means None (Some w) e = absurd (true≢false (sym e))
same_means (Some v) None e = absurd (true≢false (sym e))
same_means (Some Valid) (Some Valid) e = refl
same_means (Some Valid) (Some Unknown) e = absurd (true≢false (sym e))
same_means (Some Valid) (Some Invalid) e = absurd (true≢false (sym e))
same_means (Some Unknown) (Some Valid) e = absurd (true≢false (sym e))
same_means (Some Unknown) (Some Unknown) e = refl
same_means (Some Unknown) (Some Invalid) e = absurd (true≢false (sym e))
same_means (Some Invalid) (Some Valid) e = absurd (true≢false (sym e))
same_means (Some Invalid) (Some Unknown) e = absurd (true≢false (sym e))
same_means (Some Invalid) (Some Invalid) e = refl

-- ---- one change

-- a change has the key and both verdicts, and these differ
record IsBetween (key : Key) (before after : Option Verdict) (change : ChangedKey) : Type 0 where
  is : change ≡ record { key = key; before = before; after = after }
  differ : before ≢ after

between : (key : Key) (before after : Option Verdict) (change : ChangedKey) → (b : Bool) → are_same before after ≡ b
    → cond b None (Some (record { key = key; before = before; after = after })) ≡ Some change → IsBetween key before after change
between key before after change true t e = absurd cc
between key before after change false t e = record {
  is = ap (λ (o : Option ChangedKey). unwrap_or o change) (sym e);
  differ = λ same. true≢false (sym (same_itself before) ∙ ap (are_same before) same ∙ t);
}

-- ---- the changes among entries, where each tells what was marked of its key and as what it stands

abbrev IsOther : Key → ChangedKey → Type 0
IsOther q change = change.key ≢ q

module _ {X : Type 0} (before after : Key × X → Option Verdict) where
  abbrev pub change_of : Key × X → Option ChangedKey
  change_of e = change_between e.0 (before e) (after e)

  is_between : (e : Key × X) (change : ChangedKey) → change_of e ≡ Some change → IsBetween e.0 (before e) (after e) change
  is_between e change is = between e.0 (before e) (after e) change (are_same (before e) (after e)) refl is

  change_keeps : (e : Key × X) (change : ChangedKey) → change_of e ≡ Some change → change.key ≡ e.0
  change_keeps e change is = ap (λ (c : ChangedKey). c.key) (is_between e change is).is

  -- an entry whose verdicts differ has a change
  has_change : (q : Key) (x : X) (es : List (Key × X)) → lookup (is_at (key_cmp q)) es ≡ Some x → are_same (before (q, x)) (after (q, x)) ≡ false
      → All (IsOther q) (filter_map change_of es) → ⊥
  has_change q x [] found differ none = absurd cc
  has_change q x (e ∷ es) found differ none = by (has_change q x es) (is_at (key_cmp q) e.0) refl found where
    later : (o : Option ChangedKey) → All (IsOther q) (cons_option o (filter_map change_of es)) → All (IsOther q) (filter_map change_of es)
    later None all = all
    later (Some c) all = All-tail (IsOther q) c (filter_map change_of es) all

    here : q ≡ e.0 → x ≡ e.1 → ⊥
    here key is =
        let made : change_of e ≡ Some (record { key = e.0; before = before e; after = after e }) =
        ap (λ (b : Bool). cond b None (Some (record { key = e.0; before = before e; after = after e })))
        ((λ i. are_same (before (sym key i, sym is i)) (after (sym key i, sym is i))) ∙ differ) in
        All-head (IsOther q) (record { key = e.0; before = before e; after = after e }) (filter_map change_of es)
        (subst (λ (o : Option ChangedKey). All (IsOther q) (cons_option o (filter_map change_of es))) made none) (sym key)

    by : (lookup (is_at (key_cmp q)) es ≡ Some x → are_same (before (q, x)) (after (q, x)) ≡ false → All (IsOther q) (filter_map change_of es) → ⊥)
        → (b : Bool) → is_at (key_cmp q) e.0 ≡ b → cond b (Some e.1) (lookup (is_at (key_cmp q)) es) ≡ Some x → ⊥
    by ih true t f = here (same_key q e.0 t) (ap (λ (o : Option X). unwrap_or o x) (sym f))
    by ih false t f = ih f differ (later (change_of e) none)

  module _ (state : State) (all : List (Key × X)) (ordered : IsStrictlySortedBy key_cmp (keys_of all))
      (marked_at : (e : Key × X) → lookup (is_at (key_cmp e.0)) all ≡ Some e.1 → fin.get state.marked e.0 ≡ before e)
      (stands_at : (e : Key × X) → lookup (is_at (key_cmp e.0)) all ≡ Some e.1 → StandsAs state e.0 (after e))
      (idle : (q : Key) → lookup (is_at (key_cmp q)) all ≡ None → StandsAs state q (fin.get state.marked q)) where
    abbrev IsChangeOf : ChangedKey → Type 0
    IsChangeOf change = IsChange state change.key change.before change.after

    is_change : (e : Key × X) (change : ChangedKey) → lookup (is_at (key_cmp e.0)) all ≡ Some e.1 → change_of e ≡ Some change → IsChangeOf change
    is_change e change found is =
        let made = is_between e change is in
        subst IsChangeOf (sym made.is) (record { marked = marked_at e found; stands = stands_at e found; differ = made.differ })

    each_change : (es : List (Key × X)) → AllFound all es → All IsChangeOf (filter_map change_of es)
    each_change [] found = All-nil IsChangeOf
    each_change (e ∷ es) found = by (each_change es found.1) (change_of e) refl where
      by : All IsChangeOf (filter_map change_of es) → (o : Option ChangedKey) → change_of e ≡ o → All IsChangeOf (cons_option o (filter_map change_of es))
      by ih None t = ih
      by ih (Some c) t = All-cons IsChangeOf c (filter_map change_of es) (is_change e c (sym (find_lookup all e.0) ∙ found.0) t) ih

    stands_as_marked : (q : Key) → All (λ (change : ChangedKey). change.key ≢ q) (filter_map change_of all) → StandsAs state q (fin.get state.marked q)
    stands_as_marked q none = by (lookup (is_at (key_cmp q)) all) refl where
      same : (x : X) → lookup (is_at (key_cmp q)) all ≡ Some x → (b : Bool) → are_same (before (q, x)) (after (q, x)) ≡ b → before (q, x) ≡ after (q, x)
      same x found true t = same_means (before (q, x)) (after (q, x)) t
      same x found false t = absurd (has_change q x all found t none)

      by : (o : Option X) → lookup (is_at (key_cmp q)) all ≡ o → StandsAs state q (fin.get state.marked q)
      by None found = idle q found
      by (Some x) found = subst (StandsAs state q) (sym (marked_at (q, x) found ∙ same x found (are_same (before (q, x)) (after (q, x))) refl)) (stands_at (q, x) found)

    pub changes_among : AreChanges state (filter_map change_of all)
    changes_among = record {
      ascending = kept_sorted (λ (change : ChangedKey). change.key) change_of change_keeps all ordered;
      each = each_change all (all_found all (sorted_entries all ordered));
      others = stands_as_marked;
    }

-- ---- the changes of a state that holds these entries

abbrev pub state_of : Parts → Relations → List (Key × Held) → State
state_of parts relations es = record { parts = parts; roles = relations; routes = fin.from_entries (paths_in es); marked = fin.from_entries (marks_in es) }

module _ (parts : Parts) (relations : Relations) (all : List (Key × Held)) (ordered : IsStrictlySortedBy key_cmp (keys_of all)) where
  abbrev state : State
  state = state_of parts relations all

  stands_held : (q : Key) (o : Option Held) → at q all ≡ o → StandsAs state q (present_verdict parts relations q (part_of (λ h. h.trail) o))
  stands_held q o e = stands_now state q (part_of (λ h. h.trail) o) (get_part (λ h. h.trail) q all ordered ∙ ap (part_of (λ h. h.trail)) e)

  marked_held : (q : Key) (o : Option Held) → at q all ≡ o → fin.get state.marked q ≡ part_of (λ h. h.marked) o
  marked_held q o e = get_part (λ h. h.marked) q all ordered ∙ ap (part_of (λ h. h.marked)) e

  pub are_changes : AreChanges state (changes_in parts relations all)
  are_changes = changes_among (λ e. e.1.marked) (λ e. present_verdict parts relations e.0 e.1.trail) state all ordered
      (λ e found. marked_held e.0 (Some e.1) found)
      (λ e found. stands_held e.0 (Some e.1) found)
      (λ q none. subst (StandsAs state q) (sym (marked_held q None none)) (stands_held q None none))
