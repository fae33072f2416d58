-- Each state has one list of changes.
use Rattle.std.proofs.Common.{◌≡◌, ◌≢◌, Bool, true, false, cond, T, List, [], ◌∷◌, ◌++◌, None, Some, refl, ap, sym, subst, ◌∙◌, ◌⊎◌, inl, inr}
use Rattle.std.specs.Prelude.{map, All}
use Rattle.std.specs.declared.option.Option.{Option}
use Rattle.std.specs.FinMap as fin
use Rattle.std.specs.FinMap.Entries.{is_sorted, same_entries}
use Rattle.std.specs.List.Sorted.{IsStrictlySortedBy}
use Rattle.std.specs.Map.{keys_of}
use Rattle.std.specs.Ordering.{eq_by_cmp}
use Rattle.std.specs.Cmp.{eq_by_cmp_equiv}
use Rattle.std.proofs.lemmas.List.Elements.{All-nil, All-cons, All-head, All-tail}
use Rattle.path_model.specs.declared.key.Key.{Key}
use Rattle.path_model.specs.declared.verdict.Verdict.{Verdict}
use Rattle.path_model.specs.Key.{key_cmp}
use Rattle.path_model.specs.Order.{key_total}
use Rattle.path_model.specs.Trail.{Path}
use Rattle.path_model.proofs.OrderLemmas.{key_exact}
use Rattle.rib_store.specs.declared.journal.ChangedKey.{ChangedKey}
use Rattle.rib_store.specs.Changes.{StandsAs, IsChange, AreChanges}
use Rattle.rib_store.specs.ChangesLeft.{changes_in}
use Rattle.rib_store.specs.Held.{Held, paths_in, marks_in, at}
use Rattle.av_base.specs.One.{HasOne}
use Rattle.rib_store.specs.State.{State, Marked}
use Rattle.rib_store.proofs.ChangeLemmas.{state_of, are_changes}
use Rattle.rib_store.proofs.KeyLemmas.{same_key, sorted_keys, sorted_entries, find_lookup}
use Rattle.rib_store.proofs.MarkLemmas.{one_standing}
use Rattle.rib_store.proofs.PartLemmas.{part_of, get_part}

-- ---- at most one

abbrev by_key : List ChangedKey → List (Key × ChangedKey)
by_key changes = map (λ (c : ChangedKey). (c.key, c)) changes

keys_by_key : (changes : List ChangedKey) → keys_of (by_key changes) ≡ map (λ (c : ChangedKey). c.key) changes
keys_by_key [] = refl
keys_by_key (c ∷ cs) = ap (λ (ks : List Key). c.key ∷ ks) (keys_by_key cs)

changes_by_key : (changes : List ChangedKey) → map (λ (e : Key × ChangedKey). e.1) (by_key changes) ≡ changes
changes_by_key [] = refl
changes_by_key (c ∷ cs) = ap (λ (ds : List ChangedKey). c ∷ ds) (changes_by_key cs)

by_key_sorted : (changes : List ChangedKey) → IsStrictlySortedBy key_cmp (map (λ (c : ChangedKey). c.key) changes) → T (is_sorted key_cmp (by_key changes))
by_key_sorted changes ascending = sorted_entries (by_key changes) (subst (IsStrictlySortedBy key_cmp) (sym (keys_by_key changes)) ascending)

abbrev IsChangeOf : State → ChangedKey → Type 0
IsChangeOf state change = IsChange state change.key change.before change.after

-- a key has a change in the list, or none
record IsFound (state : State) (q : Key) (answer : Option ChangedKey) (change : ChangedKey) : Type 0 where
  found : answer ≡ Some change
  key : change.key ≡ q
  is : IsChangeOf state change

found_or_not : (state : State) (q : Key) (changes : List ChangedKey) → All (IsChangeOf state) changes
    → ((fin.find key_cmp q (by_key changes) ≡ None) × All (λ (c : ChangedKey). c.key ≢ q) changes) ⊎ ((change : ChangedKey) × IsFound state q (fin.find key_cmp q (by_key changes)) change)
found_or_not state q [] each = inl (refl, All-nil (λ (c : ChangedKey). c.key ≢ q))
found_or_not state q (c ∷ cs) each = by (found_or_not state q cs (All-tail (IsChangeOf state) c cs each)) (eq_by_cmp key_cmp q c.key) refl where
  unlike : eq_by_cmp key_cmp q c.key ≡ false → c.key ≢ q
  unlike t e = absurd (let tied = (eq_by_cmp_equiv key_total).refl q in let apart : eq_by_cmp key_cmp q q ≡ false = ap (eq_by_cmp key_cmp q) (sym e) ∙ t in cc)

  by : ((fin.find key_cmp q (by_key cs) ≡ None) × All (λ (c : ChangedKey). c.key ≢ q) cs) ⊎ ((change : ChangedKey) × IsFound state q (fin.find key_cmp q (by_key cs)) change)
      → (b : Bool) → eq_by_cmp key_cmp q c.key ≡ b
      → ((cond b (Some c) (fin.find key_cmp q (by_key cs)) ≡ None) × All (λ (c : ChangedKey). c.key ≢ q) (c ∷ cs)) ⊎ ((change : ChangedKey) × IsFound state q (cond b (Some c) (fin.find key_cmp q (by_key cs))) change)
  by rest true t = inr (c, record { found = refl; key = sym (same_key q c.key t); is = All-head (IsChangeOf state) c cs each })
  by (inl none) false t = inl (none.0, All-cons (λ (c : ChangedKey). c.key ≢ q) c cs (unlike t) none.1)
  by (inr some) false t = inr some

same_change : (state : State) (one other : ChangedKey) → one.key ≡ other.key → IsChangeOf state one → IsChangeOf state other → one ≡ other
same_change state one other key a b =
    let before : one.before ≡ other.before = sym a.marked ∙ ap (fin.get state.marked) key ∙ b.marked in
    let after : one.after ≡ other.after = one_standing state other.key one.after other.after (subst (λ (k : Key). StandsAs state k one.after) key a.stands) b.stands in
    λ i. record { key = key i; before = before i; after = after i }

-- a key that stands as it was marked has no change
unchanged : (state : State) (q : Key) (change : ChangedKey) → change.key ≡ q → IsChangeOf state change → StandsAs state q (fin.get state.marked q) → ⊥
unchanged state q change key is stands =
    is.differ (sym is.marked ∙ one_standing state change.key (fin.get state.marked change.key) change.after (subst (λ (k : Key). StandsAs state k (fin.get state.marked k)) (sym key) stands) is.stands)

pub one_list : (state : State) (one other : List ChangedKey) → AreChanges state one → AreChanges state other → other ≡ one
one_list state one other a b =
    sym (changes_by_key other)
    ∙ ap (map (λ (e : Key × ChangedKey). e.1)) (same_entries key_cmp key_total key_exact (by_key other) (by_key one) (by_key_sorted other b.ascending) (by_key_sorted one a.ascending)
    (λ q. by q (found_or_not state q other b.each) (found_or_not state q one a.each)))
    ∙ changes_by_key one where
      by : (q : Key) → ((fin.find key_cmp q (by_key other) ≡ None) × All (λ (c : ChangedKey). c.key ≢ q) other) ⊎ ((change : ChangedKey) × IsFound state q (fin.find key_cmp q (by_key other)) change)
          → ((fin.find key_cmp q (by_key one) ≡ None) × All (λ (c : ChangedKey). c.key ≢ q) one) ⊎ ((change : ChangedKey) × IsFound state q (fin.find key_cmp q (by_key one)) change)
          → fin.find key_cmp q (by_key other) ≡ fin.find key_cmp q (by_key one)
      by q (inl x) (inl y) = x.0 ∙ sym y.0
      by q (inl x) (inr y) = absurd (unchanged state q y.0 y.1.key y.1.is (b.others q x.1))
      by q (inr x) (inl y) = absurd (unchanged state q x.0 x.1.key x.1.is (a.others q y.1))
      by q (inr x) (inr y) = x.1.found ∙ ap Some (same_change state x.0 y.0 (x.1.key ∙ sym y.1.key) x.1.is y.1.is) ∙ sym y.1.found

-- ---- and at least one: some entries hold the routes and the marks of any state

abbrev only_marks : List (Key × Verdict) → List (Key × Held)
only_marks marks = map {B = Key × Held} (λ e. (e.0, record { trail = None; marked = Some e.1 })) marks

abbrev together : Marked → List (Key × Path) → List (Key × Verdict) → List (Key × Held)
together marked routes marks = map {B = Key × Held} (λ e. (e.0, record { trail = Some e.1; marked = fin.get marked e.0 })) routes ++ only_marks marks

trail_at : (marked : Marked) (q : Key) (routes : List (Key × Path)) (marks : List (Key × Verdict)) → part_of (λ h. h.trail) (fin.find key_cmp q (together marked routes marks)) ≡ fin.find key_cmp q routes
trail_at marked q [] [] = refl
trail_at marked q [] (m ∷ ms) = by (trail_at marked q [] ms) (eq_by_cmp key_cmp q m.0) where
  by : part_of (λ h. h.trail) (fin.find key_cmp q (only_marks ms)) ≡ None → (b : Bool)
      → part_of (λ h. h.trail) (cond b (Some (record { trail = None; marked = Some m.1 })) (fin.find key_cmp q (only_marks ms))) ≡ None
  by ih true = refl
  by ih false = ih
trail_at marked q (r ∷ rs) marks = by (trail_at marked q rs marks) (eq_by_cmp key_cmp q r.0) where
  by : part_of (λ h. h.trail) (fin.find key_cmp q (together marked rs marks)) ≡ fin.find key_cmp q rs → (b : Bool)
      → part_of (λ h. h.trail) (cond b (Some (record { trail = Some r.1; marked = fin.get marked r.0 })) (fin.find key_cmp q (together marked rs marks))) ≡ cond b (Some r.1) (fin.find key_cmp q rs)
  by ih true = refl
  by ih false = ih

only_mark_at : (q : Key) (marks : List (Key × Verdict)) → part_of (λ h. h.marked) (fin.find key_cmp q (only_marks marks)) ≡ fin.find key_cmp q marks
only_mark_at q [] = refl
only_mark_at q (m ∷ ms) = by (only_mark_at q ms) (eq_by_cmp key_cmp q m.0) where
  by : part_of (λ h. h.marked) (fin.find key_cmp q (only_marks ms)) ≡ fin.find key_cmp q ms → (b : Bool)
      → part_of (λ h. h.marked) (cond b (Some (record { trail = None; marked = Some m.1 })) (fin.find key_cmp q (only_marks ms))) ≡ cond b (Some m.1) (fin.find key_cmp q ms)
  by ih true = refl
  by ih false = ih

mark_at : (marked : Marked) (q : Key) (routes : List (Key × Path)) → part_of (λ h. h.marked) (fin.find key_cmp q (together marked routes (fin.entries marked))) ≡ fin.get marked q
mark_at marked q [] = only_mark_at q (fin.entries marked) ∙ sym (fin.get-entries marked q)
mark_at marked q (r ∷ rs) = by (mark_at marked q rs) (eq_by_cmp key_cmp q r.0) refl where
  by : part_of (λ h. h.marked) (fin.find key_cmp q (together marked rs (fin.entries marked))) ≡ fin.get marked q → (b : Bool) → eq_by_cmp key_cmp q r.0 ≡ b
      → part_of (λ h. h.marked) (cond b (Some (record { trail = Some r.1; marked = fin.get marked r.0 })) (fin.find key_cmp q (together marked rs (fin.entries marked)))) ≡ fin.get marked q
  by ih true t = ap (fin.get marked) (sym (same_key q r.0 t))
  by ih false t = ih

module _ (state : State) where
  abbrev given : List (Key × Held)
  given = together state.marked (fin.entries state.routes) (fin.entries state.marked)

  abbrev pub entries_of : List (Key × Held)
  entries_of = fin.entries (fin.from_entries {R = key_cmp} given)

  ordered : IsStrictlySortedBy key_cmp (keys_of entries_of)
  ordered = sorted_keys entries_of (fin.entries_sorted (fin.from_entries {R = key_cmp} given))

  held_at : (q : Key) → at q entries_of ≡ fin.find key_cmp q given
  held_at q = sym (find_lookup entries_of q) ∙ sym (fin.get-entries (fin.from_entries {R = key_cmp} given) q) ∙ fin.get-from_entries key_total given q

  routes_are : fin.from_entries {R = key_cmp} (paths_in entries_of) ≡ state.routes
  routes_are = fin.same_map key_total key_exact _ _ (λ q. get_part (λ h. h.trail) q entries_of ordered ∙ ap (part_of (λ h. h.trail)) (held_at q)
      ∙ trail_at state.marked q (fin.entries state.routes) (fin.entries state.marked) ∙ sym (fin.get-entries state.routes q))

  marks_are : fin.from_entries {R = key_cmp} (marks_in entries_of) ≡ state.marked
  marks_are = fin.same_map key_total key_exact _ _ (λ q. get_part (λ h. h.marked) q entries_of ordered ∙ ap (part_of (λ h. h.marked)) (held_at q)
      ∙ mark_at state.marked q (fin.entries state.routes))

  pub some_list : AreChanges state (changes_in state.parts state.roles entries_of)
  some_list =
      let is : state_of state.parts state.roles entries_of ≡ state = λ i. record { parts = state.parts; roles = state.roles; routes = routes_are i; marked = marks_are i } in
      subst (λ (s : State). AreChanges s (changes_in state.parts state.roles entries_of)) is (are_changes state.parts state.roles entries_of ordered)

pub has_one_list_of_changes : (state : State) → HasOne (AreChanges state)
has_one_list_of_changes state = record {
  one = changes_in state.parts state.roles (entries_of state);
  is = some_list state;
  only = λ other are. one_list state (changes_in state.parts state.roles (entries_of state)) other (some_list state) are;
}
