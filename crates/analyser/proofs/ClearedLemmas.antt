-- What changed since verdicts were marked, once all routes are gone.
use Rattle.std.proofs.Common.{◌≡◌, ◌≢◌, Bool, true, false, cond, List, [], ◌∷◌, map, None, Some, refl, ap, sym, subst, ◌∙◌, true≢false}
use Rattle.std.specs.Prelude.{All}
use Rattle.std.specs.declared.option.Option.{Option}
use Rattle.std.specs.FinMap as fin
use Rattle.std.specs.List.Sorted.{IsStrictlySortedBy}
use Rattle.std.specs.Map.{keys_of}
use Rattle.std.specs.Option.{IsSome}
use Rattle.std.specs.Ordering.{eq_by_cmp}
use Rattle.std.proofs.lemmas.List.Elements.{All-from_recursion, All-head, All-map, All-tail}
use Rattle.std.proofs.lemmas.Option.{none-some}
use Rattle.path_model.specs.declared.key.Key.{Key}
use Rattle.path_model.specs.declared.verdict.Verdict.{Verdict}
use Rattle.path_model.specs.Key.{key_cmp}
use Rattle.rib_store.specs.declared.journal.ChangedKey.{ChangedKey}
use Rattle.rib_store.specs.Changes.{AreChanges, IsChange, StandsAs}
use Rattle.rib_store.specs.State.{State}
use Rattle.rib_store.proofs.ChangeLawLemmas.{one_list}
use Rattle.rib_store.proofs.KeyLemmas.{all_found, same_key, sorted_keys}
use Rattle.analyser.specs.Laws.{gone}

keys_gone : (es : List (Key × Verdict)) → map (λ (c : ChangedKey). c.key) (map gone es) ≡ keys_of es
keys_gone [] = refl
keys_gone (e ∷ es) = ap (λ (ks : List Key). e.0 ∷ ks) (keys_gone es)

abbrev Differs : Key → ChangedKey → Type 0
Differs key change = change.key ≢ key

-- a key that has a mark is one of those that are gone
listed : (es : List (Key × Verdict)) (q : Key) → IsSome (fin.find key_cmp q es) → All (Differs q) (map gone es) → ⊥
listed [] q some none = absurd (true≢false (sym some))
listed (e ∷ es) q some none = by_case (eq_by_cmp key_cmp q e.0) refl (listed es q) some where
  by_case : (b : Bool) → eq_by_cmp key_cmp q e.0 ≡ b → (IsSome (fin.find key_cmp q es) → All (Differs q) (map gone es) → ⊥) → IsSome (cond b (Some e.1) (fin.find key_cmp q es)) → ⊥
  by_case true t later h = All-head (Differs q) (gone e) (map gone es) none (sym (same_key q e.0 t))
  by_case false t later h = later h (All-tail (Differs q) (gone e) (map gone es) none)

abbrev IsChangeOf : State → ChangedKey → Type 0
IsChangeOf state change = IsChange state change.key change.before change.after

module _ (state : State) where
  abbrev cleared : State
  cleared = record state { routes = fin.empty }

  abbrev es : List (Key × Verdict)
  es = fin.entries state.marked

  own_change : (e : Key × Verdict) → fin.find key_cmp e.0 es ≡ Some e.1 → IsChangeOf cleared (gone e)
  own_change e found = record {
    marked = fin.get-entries state.marked e.0 ∙ found;
    stands = fin.get-empty key_cmp e.0;
    differ = λ same. none-some e.1 (sym same);
  }

  stands_gone : (key : Key) → All (Differs key) (map gone es) → (o : Option Verdict) → fin.get state.marked key ≡ o → StandsAs cleared key o
  stands_gone key none None e = fin.get-empty key_cmp key
  stands_gone key none (Some verdict) e = absurd (listed es key (subst (λ (o : Option Verdict). IsSome o) (sym e ∙ fin.get-entries state.marked key) refl) none)

  all_gone : AreChanges cleared (map gone es)
  all_gone = record {
    ascending = subst (IsStrictlySortedBy key_cmp) (sym (keys_gone es)) (sorted_keys es (fin.entries_sorted state.marked));
    each = All-map (IsChangeOf cleared) gone es
        (λ k d within. own_change _ (All-from_recursion (λ (e : Key × Verdict). fin.find key_cmp e.0 es ≡ Some e.1) es (all_found es (fin.entries_sorted state.marked)) k d within));
    others = λ key none. stands_gone key none (fin.get state.marked key) refl;
  }

  pub listed_as_gone : (changes : List ChangedKey) → AreChanges cleared changes → changes ≡ map gone es
  listed_as_gone changes are = one_list cleared (map gone es) changes all_gone are
