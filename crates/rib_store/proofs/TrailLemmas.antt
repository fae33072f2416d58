-- The routes with their paths, through their cases.
use Rattle.std.proofs.Common.{◌≡◌, ℕ, ◌<◌, List, [], ◌∷◌, None, Some, refl, ap, sym, ◌∙◌, arith}
use Rattle.std.specs.declared.option.Option.{Option}
use Rattle.std.specs.FinMap as fin
use Rattle.std.specs.List.{cons_option, filter_map}
use Rattle.std.specs.List.Sorted.{IsStrictlySortedBy}
use Rattle.std.specs.Map.{keys_of}
use Rattle.std.specs.Option.{option_map}
use Rattle.path_model.specs.declared.key.Key.{Key}
use Rattle.path_model.specs.Key.{key_cmp}
use Rattle.path_model.specs.Trail.{Path}
use Rattle.shared_cases.specs.declared.case.StoredCase.{StoredCase}
use Rattle.shared_cases.specs.Cases.{Slots, at}
use Rattle.shared_cases.specs.Grounds.{Grounds}
use Rattle.rib_store.specs.Cased.{Numbered, path_or, through, routes_by, users_of, IsCounted, AreStored}
use Rattle.rib_store.specs.Trails.{trail_at}
use Rattle.rib_store.proofs.CasedLemmas.{through_sorted}
use Rattle.rib_store.proofs.CountedLemmas.{users_positive}
use Rattle.rib_store.proofs.KeyLemmas.{AllFound, all_found, find_lookup, sorted_entries, entries_whole}

module _ (g : Grounds) (routes : Numbered) (cases : Slots) (stored : AreStored g routes cases) where
  -- a key that has a route has a case, and its path
  trail_by : (key : Key) (c : Option StoredCase) (users : ℕ) (rest : List (Key × Path)) → IsCounted c users → 0 < users
      → cons_option (option_map (λ d. (key, d.trail)) c) rest ≡ (key, path_or c) ∷ rest
  trail_by key None users rest counted used = absurd (omega (arith, counted, used))
  trail_by key (Some c) users rest counted used = refl

  trails_by : (es : Numbered) → AllFound routes es → filter_map (trail_at cases) es ≡ through path_or cases es
  trails_by [] found = refl
  trails_by (e ∷ es) found =
      trail_by e.0 (at cases e.1) (users_of routes e.1) (filter_map (trail_at cases) es) (stored.counted e.1) (users_positive routes e.0 e.1 (sym (find_lookup routes e.0) ∙ found.0))
      ∙ ap (λ (rest : List (Key × Path)). (e.0, path_or (at cases e.1)) ∷ rest) (trails_by es found.1)

  pub trails_whole : IsStrictlySortedBy key_cmp (keys_of routes) → filter_map (trail_at cases) routes ≡ fin.entries (routes_by cases routes)
  trails_whole sorted =
      trails_by routes (all_found routes (sorted_entries routes sorted))
      ∙ sym (entries_whole (through path_or cases routes) (through_sorted path_or cases routes sorted))
