-- The routes with the numbers of their cases, and how many routes each case has.
use Rattle.std.proofs.Common.{◌≡◌, ℕ, List, [], ◌∷◌, refl, ap, sym, ◌∙◌}
use Rattle.std.specs.Prelude.{map, All, Some}
use Rattle.std.specs.declared.option.Option.{Option}
use Rattle.std.specs.declared.option.Option.TheVariants.{None}
use Rattle.std.specs.BTreeMap.{is_at}
use Rattle.std.specs.List.Sorted.{IsStrictlySortedBy}
use Rattle.std.specs.Map.{lookup, keys_of}
use Rattle.std.specs.Option.{option_map}
use Rattle.std.proofs.lemmas.List.Elements.{All-nil, All-cons}
use Rattle.path_model.specs.declared.key.Key.{Key}
use Rattle.attestations.specs.CurrentTable.{Parts}
use Rattle.path_model.specs.Key.{key_cmp}
use Rattle.path_model.specs.Roles.{Relations}
use Rattle.path_model.specs.Trail.{Path}
use Rattle.shared_cases.specs.declared.case.StoredCase.{StoredCase}
use Rattle.shared_cases.specs.Cases.{Slots, at, AreDistinct}
use Rattle.rib_store.specs.Grounds.{grounds}
use Rattle.rib_store.specs.Cased.{Numbered, path_or, through, routes_by, users_of, AreStored}
use Rattle.rib_store.specs.Numbered.{IsNumberOf, AreNumbered}
use Rattle.rib_store.specs.Sharing.{CountsItsRoutes, CountTheirRoutes}
use Rattle.rib_store.specs.State.{State, Marked}
use Rattle.rib_store.proofs.CasedLemmas.{get_through, through_sorted}
use Rattle.rib_store.proofs.CountedLemmas.{users_positive}
use Rattle.rib_store.proofs.KeyLemmas.{AllFound, all_found, find_lookup, sorted_entries, entries_whole}
use Rattle.rib_store.proofs.PairLemmas.{users_counted}
use Rattle.rib_store.proofs.SharingLemmas.{stored_at}

module _ (parts : Parts) (relations : Relations) (routes : Numbered) (cases : Slots) (marked : Marked) (stored : AreStored (grounds parts relations) routes cases) where
  abbrev state_here : State
  state_here = record { parts = parts; roles = relations; routes = routes_by cases routes; marked = marked }

  number_of : (key : Key) (n : ℕ) → lookup (is_at (key_cmp key)) routes ≡ Some n → IsNumberOf state_here cases key n
  number_of key n here = record {
    path = path_or (at cases n);
    route = get_through path_or cases routes key ∙ ap (option_map (λ m. path_or (at cases m))) here;
    stored = stored_at (at cases n) (users_of routes n) key.peer.asn (path_or (at cases n)) (stored.counted n) (users_positive routes key n here) (stored.of_peers key n here) refl;
  }

  each_by : (es : Numbered) → AllFound routes es → All (λ (e : Key × ℕ). IsNumberOf state_here cases e.0 e.1) es
  each_by [] found = All-nil (λ (e : Key × ℕ). IsNumberOf state_here cases e.0 e.1)
  each_by (e ∷ es) found =
      All-cons (λ (f : Key × ℕ). IsNumberOf state_here cases f.0 f.1) e es (number_of e.0 e.1 (sym (find_lookup routes e.0) ∙ found.0)) (each_by es found.1)

  keys_by : (es : Numbered) → map (λ (e : Key × ℕ). e.0) es ≡ map (λ (e : Key × Path). e.0) (through path_or cases es)
  keys_by [] = refl
  keys_by (e ∷ es) = ap (λ (ks : List Key). e.0 ∷ ks) (keys_by es)

  module _ (sorted : IsStrictlySortedBy key_cmp (keys_of routes)) where
    pub are_numbered : AreNumbered state_here cases routes
    are_numbered = record {
      keys = keys_by routes ∙ ap (map (λ (e : Key × Path). e.0)) (sym (entries_whole (through path_or cases routes) (through_sorted path_or cases routes sorted)));
      each = each_by routes (all_found routes (sorted_entries routes sorted));
    }

    module _ (distinct : AreDistinct cases) where
      counts_by : (n : ℕ) (c : Option StoredCase) → at cases n ≡ c → CountsItsRoutes (routes_by cases routes) c
      counts_by n None here = tt
      counts_by n (Some c) here = users_counted parts relations routes cases stored distinct sorted marked n c here

      pub count_theirs : CountTheirRoutes (routes_by cases routes) cases
      count_theirs n = counts_by n (at cases n) refl
