-- The stored cases are those of the routes.
use Rattle.std.proofs.Common.{◌≡◌, ℕ, ◌<◌, Bool, List, None, Some, refl, ap, sym, ◌∙◌, arith}
use Rattle.std.specs.declared.option.Option.{Option}
use Rattle.std.specs.BTreeMap.{is_at}
use Rattle.std.specs.List.Sorted.{IsStrictlySortedBy}
use Rattle.std.specs.Map.{lookup, keys_of}
use Rattle.std.specs.Option.{option_map}
use Rattle.path_model.specs.declared.key.Key.{Key}
use Rattle.path_model.specs.declared.verdict.Verdict.{Verdict}
use Rattle.attestations.specs.CurrentTable.{Parts}
use Rattle.path_model.specs.Key.{key_cmp}
use Rattle.path_model.specs.Roles.{Relations}
use Rattle.path_model.specs.Trail.{Path}
use Rattle.shared_cases.specs.declared.case.StoredCase.{StoredCase}
use Rattle.shared_cases.specs.Cases.{Slots, at, AreDistinct, IsStoredAs}
use Rattle.rib_store.specs.Grounds.{grounds}
use Rattle.rib_store.specs.Cased.{Numbered, path_or, users_of, IsCounted, IsOfAs, AreStored}
use Rattle.rib_store.specs.Sharing.{AreCasesOf}
use Rattle.rib_store.proofs.CasedLemmas.{get_through}
use Rattle.rib_store.proofs.CountedLemmas.{users_positive}
use Rattle.rib_store.proofs.RouteLemmas.{state_by}
use Rattle.rib_store.proofs.TouchedLemmas.{has_key, stored_as, stored_path, stored_used}

-- a case that some key has is of its peer's AS and of its path
pub stored_at : (c : Option StoredCase) (users asn : ℕ) (path : Path) → IsCounted c users → 0 < users → IsOfAs c asn → Some (path_or c) ≡ Some path → IsStoredAs c asn path
stored_at None users asn path counted used of_as same = absurd (omega (arith, counted, used))
stored_at (Some c) users asn path counted used of_as same = let e : path_or (Some c) ≡ path = cc in (of_as, e)

module _ (parts : Parts) (relations : Relations) (is_marked : Bool) (routes : Numbered) (cases : Slots) (notes : List (Key × Option Verdict))
    (stored : AreStored (grounds parts relations) routes cases) where
  case_there : (key : Key) (path : Path) (o : Option ℕ) → lookup (is_at (key_cmp key)) routes ≡ o → option_map (λ n. path_or (at cases n)) o ≡ Some path
      → (n : ℕ) × IsStoredAs (at cases n) key.peer.asn path
  case_there key path None is mapped = absurd (let no : ⊥ = cc in no)
  case_there key path (Some n) is mapped =
      (n, stored_at (at cases n) (users_of routes n) key.peer.asn path (stored.counted n) (users_positive routes key n is) (stored.of_peers key n is) mapped)

  pub are_cases : IsStrictlySortedBy key_cmp (keys_of routes) → AreDistinct cases → AreCasesOf (state_by parts relations is_marked cases routes notes) cases
  are_cases sorted distinct = record {
    of_a_route = λ n asn path here.
        let h = has_key routes n sorted (stored_used (at cases n) asn path (users_of routes n) here (stored.counted n)) in (
          h.key,
          stored_as (at cases n) asn h.key.peer.asn path here (stored.of_peers h.key n h.there),
          get_through path_or cases routes h.key ∙ ap (option_map (λ m. path_or (at cases m))) h.there ∙ ap Some (stored_path (at cases n) asn path here),
        );
    of_each_route = λ key path route. case_there key path (lookup (is_at (key_cmp key)) routes) refl (sym (get_through path_or cases routes key) ∙ route);
    apart = distinct;
    judged = stored.judged;
  }
