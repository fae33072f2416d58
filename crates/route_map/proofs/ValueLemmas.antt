-- The values of one peer's routes: those of each kind and family, one after another.
use Rattle.std.proofs.Common.{◌≡◌, List, [], ◌∷◌, ◌++◌, refl, ap, sym, ◌∙◌, append_assoc}
use Rattle.std.specs.declared.cmp.Ordering.TheVariants.{Less}
use Rattle.std.specs.BTreeMap.{insert_entry}
use Rattle.std.specs.List.Sorted.{IsStrictlySortedBy}
use Rattle.std.specs.Map.{keys_of, values_of}
use Rattle.std.proofs.lemmas.List.{map-append}
use Rattle.std.proofs.lemmas.Map.Keys.{sorted_head, sorted_tail}
use Rattle.path_model.specs.declared.nlri.Nlri.{Nlri}
use Rattle.path_model.specs.declared.peer.Peer.{Peer}
use Rattle.path_model.specs.Key.{key_of, nlri_cmp}
use Rattle.route_map.specs.Flat.{of_peer}
use Rattle.route_map.specs.Merged.{merged}
use Rattle.sorted_map.proofs.BlockLemmas.{insert_first, of_keys}

module _ {V : Type 0} where
  -- the values of one list, and then those of another, are those of both
  pub both_pushed : (ws xs ys : List V) (es fs all : List (Nlri × V)) → es ++ fs ≡ all → xs ≡ ws ++ values_of es → ys ≡ xs ++ values_of fs → ys ≡ ws ++ values_of all
  both_pushed ws xs ys es fs all is first second =
      second ∙ ap (λ (vs : List V). vs ++ values_of fs) first ∙ append_assoc ws (values_of es) (values_of fs)
      ∙ ap (λ (vs : List V). ws ++ vs) (sym (map-append (λ (e : Nlri × V). e.1) es fs) ∙ ap values_of is)

  -- where none has a path identifier
  pub merged_with_none : (es fs : List (Nlri × V)) → IsStrictlySortedBy nlri_cmp (keys_of es) → fs ≡ [] → merged es fs ≡ es
  merged_with_none [] fs sorted none = none
  merged_with_none (e ∷ es) fs sorted none =
      ap (λ (gs : List (Nlri × V)). insert_entry nlri_cmp gs e.0 e.1) (merged_with_none es fs (sorted_tail nlri_cmp e.0 (keys_of es) sorted) none)
      ∙ insert_first nlri_cmp e.0 e.1 [] es (of_keys (λ y. nlri_cmp e.0 y ≡ Less) es (sorted_head nlri_cmp e.0 (keys_of es) sorted))

  -- and where each has one
  pub none_merged : (es fs : List (Nlri × V)) → es ≡ [] → merged es fs ≡ fs
  none_merged es fs none = ap (λ (gs : List (Nlri × V)). merged gs fs) none

  -- whole keys have the same values
  pub values_of_peer : (peer : Peer) (es : List (Nlri × V)) → values_of (of_peer peer es) ≡ values_of es
  values_of_peer peer [] = refl
  values_of_peer peer (e ∷ es) = ap (λ (vs : List V). e.1 ∷ vs) (values_of_peer peer es)
