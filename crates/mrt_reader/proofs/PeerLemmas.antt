-- Peers one after another.
use Rattle.std.proofs.Common.{◌≡◌, ℕ, ◌<◌, ◌≤◌, List, [], ◌∷◌, ◌++◌, length, Some, None, refl, sym, ap, ◌∙◌, append_assoc, arith}
use Rattle.std.specs.Prelude.{option_map}
use Rattle.std.specs.declared.option.Option.{Option}
use Rattle.std.proofs.lemmas.List.{append-nil}
use Rattle.bgp_attrs.specs.Joined.{items_of}
use Rattle.bgp_attrs.proofs.JoinedLemmas.{Shortens, shortens, items-nil, items-none, items-step}
use Rattle.mrt_reader.specs.Readers.{peer_at}
use Rattle.mrt_reader.proofs.TableLemmas.{peer_reader}

-- what was read before, and what is still read
abbrev pub with_front : {A : Type 0} → List A → Option (List A) → Option (List A)
with_front front items = option_map (λ xs. front ++ xs) items

pub front-step : {A : Type 0} (first : List ℕ → Option (A × List ℕ)) → Shortens first → (front : List A) (bytes : List ℕ) (item : A) (rest : List ℕ) → first bytes ≡ Some (item, rest)
    → with_front (front ++ item ∷ []) (items_of first rest) ≡ with_front front (items_of first bytes)
front-step {A} first short front bytes item rest e = mapped (items_of first rest) ∙ sym (ap (with_front front) (items-step first short bytes item rest e))
  where
    mapped : (o : Option (List A)) → with_front (front ++ item ∷ []) o ≡ with_front front (option_map (λ (xs : List A). item ∷ xs) o)
    mapped None = refl
    mapped (Some xs) = ap Some (append_assoc front (item ∷ []) xs)

pub front-end : {A : Type 0} (first : List ℕ → Option (A × List ℕ)) (front : List A) (bytes rest : List ℕ) → length rest ≤ 0 → with_front front (items_of first rest) ≡ with_front [] (items_of first bytes) → items_of first bytes ≡ Some front
front-end {A} first front bytes [] empty same = same_front (items_of first bytes) ∙ sym same ∙ ap (with_front front) (items-nil first) ∙ ap Some (append-nil front)
  where
    same_front : (o : Option (List A)) → o ≡ with_front [] o
    same_front None = refl
    same_front (Some xs) = refl
front-end first front bytes (b ∷ rest) empty same = absurd (omega arith)

none_front : {A : Type 0} (o : Option (List A)) → with_front [] o ≡ None → o ≡ None
none_front None e = refl
none_front (Some xs) e = absurd cc

pub front-none : {A : Type 0} (first : List ℕ → Option (A × List ℕ)) (front : List A) (bytes rest : List ℕ) → 0 < length rest → first rest ≡ None → with_front front (items_of first rest) ≡ with_front [] (items_of first bytes) → items_of first bytes ≡ None
front-none first front bytes rest some none same = none_front (items_of first bytes) (sym same ∙ ap (with_front front) (items-none first rest some none))

pub peer_shortens : Shortens peer_at
peer_shortens = shortens peer_reader
