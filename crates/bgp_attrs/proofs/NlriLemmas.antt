-- The first prefix, with its path identifier if each has one, is read exactly where the bytes begin with one.
use Rattle.std.proofs.Common.{◌≡◌, ℕ, ◌<◌, Bool, List, ◌++◌, length, Some, refl, sym, ap, subst, ◌∙◌, append_assoc, arith}
use Rattle.std.proofs.lemmas.List.{length-append}
use Rattle.std.proofs.lemmas.Option.{some_pair_parts}
use Rattle.path_model.specs.declared.nlri.Nlri.{Nlri}
use Rattle.held_bytes.specs.Units.{Begins}
use Rattle.bgp_attrs.specs.Fixed.{SpellsPath, path_at}
use Rattle.bgp_attrs.specs.Joined.{IsReader}
use Rattle.bgp_attrs.specs.Prefixes.{IsPrefix, IsNlri, prefix_at, nlri_at}
use Rattle.bgp_attrs.proofs.FixedLemmas.{and_then_some, and_then_is, path_finds, path_only}
use Rattle.bgp_attrs.proofs.PrefixLemmas.{prefix_reader}

finds : (add_path six : Bool) (bytes : List ℕ) (nlri : Nlri) (rest : List ℕ) → nlri_at add_path six bytes ≡ Some (nlri, rest) → Begins (IsNlri add_path six) bytes nlri rest
unfolding nlri_at
finds add_path six bytes nlri rest e =
    let a = and_then_some _ (path_at add_path bytes) (nlri, rest) e in
    let b = and_then_some _ (prefix_at six a.0.1) (nlri, rest) a.2 in
    let p = some_pair_parts (record { prefix = b.0.0; path = a.0.0 }) nlri b.0.1 rest b.2 in
    let f = path_finds add_path bytes a.0.0 a.0.1 a.1 in
    let g = (prefix_reader six).finds a.0.1 b.0.0 b.0.1 b.1 in
    subst (λ (x : Nlri). Begins (IsNlri add_path six) bytes x rest) p.0 (record {
      front = f.0 ++ g.front;
      spelled = record { identifier = f.0; behind = g.front; path = f.1; prefix = g.spelled; whole = refl };
      whole = f.2 ∙ ap (λ (xs : List ℕ). f.0 ++ xs) (g.whole ∙ ap (λ (xs : List ℕ). g.front ++ xs) p.1) ∙ sym (append_assoc f.0 g.front rest);
    })

only_here : (add_path six : Bool) (identifier behind rest : List ℕ) (nlri : Nlri) → SpellsPath add_path identifier nlri.path → IsPrefix six behind nlri.prefix → nlri_at add_path six (identifier ++ (behind ++ rest)) ≡ Some (nlri, rest)
unfolding nlri_at
only_here add_path six identifier behind rest nlri path prefix =
    and_then_is _ (path_at add_path (identifier ++ (behind ++ rest))) (nlri.path, behind ++ rest) (Some (nlri, rest)) (path_only add_path identifier nlri.path (behind ++ rest) path)
    (and_then_is _ (prefix_at six (behind ++ rest)) (nlri.prefix, rest) (Some (nlri, rest)) ((prefix_reader six).only (behind ++ rest) nlri.prefix rest (record { front = behind; spelled = prefix; whole = refl })) refl)

only : (add_path six : Bool) (bytes : List ℕ) (nlri : Nlri) (rest : List ℕ) → Begins (IsNlri add_path six) bytes nlri rest → nlri_at add_path six bytes ≡ Some (nlri, rest)
only add_path six bytes nlri rest b =
    let s = b.spelled in
    let bytes-is : bytes ≡ s.identifier ++ (s.behind ++ rest) = b.whole ∙ ap (λ (xs : List ℕ). xs ++ rest) s.whole ∙ append_assoc s.identifier s.behind rest in
    ap (nlri_at add_path six) bytes-is ∙ only_here add_path six s.identifier s.behind rest nlri s.path s.prefix

some : (add_path six : Bool) (front : List ℕ) (nlri : Nlri) → IsNlri add_path six front nlri → 0 < length front
some add_path six front nlri s =
    let behind = (prefix_reader six).some s.behind nlri.prefix s.prefix in
    omega (arith, ap length s.whole, length-append s.identifier s.behind)

pub nlri_reader : (add_path six : Bool) → IsReader (IsNlri add_path six) (nlri_at add_path six)
nlri_reader add_path six = record { finds = finds add_path six; only = only add_path six; some = some add_path six }
