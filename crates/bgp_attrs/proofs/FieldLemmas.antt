-- The first attribute is read exactly where the bytes begin with one.
use Rattle.std.proofs.Common.{◌≡◌, ℕ, List, [], ◌∷◌, ◌++◌, length, Some, refl, sym, ap, subst, ◌∙◌, append_assoc, arith}
use Rattle.std.proofs.lemmas.Option.{some_pair_parts}
use Rattle.held_bytes.specs.Units.{Begins}
use Rattle.bgp_attrs.specs.Attributes.{Field, is_extended, IsField, field_at}
use Rattle.bgp_attrs.specs.Blocks.{IsLength, length_at}
use Rattle.bgp_attrs.specs.Fixed.{cut}
use Rattle.bgp_attrs.specs.Joined.{IsReader}
use Rattle.bgp_attrs.proofs.BlockLemmas.{length_finds, length_only}
use Rattle.bgp_attrs.proofs.FixedLemmas.{and_then_some, and_then_is, cut_at, cut_finds}

finds : (bytes : List ℕ) (field : Field) (rest : List ℕ) → field_at bytes ≡ Some (field, rest) → Begins IsField bytes field rest
unfolding field_at
finds [] field rest e = absurd cc
finds (flags ∷ []) field rest e = absurd cc
finds (flags ∷ kind ∷ bytes) field rest e =
    let a = and_then_some _ (length_at (is_extended flags) bytes) (field, rest) e in
    let b = and_then_some _ (cut a.0.0 a.0.1) (field, rest) a.2 in
    let content = b.0.0 in
    let p = some_pair_parts (record { kind = kind; content = content }) field b.0.1 rest b.2 in
    let l = length_finds (is_extended flags) bytes a.0.0 a.0.1 a.1 in
    let c = cut_finds a.0.0 a.0.1 b.0 b.1 in
    let joined : bytes ≡ (l.0 ++ content) ++ rest = l.2 ∙ ap (λ (xs : List ℕ). l.0 ++ xs) (c.1 ∙ ap (λ (xs : List ℕ). content ++ xs) p.1) ∙ sym (append_assoc l.0 content rest) in
    subst (λ (x : Field). Begins IsField (flags ∷ kind ∷ bytes) x rest) p.0 (record {
      front = flags ∷ kind ∷ (l.0 ++ content);
      spelled = record { flags = flags; count = l.0; counts = subst (λ (k : ℕ). IsLength (is_extended flags) l.0 k) (sym c.0) l.1; whole = refl };
      whole = ap (λ (xs : List ℕ). flags ∷ kind ∷ xs) joined;
    })

only_here : (flags : ℕ) (field : Field) (count rest : List ℕ) → IsLength (is_extended flags) count (length field.content) → field_at (flags ∷ field.kind ∷ (count ++ (field.content ++ rest))) ≡ Some (field, rest)
unfolding field_at
only_here flags field count rest counts =
    let n = length field.content in
    and_then_is _ (length_at (is_extended flags) (count ++ (field.content ++ rest))) (n, field.content ++ rest) (Some (field, rest)) (length_only (is_extended flags) count n (field.content ++ rest) counts)
    (and_then_is _ (cut n (field.content ++ rest)) (field.content, rest) (Some (field, rest)) (cut_at n field.content rest refl) refl)

only : (bytes : List ℕ) (field : Field) (rest : List ℕ) → Begins IsField bytes field rest → field_at bytes ≡ Some (field, rest)
only bytes field rest b =
    let s = b.spelled in
    let bytes-is : bytes ≡ s.flags ∷ field.kind ∷ (s.count ++ (field.content ++ rest)) = b.whole ∙ ap (λ (xs : List ℕ). xs ++ rest) s.whole ∙ ap (λ (xs : List ℕ). s.flags ∷ field.kind ∷ xs) (append_assoc s.count field.content rest) in
    ap field_at bytes-is ∙ only_here s.flags field s.count rest s.counts

pub field_reader : IsReader IsField field_at
field_reader = record { finds = finds; only = only; some = λ front field s. omega (arith, ap length s.whole) }
