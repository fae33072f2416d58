-- A path that is one AS_SEQUENCE and nothing else.
use Rattle.std.proofs.Common.{◌≡◌, ℕ, zero, suc, ◌*◌, ◌<◌, ◌≤◌, Bool, true, false, List, [], ◌∷◌, ◌-◌, length, take, drop, map, slice_index_or, None, refl, sym, ap, subst, ◌∙◌, arith}
use Rattle.std.specs.Prelude.{is_some, unwrap_or}
use Rattle.std.proofs.lemmas.List.{append-nil, take_all}
use Rattle.std.specs.declared.option.Option.{Option}
use Rattle.held_bytes.specs.Units.{Begins}
use Rattle.bgp_attrs.specs.declared.items.Item.TheVariants.{As}
use Rattle.bgp_attrs.specs.declared.pieces.Segments.{Segments}
use Rattle.path_model.specs.Trail.{path_of}
use Rattle.bgp_attrs.specs.Joined.{items_of}
use Rattle.bgp_attrs.specs.Left.{segments_left}
use Rattle.bgp_attrs.specs.Merging.{items_in, has_set, ases_in, path_of_items}
use Rattle.bgp_attrs.specs.Segments.{Segment, IsSegment, numbers_4, ases_of, segment_at}
use Rattle.bgp_attrs.specs.Fixed.{as_width}
use Rattle.bgp_attrs.proofs.JoinedLemmas.{shortens, items-nil, items-none, left-some}
use Rattle.bgp_attrs.proofs.MergingLemmas.{no_set, sequence_ases, plain_short}
use Rattle.bgp_attrs.proofs.SegmentLemmas.{length-ases_of, segment_reader}

-- its first segment is all of it
begins : (wide : Bool) (count : ℕ) (rest : List ℕ) → length rest ≡ as_width wide * count → 0 < count → Begins (IsSegment wide) (2 ∷ count ∷ rest) (2, ases_of wide rest) []
begins wide count rest size some =
    let n : length (ases_of wide rest) ≡ count = length-ases_of wide count rest size in
    record {
      front = 2 ∷ count ∷ rest;
      spelled = record { body = rest; known = refl; some = omega arith; whole = ap (λ (k : ℕ). 2 ∷ k ∷ rest) (sym n); size = size ∙ ap (λ (k : ℕ). as_width wide * k) (sym n); ases = refl };
      whole = sym (append-nil (2 ∷ count ∷ rest));
    }

some_ases : (wide : Bool) (count : ℕ) (rest : List ℕ) → length rest ≡ as_width wide * count → 0 < count → is_some (items_of (segment_at wide) (2 ∷ count ∷ rest)) ≡ true
    → items_in (unwrap_or (items_of (segment_at wide) (2 ∷ count ∷ rest)) []) ≡ map As (ases_of wide rest)
some_ases wide count rest size some whole =
    let first = (segment_reader wide).only (2 ∷ count ∷ rest) (2, ases_of wide rest) [] (begins wide count rest size some) in
    let left = left-some (segment_at wide) (shortens (segment_reader wide)) (2 ∷ count ∷ rest) (2, ases_of wide rest) [] whole first in
    let lone = left ∙ ap (λ (o : Option (List Segment)). (2, ases_of wide rest) ∷ unwrap_or o []) (items-nil (segment_at wide)) in
    ap items_in lone ∙ append-nil (map As (ases_of wide rest))

-- a segment of no AS is none
no_ases : (wide : Bool) (rest : List ℕ) → segment_at wide (2 ∷ 0 ∷ rest) ≡ None
unfolding segment_at
no_ases wide rest = refl

by_count : (wide : Bool) (count : ℕ) (rest : List ℕ) → length rest ≡ as_width wide * count → is_some (items_of (segment_at wide) (2 ∷ count ∷ rest)) ≡ true
    → items_in (unwrap_or (items_of (segment_at wide) (2 ∷ count ∷ rest)) []) ≡ map As (ases_of wide rest)
by_count wide zero rest size whole =
    let none = ap is_some (items-none (segment_at wide) (2 ∷ 0 ∷ rest) (omega arith) (no_ases wide rest)) in
    absurd cc
by_count wide (suc count) rest size whole = some_ases wide (suc count) rest size (omega arith) whole

-- the items of a path that is one AS_SEQUENCE are its ASes
pub sequence_items : (wide : Bool) (count : ℕ) (bytes rest : List ℕ) → bytes ≡ 2 ∷ count ∷ rest → length rest ≡ as_width wide * count → is_some (items_of (segment_at wide) bytes) ≡ true
    → items_in (unwrap_or (items_of (segment_at wide) bytes) []) ≡ map As (ases_of wide rest)
sequence_items wide count bytes rest e size whole =
    ap (λ (bs : List ℕ). items_in (unwrap_or (items_of (segment_at wide) bs) [])) e ∙ by_count wide count rest size (ap (λ (bs : List ℕ). is_some (items_of (segment_at wide) bs)) (sym e) ∙ whole)

-- the path of a sequence
pub sequence_path : (xs : List ℕ) → path_of false xs ≡ path_of_items (map As xs)
sequence_path xs = ap (λ (set : Bool). path_of set xs) (sym (no_set xs)) ∙ ap (λ (ases : List ℕ). path_of (has_set (map As xs)) ases) (sym (sequence_ases xs))

-- it isn't longer than an attribute
pub sequence_short : (path : Segments) (xs : List ℕ) → items_in (segments_left path) ≡ map As xs → length path.rest.now ≤ 65535 → length xs ≤ 65535
sequence_short path xs e short =
    subst (λ (ases : List ℕ). length ases ≤ 65535) (ap ases_in e ∙ sequence_ases xs) (plain_short path short)

-- the same by the places of the bytes
sequence_at : (wide : Bool) (bytes : List ℕ) → 2 ≤ length bytes → slice_index_or bytes 0 0 ≡ 2 → length (take (length bytes - 2) (drop 2 bytes)) ≡ as_width wide * slice_index_or bytes 1 0
    → is_some (items_of (segment_at wide) bytes) ≡ true → items_in (unwrap_or (items_of (segment_at wide) bytes) []) ≡ map As (ases_of wide (take (length bytes - 2) (drop 2 bytes)))
sequence_at wide [] long kind size whole = absurd (omega arith)
sequence_at wide (a ∷ []) long kind size whole = absurd (omega arith)
sequence_at wide (a ∷ count ∷ rest) long kind size whole =
    let all : take (length (a ∷ count ∷ rest) - 2) rest ≡ rest = take_all (length (a ∷ count ∷ rest) - 2) rest (omega arith) in
    sequence_items wide count (a ∷ count ∷ rest) rest (ap (λ (x : ℕ). x ∷ count ∷ rest) kind) (sym (ap length all) ∙ size) whole ∙ ap (λ (xs : List ℕ). map As (ases_of wide xs)) (sym all)

-- the same where the ASes have four bytes
pub sequence_wide : (wide : Bool) (bytes : List ℕ) → wide ≡ true → 2 ≤ length bytes → slice_index_or bytes 0 0 ≡ 2 → length (take (length bytes - 2) (drop 2 bytes)) ≡ 4 * slice_index_or bytes 1 0
    → is_some (items_of (segment_at wide) bytes) ≡ true → items_in (unwrap_or (items_of (segment_at wide) bytes) []) ≡ map As (numbers_4 (take (length bytes - 2) (drop 2 bytes)))
sequence_wide true bytes e long kind size whole = sequence_at true bytes long kind size whole
sequence_wide false bytes e long kind size whole = absurd cc
