-- The first block is read exactly where the bytes begin with one.
use Rattle.std.proofs.Common.{◌≡◌, ℕ, Bool, true, false, List, [], ◌∷◌, ◌++◌, length, Some, refl, sym, ap, subst, ◌∙◌, append_assoc, arith}
use Rattle.std.proofs.lemmas.List.{length-append}
use Rattle.held_bytes.specs.Units.{Begins}
use Rattle.bgp_attrs.specs.Blocks.{IsLength, IsBlock, length_at, block_at}
use Rattle.bgp_attrs.specs.Fixed.{two_at, cut}
use Rattle.bgp_attrs.specs.Joined.{IsReader}
use Rattle.bgp_attrs.proofs.FixedLemmas.{Front, and_then_some, and_then_is, cut_at, cut_finds, byte_finds, two_finds, two_only}

pub length_finds : (extended : Bool) (bytes : List ℕ) (n : ℕ) (rest : List ℕ) → length_at extended bytes ≡ Some (n, rest) → Front (λ count. IsLength extended count n) bytes rest
length_finds true bytes n rest e = two_finds bytes n rest e
length_finds false bytes n rest e = (n ∷ [], refl, byte_finds bytes n rest e)

pub length_only : (extended : Bool) (count : List ℕ) (n : ℕ) (rest : List ℕ) → IsLength extended count n → length_at extended (count ++ rest) ≡ Some (n, rest)
length_only true count n rest h = two_only count n rest h
length_only false count n rest h = ap (λ (bytes : List ℕ). length_at false (bytes ++ rest)) h

finds : (bytes : List ℕ) (block : List ℕ) (rest : List ℕ) → block_at bytes ≡ Some (block, rest) → Begins IsBlock bytes block rest
unfolding block_at
finds bytes block rest e =
    let a = and_then_some (λ (count : ℕ × List ℕ). cut count.0 count.1) (two_at bytes) (block, rest) e in
    let f = two_finds bytes a.0.0 a.0.1 a.1 in
    let c = cut_finds a.0.0 a.0.1 (block, rest) a.2 in
    record {
      front = f.0 ++ block;
      spelled = record { count = f.0; counts = subst (λ (k : ℕ). IsLength true f.0 k) (sym c.0) f.1; whole = refl };
      whole = f.2 ∙ ap (λ (xs : List ℕ). f.0 ++ xs) c.1 ∙ sym (append_assoc f.0 block rest);
    }

only : (bytes : List ℕ) (block : List ℕ) (rest : List ℕ) → Begins IsBlock bytes block rest → block_at bytes ≡ Some (block, rest)
unfolding block_at
only bytes block rest b =
    let s = b.spelled in
    let bytes-is : bytes ≡ s.count ++ (block ++ rest) = b.whole ∙ ap (λ (xs : List ℕ). xs ++ rest) s.whole ∙ append_assoc s.count block rest in
    let counted = ap two_at bytes-is ∙ two_only s.count (length block) (block ++ rest) s.counts in
    and_then_is (λ (count : ℕ × List ℕ). cut count.0 count.1) (two_at bytes) (length block, block ++ rest) (Some (block, rest)) counted (cut_at (length block) block rest refl)

pub block_reader : IsReader IsBlock block_at
block_reader = record { finds = finds; only = only; some = λ front block s. omega (arith, s.counts.0, ap length s.whole, length-append s.count block) }
