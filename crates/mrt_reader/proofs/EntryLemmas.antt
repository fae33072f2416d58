-- The first entry is read exactly where the bytes begin with one.
use Rattle.std.proofs.Common.{◌≡◌, ℕ, Bool, List, ◌++◌, length, Some, refl, sym, ap, subst, ◌∙◌, append_assoc, arith}
use Rattle.std.proofs.lemmas.List.{length-append}
use Rattle.std.proofs.lemmas.Option.{some_pair_parts}
use Rattle.held_bytes.specs.Units.{Begins}
use Rattle.bgp_attrs.specs.Blocks.{IsBlock, block_at}
use Rattle.bgp_attrs.specs.Joined.{IsReader}
use Rattle.bgp_attrs.proofs.BlockLemmas.{block_reader}
use Rattle.bgp_attrs.proofs.FixedLemmas.{and_then_some, and_then_is, three_parts, cut_at, cut_finds, two_finds, two_only, path_finds, path_only}
use Rattle.bgp_attrs.specs.Fixed.{SpellsTwo, SpellsPath, cut, two_at, path_at}
use Rattle.mrt_reader.specs.Readers.{entry_at}
use Rattle.mrt_reader.specs.Ribs.{Entry, IsEntry}

regrouped : (a b c d rest : List ℕ) → (a ++ (b ++ (c ++ d))) ++ rest ≡ a ++ (b ++ (c ++ (d ++ rest)))
regrouped a b c d rest = simp append_assoc

-- four parts, each found in front of what is behind the one before
joined : (bytes a ra b rb c rc d rd rest : List ℕ) → bytes ≡ a ++ ra → ra ≡ b ++ rb → rb ≡ c ++ rc → rc ≡ d ++ rd → rd ≡ rest → bytes ≡ (a ++ (b ++ (c ++ d))) ++ rest
joined bytes a ra b rb c rc d rd rest p q r s t =
    three_parts bytes a ra b rb c (d ++ rest) p q (r ∙ ap (λ (xs : List ℕ). c ++ xs) (s ∙ ap (λ (xs : List ℕ). d ++ xs) t)) ∙ sym (regrouped a b c d rest)

finds : (add_path : Bool) (bytes : List ℕ) (entry : Entry) (rest : List ℕ) → entry_at add_path bytes ≡ Some (entry, rest) → Begins (IsEntry add_path) bytes entry rest
unfolding entry_at
finds add_path bytes entry rest e =
    let a = and_then_some _ (two_at bytes) (entry, rest) e in
    let b = and_then_some _ (cut 4 a.0.1) (entry, rest) a.2 in
    let c = and_then_some _ (path_at add_path b.0.1) (entry, rest) b.2 in
    let d = and_then_some _ (block_at c.0.1) (entry, rest) c.2 in
    let made = some_pair_parts (record { index = a.0.0; path = c.0.0; attributes = d.0.0 }) entry d.0.1 rest d.2 in
    let p1 = two_finds bytes a.0.0 a.0.1 a.1 in
    let p2 = cut_finds 4 a.0.1 b.0 b.1 in
    let p3 = path_finds add_path b.0.1 c.0.0 c.0.1 c.1 in
    let p4 = block_reader.finds c.0.1 d.0.0 d.0.1 d.1 in
    subst (λ (x : Entry). Begins (IsEntry add_path) bytes x rest) made.0 (record {
      front = p1.0 ++ (b.0.0 ++ (p3.0 ++ p4.front));
      spelled = record { index = p1.0; time = b.0.0; identifier = p3.0; block = p4.front; is_index = p1.1; four = p2.0; is_path = p3.1; is_block = p4.spelled; whole = refl };
      whole = joined bytes p1.0 a.0.1 b.0.0 b.0.1 p3.0 c.0.1 p4.front d.0.1 rest p1.2 p2.1 p3.2 p4.whole made.1;
    })

entry_here : (add_path : Bool) (index time identifier block rest : List ℕ) (entry : Entry) → SpellsTwo index entry.index → length time ≡ 4 → SpellsPath add_path identifier entry.path → IsBlock block entry.attributes
    → entry_at add_path (index ++ (time ++ (identifier ++ (block ++ rest)))) ≡ Some (entry, rest)
unfolding entry_at
entry_here add_path index time identifier block rest entry is_index four is_path is_block =
    let r3 = block ++ rest in
    let r2 = identifier ++ r3 in
    let r1 = time ++ r2 in
    let found = Some (entry, rest) in
    and_then_is _ (two_at (index ++ r1)) (entry.index, r1) found (two_only index entry.index r1 is_index)
    (and_then_is _ (cut 4 r1) (time, r2) found (cut_at 4 time r2 four)
    (and_then_is _ (path_at add_path r2) (entry.path, r3) found (path_only add_path identifier entry.path r3 is_path)
    (and_then_is _ (block_at r3) (entry.attributes, rest) found (block_reader.only r3 entry.attributes rest (record { front = block; spelled = is_block; whole = refl })) refl)))

only : (add_path : Bool) (bytes : List ℕ) (entry : Entry) (rest : List ℕ) → Begins (IsEntry add_path) bytes entry rest → entry_at add_path bytes ≡ Some (entry, rest)
only add_path bytes entry rest b =
    let s = b.spelled in
    let bytes-is = b.whole ∙ ap (λ (xs : List ℕ). xs ++ rest) s.whole ∙ regrouped s.index s.time s.identifier s.block rest in
    ap (entry_at add_path) bytes-is ∙ entry_here add_path s.index s.time s.identifier s.block rest entry s.is_index s.four s.is_path s.is_block

pub entry_reader : (add_path : Bool) → IsReader (IsEntry add_path) (entry_at add_path)
entry_reader add_path = record { finds = finds add_path; only = only add_path; some = λ front entry s. omega (arith, s.is_index.0, ap length s.whole, length-append s.index (s.time ++ (s.identifier ++ s.block))) }
