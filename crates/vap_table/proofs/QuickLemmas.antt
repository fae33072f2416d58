-- Rows in one list of numbers, as it grows.
use Rattle.std.proofs.Common.{◌≡◌, ℕ, ◌+◌, nat_cmp, Bool, true, false, cond, List, [], ◌∷◌, ◌++◌, length, take, drop, get_or, None, Some, refl, ap, sym, subst, ◌∙◌, append_assoc, arith}
use Rattle.std.specs.Prelude.{option_map}
use Rattle.std.specs.declared.option.Option.{Option}
use Rattle.std.specs.BTreeMap.{is_at}
use Rattle.std.specs.Cmp.{nat_eq_equiv, unsigned_tied, nat_cmp_total}
use Rattle.std.specs.FinMap as map
use Rattle.std.proofs.Math.ListN.{get_or-append}
use Rattle.std.proofs.Math.Seq.{drop-append-add, get_or-append_seam, take-length}
use Rattle.std.proofs.lemmas.List.{drop-append-le, length-append, length-drop, take-append-le}
use Rattle.std.proofs.lemmas.Bool.Decides.{nat_tests}
use Rattle.std.proofs.lemmas.Option.{same_Some}
use Rattle.vap_table.specs.Filter.{is_marked}
use Rattle.vap_table.specs.Quick.{Places, Quick, row_at, quick_row, IsWithin, AreWithin, AreMarked, AreHeld}

-- ---- words that come behind the others

module _ (words more : List ℕ) (place : ℕ) (within : IsWithin words place) where
  same_len : get_or (words ++ more) place 0 ≡ get_or words place 0
  same_len = get_or-append words more 0 place (omega (arith, within))

  row_within : IsWithin (words ++ more) place
  row_within = omega (arith, within, same_len, length-append words more)

  same_row : row_at (words ++ more) place ≡ row_at words place
  same_row =
      ap (λ (n : ℕ). take n (drop (place + 1) (words ++ more))) same_len
      ∙ ap (take (get_or words place 0)) (drop-append-le (place + 1) words more (omega (arith, within)))
      ∙ take-append-le (get_or words place 0) (drop (place + 1) words) more (omega (arith, within, length-drop (place + 1) words))

-- what was marked still is
abbrev pub Keeps : List ℕ → List ℕ → Type 0
Keeps marks marks' = (q : ℕ) → is_marked marks q ≡ true → is_marked marks' q ≡ true

pub all_held : (places : Places) (words more marks marks' : List ℕ) → Keeps marks marks' → AreHeld places words marks → AreHeld places (words ++ more) marks'
all_held places words more marks marks' kept held = record { within = λ x place there. row_within words more place (held.within x place there); marked = λ x place there. kept x (held.marked x place there) }

still_at : (words more : List ℕ) (o : Option ℕ) → ((place : ℕ) → o ≡ Some place → IsWithin words place) → option_map (row_at (words ++ more)) o ≡ option_map (row_at words) o
still_at words more None within = refl
still_at words more (Some place) within = ap Some (same_row words more place (within place refl))

-- ---- a customer's row

turned : (x q : ℕ) → is_at (nat_cmp q) x ≡ is_at (nat_cmp x) q
turned x q = unsigned_tied q x ∙ nat_eq_equiv.symm q x ∙ sym (unsigned_tied x q)

module _ (places : Places) (words : List ℕ) (x : ℕ) (row : List ℕ) (within : AreWithin places words) where
  abbrev longer : List ℕ
  longer = words ++ length row ∷ row

  row_here : row_at longer (length words) ≡ row
  row_here =
      ap (λ (n : ℕ). take n (drop (length words + 1) longer)) (get_or-append_seam words (length row) row 0)
      ∙ ap (take (length row)) (drop-append-add words (length row ∷ row) 1)
      ∙ take-length row

  here_within : IsWithin longer (length words)
  here_within = omega (arith, get_or-append_seam words (length row) row 0, length-append words (length row ∷ row))

  put_row : (q : ℕ) → quick_row (map.insert places x (length words), longer) q ≡ cond (is_at (nat_cmp x) q) (Some row) (quick_row (places, words) q)
  put_row q =
      ap (option_map (row_at longer)) (map.get-insert nat_cmp_total places x (length words) q) ∙ ap (λ (b : Bool). option_map (row_at longer) (cond b (Some (length words)) (map.get places q))) (turned x q)
      ∙ by_case (is_at (nat_cmp x) q) where
        by_case : (b : Bool) → option_map (row_at longer) (cond b (Some (length words)) (map.get places q)) ≡ cond b (Some row) (quick_row (places, words) q)
        by_case true = ap Some row_here
        by_case false = still_at words (length row ∷ row) (map.get places q) (within q)

  put_at : (b : Bool) (q place : ℕ) → cond b (Some (length words)) (map.get places q) ≡ Some place → IsWithin longer place
  put_at true q place e = subst (IsWithin longer) (same_Some (length words) place e) here_within
  put_at false q place e = row_within words (length row ∷ row) place (within q place e)

  put_within : AreWithin (map.insert places x (length words)) longer
  put_within q place e = put_at (is_at (nat_cmp q) x) q place (sym (map.get-insert nat_cmp_total places x (length words) q) ∙ e)

marked_at : (places : Places) (marks : List ℕ) (x at : ℕ) → AreMarked places marks → is_marked marks x ≡ true
    → (b : Bool) (q place : ℕ) → is_at (nat_cmp q) x ≡ b → cond b (Some at) (map.get places q) ≡ Some place → is_marked marks q ≡ true
marked_at places marks x at marked here true q place same e = subst (λ (n : ℕ). is_marked marks n ≡ true) (grind (arith, nat_tests, unsigned_tied q x, same)) here
marked_at places marks x at marked here false q place same e = marked q place e

put_marked : (places : Places) (marks : List ℕ) (x at : ℕ) → AreMarked places marks → is_marked marks x ≡ true → AreMarked (map.insert places x at) marks
put_marked places marks x at marked here q place e = marked_at places marks x at marked here (is_at (nat_cmp q) x) q place refl (sym (map.get-insert nat_cmp_total places x at q) ∙ e)

-- the same by what the calls that lengthen the list say
module _ (places places' : Places) (words words' row : List ℕ) (x place len : ℕ) (within : AreWithin places words) (at_end : place ≡ length words) (counted : len ≡ length row)
    (put : places' ≡ map.insert places x place) (lengthened : words' ≡ (words ++ len ∷ []) ++ row) where
  whole : ◌≡◌ {A = Quick} (places', words') (map.insert places x (length words), words ++ length row ∷ row)
  whole i = ((put ∙ ap (map.insert places x) at_end) i, (lengthened ∙ append_assoc words (len ∷ []) row ∙ ap (λ (n : ℕ). words ++ n ∷ row) counted) i)

  pub all_put : (q : ℕ) → quick_row (places', words') q ≡ cond (is_at (nat_cmp x) q) (Some row) (quick_row (places, words) q)
  all_put q = ap (λ (quick : Quick). quick_row quick q) whole ∙ put_row places words x row within q

  pub all_put_held : (marks : List ℕ) → AreMarked places marks → is_marked marks x ≡ true → AreHeld places' words' marks
  all_put_held marks marked here = subst (λ (quick : Quick). AreHeld quick.0 quick.1 marks) (sym whole)
      (record { within = put_within places words x row within; marked = put_marked places marks x (length words) marked here })

pub removed_row : (places : Places) (words : List ℕ) (x q : ℕ) → quick_row (map.remove places x, words) q ≡ cond (is_at (nat_cmp x) q) None (quick_row (places, words) q)
removed_row places words x q =
    ap (option_map (row_at words)) (map.get-remove nat_cmp_total places x q) ∙ ap (λ (b : Bool). option_map (row_at words) (cond b None (map.get places q))) (turned x q)
    ∙ by_case (is_at (nat_cmp x) q) where
      by_case : (b : Bool) → option_map (row_at words) (cond b None (map.get places q)) ≡ cond b None (quick_row (places, words) q)
      by_case true = refl
      by_case false = refl

left_at : (places : Places) (b : Bool) (q place : ℕ) → cond b None (map.get places q) ≡ Some place → map.get places q ≡ Some place
left_at places true q place e = absurd cc
left_at places false q place e = e

pub removed_held : (places : Places) (words marks : List ℕ) (x : ℕ) → AreHeld places words marks → AreHeld (map.remove places x) words marks
removed_held places words marks x held = record { within = λ q place e. held.within q place (left q place e); marked = λ q place e. held.marked q place (left q place e) } where
  left : (q place : ℕ) → map.get (map.remove places x) q ≡ Some place → map.get places q ≡ Some place
  left q place e = left_at places (is_at (nat_cmp q) x) q place (sym (map.get-remove nat_cmp_total places x q) ∙ e)
