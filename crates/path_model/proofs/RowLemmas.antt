-- Rows stay sets, and what was gathered becomes rows customer by customer.
use Rattle.std.proofs.Common.{◌≡◌, ℕ, Bool, true, false, List, [], ◌∷◌, None, Some, refl, ap, sym, ◌∙◌, subst, cond, Less, arith}
use Rattle.std.specs.declared.option.Option.{Option}
use Rattle.std.specs.Ordering.{nat_cmp}
use Rattle.std.specs.BTreeMap.{is_at}
use Rattle.std.specs.Cmp.{nat_cmp_total}
use Rattle.std.specs.Map.{lookup, keys_of}
use Rattle.std.specs.List.{AllByRecursion}
use Rattle.std.specs.List.Sorted.{IsStrictlySortedBy, IsStrictlyIncreasing}
use Rattle.std.specs.FinMap as map
use Rattle.std.proofs.lemmas.Bool.Decides.{nat_tests}
use Rattle.path_model.specs.Sets.{IsSetOf}
use Rattle.path_model.specs.Rows.{RowMap, PatchMap, HaveSets, PatchHasSets, SetsRow, IsRowOf, AreSetsOf}
use Rattle.path_model.proofs.MapLemmas.{get_rows}

some_same : {X : Type 0} {x y : X} → Some x ≡ Some y → x ≡ y
some_same e = cc

none_some : {X : Type 0} {x : X} → None ≡ Some x → ⊥
none_some e = cc

-- ---- sets

pub sets_empty : HaveSets map.empty
sets_empty = record { ascending = λ q row e. absurd (none_some (sym (map.get-empty nat_cmp q) ∙ e)) }

one_set : (b : Bool) (set row : List ℕ) (other : Option (List ℕ)) → IsStrictlyIncreasing set → (other ≡ Some row → IsStrictlyIncreasing row) → cond b (Some set) other ≡ Some row → IsStrictlyIncreasing row
one_set true set row other ascending others e = subst (λ (xs : List ℕ). IsStrictlyIncreasing xs) (some_same e) ascending
one_set false set row other ascending others e = others e

pub sets_inserted : (rows : RowMap) (k : ℕ) (set : List ℕ) → HaveSets rows → IsStrictlyIncreasing set → HaveSets (map.insert rows k set)
sets_inserted rows k set sets ascending = record {
  ascending = λ q row e. one_set (is_at (nat_cmp q) k) set row (map.get rows q) ascending (sets.ascending q row) (sym (map.get-insert nat_cmp_total rows k set q) ∙ e);
}

one_gone : (b : Bool) (row : List ℕ) (other : Option (List ℕ)) → (other ≡ Some row → IsStrictlyIncreasing row) → cond b None other ≡ Some row → IsStrictlyIncreasing row
one_gone true row other others e = absurd (none_some e)
one_gone false row other others e = others e

pub sets_removed : (rows : RowMap) (k : ℕ) → HaveSets rows → HaveSets (map.remove rows k)
sets_removed rows k sets = record {
  ascending = λ q row e. one_gone (is_at (nat_cmp q) k) row (map.get rows q) (sets.ascending q row) (sym (map.get-remove nat_cmp_total rows k q) ∙ e);
}

-- ---- sets of patches

pub patch_empty : PatchHasSets map.empty
patch_empty = record { ascending = λ q row e. absurd (none_some (sym (map.get-empty nat_cmp q) ∙ e)) }

one_patched : (b : Bool) (given set : Option (List ℕ)) (row : List ℕ) (other : Option (Option (List ℕ))) → IsRowOf given set → (other ≡ Some (Some row) → IsStrictlyIncreasing row)
    → cond b (Some set) other ≡ Some (Some row) → IsStrictlyIncreasing row
one_patched true None None row other is others e = absurd (none_some (some_same e))
one_patched true None (Some set) row other is others e = absurd is
one_patched true (Some list) None row other is others e = absurd is
one_patched true (Some list) (Some set) row other is others e = subst (λ (xs : List ℕ). IsStrictlyIncreasing xs) (some_same (some_same e)) is.ascending
one_patched false given set row other is others e = others e

pub patch_inserted : (patch : PatchMap) (k : ℕ) (given set : Option (List ℕ)) → PatchHasSets patch → IsRowOf given set → PatchHasSets (map.insert patch k set)
patch_inserted patch k given set sets is = record {
  ascending = λ q row e. one_patched (is_at (nat_cmp q) k) given set row (map.get patch q) is (sets.ascending q row) (sym (map.get-insert nat_cmp_total patch k set q) ∙ e);
}

-- ---- from what was gathered to rows

abbrev pub find : ℕ → List (ℕ × List ℕ) → Option (List ℕ)
find q es = lookup (is_at (nat_cmp q)) es

-- the rows so far are those of the customers that aren't left
pub record Normal (entries left : List (ℕ × List ℕ)) (rows : RowMap) : Type 0 where
  pub sorted : IsStrictlySortedBy nat_cmp (keys_of left)
  pub told : (q : ℕ) (xs : List ℕ) → find q left ≡ Some xs → find q entries ≡ Some xs
  pub done : (q : ℕ) → find q left ≡ None → IsRowOf (find q entries) (map.get rows q)

-- a customer below all the others isn't among them
absent : (k : ℕ) (es : List (ℕ × List ℕ)) → AllByRecursion (λ y. nat_cmp k y ≡ Less) (keys_of es) → find k es ≡ None
absent k [] h = refl
absent k (e ∷ es) h = rw h.0 (absent k es h.1)

same_key : (q k : ℕ) → is_at (nat_cmp q) k ≡ true → q ≡ k
same_key q k e = grind (arith, nat_tests)

told_next : (entries left : List (ℕ × List ℕ)) (k : ℕ) (xs : List ℕ) (b : Bool) (q : ℕ) → is_at (nat_cmp q) k ≡ b → (q ≡ k → find q left ≡ None) → (ys : List ℕ) → find q left ≡ Some ys
    → ((zs : List ℕ) → cond b (Some xs) (find q left) ≡ Some zs → find q entries ≡ Some zs) → find q entries ≡ Some ys
told_next entries left k xs true q is apart ys h told = absurd (none_some (sym (apart (same_key q k is)) ∙ h))
told_next entries left k xs false q is apart ys h told = told ys h

done_next : (entries left : List (ℕ × List ℕ)) (rows : RowMap) (k : ℕ) (xs set : List ℕ) (b : Bool) (q : ℕ) → IsSetOf xs set → ((zs : List ℕ) → cond b (Some xs) (find q left) ≡ Some zs → find q entries ≡ Some zs)
    → (cond b (Some xs) (find q left) ≡ None → IsRowOf (find q entries) (map.get rows q)) → find q left ≡ None → IsRowOf (find q entries) (cond b (Some set) (map.get rows q))
done_next entries left rows k xs set true q is told done h = rw (told xs refl) is
done_next entries left rows k xs set false q is told done h = done h

pub normal_start : (entries : List (ℕ × List ℕ)) (rows : RowMap) → IsStrictlySortedBy nat_cmp (keys_of entries) → rows ≡ map.empty → Normal entries entries rows
normal_start entries rows sorted none = record { sorted = sorted; told = λ q xs h. h; done = λ q h. rw (h, none, map.get-empty nat_cmp q) tt }

pub normal_next : (entries left : List (ℕ × List ℕ)) (rows now : RowMap) (k : ℕ) (xs : List ℕ) → Normal entries ((k, xs) ∷ left) rows → SetsRow rows k xs now → Normal entries left now
unfolding IsStrictlySortedBy
normal_next entries left rows now k xs n sets = record {
  sorted = n.sorted.1;
  told = λ q ys h. told_next entries left k xs (is_at (nat_cmp q) k) q refl (λ same. rw same (absent k left n.sorted.0)) ys h (n.told q);
  done = λ q h. subst (λ (o : Option (List ℕ)). IsRowOf (find q entries) o) (sym (ap (λ (m : RowMap). map.get m q) sets.whole ∙ map.get-insert nat_cmp_total rows k sets.row q))
      (done_next entries left rows k xs sets.row (is_at (nat_cmp q) k) q sets.is_set (n.told q) (n.done q) h);
}

pub normal_end : (entries : List (ℕ × List ℕ)) (gathered rows : RowMap) → map.from_entries entries ≡ gathered → Normal entries [] rows → AreSetsOf gathered rows
normal_end entries gathered rows e n = λ q. subst (λ (o : Option (List ℕ)). IsRowOf o (map.get rows q)) (sym (get_rows entries q) ∙ ap (λ (m : RowMap). map.get m q) e) (n.done q refl)
