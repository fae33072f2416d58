-- The entries of a map that is made of some in order.
use Rattle.std.proofs.Common.{◌≡◌, Bool, true, false, ◌&&◌, T, List, [], ◌∷◌, length, refl, sym, ap, ◌∙◌, arith}
use Rattle.std.specs.FinMap as fin
use Rattle.std.specs.FinMap.Entries.{below_all, by_order, is_sorted}
use Rattle.std.specs.Cmp.{IsTotalOrder}
use Rattle.std.specs.List.{AllByRecursion}
use Rattle.std.specs.List.Sorted.{IsStrictlySortedBy}
use Rattle.std.specs.Map.{keys_of}
use Rattle.std.specs.Ordering.{is_lt}
use Rattle.std.specs.declared.cmp.Ordering.{Ordering}
use Rattle.std.specs.declared.cmp.Ordering.TheVariants.{Equal, Greater, Less}
use Rattle.std.proofs.lemmas.Map.Keys.{sorted_head, sorted_tail}

-- a key is below all of these
abbrev pub Below : {K : Type 0} → (K → K → Ordering) → K → List K → Type 0
Below R k ks = AllByRecursion (λ y. R k y ≡ Less) ks

module _ {K X : Type 0} {R : K → K → Ordering} (total : IsTotalOrder R) where
  pub put_first : (k : K) (v : X) (es : List (K × X)) → Below R k (keys_of es) → fin.put R k v es ≡ (k, v) ∷ es
  put_first k v [] below = refl
  put_first k v (e ∷ es) below = ap (λ (o : Ordering). by_order o ((k, v) ∷ e ∷ es) ((e.0, v) ∷ es) (e ∷ fin.put R k v es)) below.0

  no_length : (es : List (K × X)) → length es ≡ 0 → es ≡ []
  no_length [] e = refl
  no_length (x ∷ es) e = absurd (omega (arith, e))

  pub none_empty : fin.entries (fin.empty {X = X} {R = R}) ≡ []
  none_empty = no_length (fin.entries (fin.empty {X = X} {R = R})) (sym (fin.len-entries (fin.empty {X = X} {R = R})) ∙ fin.len-empty R X)

  pub entries_whole : (es : List (K × X)) → IsStrictlySortedBy R (keys_of es) → fin.entries (fin.from_entries {R = R} es) ≡ es
  entries_whole [] sorted = none_empty
  entries_whole (e ∷ es) sorted = fin.entries-insert total (fin.from_entries es) e.0 e.1
      ∙ ap (fin.put R e.0 e.1) (entries_whole es (sorted_tail R e.0 (keys_of es) sorted))
      ∙ put_first e.0 e.1 es (sorted_head R e.0 (keys_of es) sorted)

-- ---- an order by a test, and by facts

left_of : (a b : Bool) → T (a && b) → T a
left_of true b p = tt
left_of false b p = p

right_of : (a b : Bool) → T (a && b) → T b
right_of true b p = p
right_of false b p = absurd p

is_less : (o : Ordering) → T (is_lt o) → o ≡ Less
is_less Less h = refl
is_less Equal h = absurd h
is_less Greater h = absurd h

module _ {K X : Type 0} (R : K → K → Ordering) where
  below : (k : K) (es : List (K × X)) → T (below_all R k es) → Below R k (keys_of es)
  below k [] h = tt
  below k (e ∷ es) h = (is_less (R k e.0) (left_of _ _ h), below k es (right_of _ _ h))

  pub in_order : (es : List (K × X)) → T (is_sorted R es) → IsStrictlySortedBy R (keys_of es)
  unfolding IsStrictlySortedBy
  in_order [] h = tt
  in_order (e ∷ es) h = (below e.0 es (left_of _ _ h), in_order es (right_of _ _ h))
