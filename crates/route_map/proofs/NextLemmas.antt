-- The next of one peer's routes: of those without a path identifier or of those with one.
use Rattle.std.proofs.Common.{◌≡◌, List, [], ◌∷◌, length, None, Some, rules, refl, ap, sym, subst, ◌∙◌, true≢false}
use Rattle.std.specs.Borrow.{Bor}
use Rattle.std.specs.Prelude.{is_some}
use Rattle.std.specs.declared.option.Option.{Option}
use Rattle.std.specs.declared.cmp.Ordering.{Ordering}
use Rattle.std.specs.declared.cmp.Ordering.TheVariants.{Less, Equal, Greater}
use Rattle.std.specs.declared.iter.Iterator.{can_next-default}
use Rattle.std.specs.BTreeMap.{insert_entry}
use Rattle.std.specs.Iterator.{MakesProgress, YieldsFirstBy, item_count}
use Rattle.std.specs.List.{AllByRecursion}
use Rattle.std.specs.List.Sorted.{IsStrictlySortedBy}
use Rattle.std.specs.Map.{keys_of}
use Rattle.std.specs.Ordering.{ordering_reverse}
use Rattle.std.proofs.lemmas.Map.Keys.{sorted_head, sorted_tail}
use Rattle.path_model.specs.declared.nlri.Nlri.{Nlri}
use Rattle.path_model.specs.Key.{nlri_cmp}
use Rattle.path_model.specs.Order.{nlri_total}
use Rattle.path_model.proofs.OrderLemmas.{nlri_exact}
use Rattle.route_map.specs.Merged.{first_nlri, merged, AreTwo, FirstIsNotBelow, GivesBelow, IsNotBelow}
use Rattle.sorted_map.proofs.BlockLemmas.{all_more, insert_first, insert_second, of_keys}
use Rattle.route_map.proofs.MergeLemmas.{all_merged}

-- what was given is gone, so there is less left
pub progress : {A B : Type 0} (v : A → B) (old : List B) (r : Option A) (new : List B) → YieldsFirstBy v (λ left. left) old r new
    → MakesProgress (can_next-default (List B) A) (item_count (λ left. left)) old r new
progress v old None new steps = search rules
progress v old (Some x) new steps = let shorter = ap length steps in search rules

module _ {V : Type 0} where
  below_more : (k x : Nlri) (es : List (Nlri × V)) → nlri_cmp k x ≡ Less → AllByRecursion (λ y. nlri_cmp x y ≡ Less) (keys_of es) → AllByRecursion (λ y. nlri_cmp k y ≡ Less) (keys_of es)
  below_more k x es less = all_more (λ y. nlri_cmp x y ≡ Less) (λ y. nlri_cmp k y ≡ Less) (λ y. nlri_total.trans k x y less) (keys_of es)

  below_sorted : (k : Nlri) (f : Nlri × V) (fs : List (Nlri × V)) → nlri_cmp k f.0 ≡ Less → IsStrictlySortedBy nlri_cmp (keys_of (f ∷ fs)) → AllByRecursion (λ e. nlri_cmp k e.0 ≡ Less) (f ∷ fs)
  below_sorted k f fs less sorted = of_keys (λ y. nlri_cmp k y ≡ Less) (f ∷ fs) (less, below_more k f.0 fs less (sorted_head nlri_cmp f.0 (keys_of fs) sorted))

  -- one without an identifier that is below all others
  plain_next : (e : Nlri × V) (es fs : List (Nlri × V)) → IsStrictlySortedBy nlri_cmp (keys_of (e ∷ es)) → AllByRecursion (λ f. nlri_cmp e.0 f.0 ≡ Less) fs → merged (e ∷ es) fs ≡ e ∷ merged es fs
  plain_next e es fs sorted below = insert_first nlri_cmp e.0 e.1 [] (merged es fs)
      (all_merged (λ y. nlri_cmp e.0 y ≡ Less) es fs (of_keys (λ y. nlri_cmp e.0 y ≡ Less) es (sorted_head nlri_cmp e.0 (keys_of es) sorted)) below)

  -- one with an identifier that is
  identified_next : (f : Nlri × V) (es fs : List (Nlri × V)) → AllByRecursion (λ e. nlri_cmp f.0 e.0 ≡ Less) es → merged es (f ∷ fs) ≡ f ∷ merged es fs
  identified_next f [] fs below = refl
  identified_next f (e ∷ es) fs below = ap (λ (gs : List (Nlri × V)). insert_entry nlri_cmp gs e.0 e.1) (identified_next f es fs below.1)
      ∙ insert_second nlri_cmp e.0 e.1 (f ∷ []) (merged es fs) (nlri_total.antisymm e.0 f.0 ∙ ap ordering_reverse below.0, tt)

  plain_alone : (e : Nlri × V) (es : List (Nlri × V)) → AreTwo (e ∷ es) [] → merged (e ∷ es) [] ≡ e ∷ merged es []
  plain_alone e es two = plain_next e es [] two.plain_in_order tt

  plain_first : (e f : Nlri × V) (es fs : List (Nlri × V)) → AreTwo (e ∷ es) (f ∷ fs) → nlri_cmp e.0 f.0 ≡ Less → merged (e ∷ es) (f ∷ fs) ≡ e ∷ merged es (f ∷ fs)
  plain_first e f es fs two less = plain_next e es (f ∷ fs) two.plain_in_order (below_sorted e.0 f fs less two.identified_in_order)

  identified_first : (e f : Nlri × V) (es fs : List (Nlri × V)) → AreTwo (e ∷ es) (f ∷ fs) → (nlri_cmp e.0 f.0 ≡ Less → ⊥) → merged (e ∷ es) (f ∷ fs) ≡ f ∷ merged (e ∷ es) fs
  identified_first e f es fs two behind = identified_next f (e ∷ es) fs (below_sorted f.0 e es (by_order (nlri_cmp e.0 f.0) refl) two.plain_in_order) where
    by_order : (o : Ordering) → nlri_cmp e.0 f.0 ≡ o → nlri_cmp f.0 e.0 ≡ Less
    by_order Less is = absurd (behind is)
    by_order Equal is = absurd (true≢false (sym two.identified.0 ∙ ap (λ (n : Nlri). is_some n.path) (sym (nlri_exact e.0 f.0 is)) ∙ two.plain.0))
    by_order Greater is = nlri_total.antisymm f.0 e.0 ∙ ap ordering_reverse is

  two_after_plain : (e : Nlri × V) (es fs : List (Nlri × V)) → AreTwo (e ∷ es) fs → AreTwo es fs
  two_after_plain e es fs two = record {
    plain = two.plain.1;
    identified = two.identified;
    plain_in_order = sorted_tail nlri_cmp e.0 (keys_of es) two.plain_in_order;
    identified_in_order = two.identified_in_order;
  }

  two_after_identified : (f : Nlri × V) (es fs : List (Nlri × V)) → AreTwo es (f ∷ fs) → AreTwo es fs
  two_after_identified f es fs two = record {
    plain = two.plain;
    identified = two.identified.1;
    plain_in_order = two.plain_in_order;
    identified_in_order = sorted_tail nlri_cmp f.0 (keys_of fs) two.identified_in_order;
  }

  -- ---- as iterators give them
  abbrev Gives : List (Nlri × V) → Option (Nlri × Bor V) → List (Nlri × V) → Type 0
  Gives = YieldsFirstBy (λ e. (e.0, e.1.now)) (λ left. left)

  module _ (es fs : List (Nlri × V)) (two : AreTwo es fs) where
    -- where none with an identifier is left,
    pub alone : first_nlri fs ≡ None → (r : Option (Nlri × Bor V)) (es' : List (Nlri × V)) → Gives es r es' → AreTwo es' fs × Gives (merged es fs) r (merged es' fs)
    alone none r es' gives = by_case fs two none r gives where
      by_case : (gs : List (Nlri × V)) → AreTwo es gs → first_nlri gs ≡ None → (r : Option (Nlri × Bor V)) → Gives es r es' → AreTwo es' gs × Gives (merged es gs) r (merged es' gs)
      by_case [] two none None gives =
          (subst (λ (xs : List (Nlri × V)). AreTwo xs []) (gives.0 ∙ sym gives.1) two, (ap (λ (xs : List (Nlri × V)). merged xs []) gives.0, ap (λ (xs : List (Nlri × V)). merged xs []) gives.1))
      by_case [] two none (Some x) gives =
          let all : AreTwo ((x.0, x.1.now) ∷ es') [] = subst (λ (xs : List (Nlri × V)). AreTwo xs []) gives two in
          (two_after_plain (x.0, x.1.now) es' [] all, ap (λ (xs : List (Nlri × V)). merged xs []) gives ∙ plain_alone (x.0, x.1.now) es' all)
      by_case (g ∷ gs) two none r gives = absurd cc

    -- where one is, and the next without one is below it,
    pub below : (nlri : Nlri) → first_nlri fs ≡ Some nlri → (x : Nlri × Bor V) (es' : List (Nlri × V)) → GivesBelow es nlri es' x
        → AreTwo es' fs × (merged es fs ≡ (x.0, x.1.now) ∷ merged es' fs)
    below nlri some x es' gives = by_case fs all some where
      all : AreTwo ((x.0, x.1.now) ∷ es') fs
      all = subst (λ (xs : List (Nlri × V)). AreTwo xs fs) gives.first two

      by_case : (gs : List (Nlri × V)) → AreTwo ((x.0, x.1.now) ∷ es') gs → first_nlri gs ≡ Some nlri → AreTwo es' gs × (merged es gs ≡ (x.0, x.1.now) ∷ merged es' gs)
      by_case [] all some = absurd cc
      by_case (g ∷ gs) all some =
          let same : nlri ≡ g.0 = cc in (
            two_after_plain (x.0, x.1.now) es' (g ∷ gs) all,
            ap (λ (xs : List (Nlri × V)). merged xs (g ∷ gs)) gives.first
                ∙ plain_first (x.0, x.1.now) g es' gs all (ap (nlri_cmp x.0) (sym same) ∙ gives.below),
          )

    -- and where it isn't
    pub behind : (nlri : Nlri) → first_nlri fs ≡ Some nlri → (es' : List (Nlri × V)) → IsNotBelow es nlri es' → (r : Option (Nlri × Bor V)) (fs' : List (Nlri × V)) → Gives fs r fs'
        → AreTwo es' fs' × Gives (merged es fs) r (merged es' fs')
    behind nlri some es' left None fs' gives = let none : None ≡ Some nlri = sym (ap (λ (xs : List (Nlri × V)). first_nlri xs) gives.0) ∙ some in absurd cc
    behind nlri some es' left (Some x) fs' gives =
        let all : AreTwo es ((x.0, x.1.now) ∷ fs') = subst (AreTwo es) gives two in
        let first : Some x.0 ≡ Some nlri = sym (ap (λ (xs : List (Nlri × V)). first_nlri xs) gives) ∙ some in
        let same : nlri ≡ x.0 = cc in (
          subst (λ (xs : List (Nlri × V)). AreTwo xs fs') (sym left.same) (two_after_identified (x.0, x.1.now) es fs' all),
          ap (merged es) gives ∙ by_case es all (subst (FirstIsNotBelow es) same left.behind) ∙ ap (λ (xs : List (Nlri × V)). (x.0, x.1.now) ∷ merged xs fs') (sym left.same),
        ) where
          by_case : (ds : List (Nlri × V)) → AreTwo ds ((x.0, x.1.now) ∷ fs') → FirstIsNotBelow ds x.0 → merged ds ((x.0, x.1.now) ∷ fs') ≡ (x.0, x.1.now) ∷ merged ds fs'
          by_case [] all none = refl
          by_case (d ∷ ds) all not_below = identified_first d (x.0, x.1.now) ds fs' all not_below
