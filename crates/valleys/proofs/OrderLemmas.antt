-- The order of valleys tells different ones apart, and sorted lists without repeats have the same members.
use Rattle.std.proofs.Common.{◌≡◌, ◌↔◌, true, List, [], refl, ap, sym, subst}
use Rattle.std.specs.Cmp.{Equal-is, eq_by_cmp_equiv}
use Rattle.std.specs.List.{Contains}
use Rattle.std.specs.List.Retain.{IsFiltered, DiffersFromLast}
use Rattle.std.specs.List.Sorted.{IsPermutation, IsSorted, IsStrictlySortedBy}
use Rattle.std.specs.Ordering.{nat_cmp, ordering_then, eq_by_cmp}
use Rattle.std.specs.declared.cmp.Ordering.{Ordering}
use Rattle.std.specs.declared.cmp.Ordering.TheVariants.{Less, Equal, Greater}
use Rattle.std.specs.declared.option.Option.TheVariants.{Some, None}
use Rattle.std.proofs.lemmas.List.Filters.{dedup_is}
use Rattle.std.proofs.lemmas.List.Kept.{Contains-dedup, Contains-from_dedup, IsStrictlySortedBy-dedup}
use Rattle.std.proofs.lemmas.List.Sorted.{Contains-permutation, IsPermutation-sym}
use Rattle.std.proofs.lemmas.Map.Lookups.{CmpEqualImpliesEq, exact_unsigned}
use Rattle.valleys.specs.declared.valley.Valley.{Valley}
use Rattle.valleys.specs.Order.{to_cmp, valley_cmp, valley_total}

-- where one order after another finds no difference, neither does
both_equal : (a b : Ordering) → ordering_then a b ≡ Equal → (a ≡ Equal) × (b ≡ Equal)
both_equal Less b e = absurd cc
both_equal Equal b e = (refl, e)
both_equal Greater b e = absurd cc

to_exact : CmpEqualImpliesEq to_cmp
to_exact None None e = refl
to_exact None (Some y) e = absurd cc
to_exact (Some x) None e = absurd cc
to_exact (Some x) (Some y) e = ap Some (exact_unsigned x y e)

pub valley_exact : CmpEqualImpliesEq valley_cmp
valley_exact a b e =
    let one = both_equal (nat_cmp a.from b.from) _ e in
    let two = both_equal (nat_cmp a.first b.first) _ one.1 in
    let three = both_equal (nat_cmp a.last b.last) _ two.1 in
    let from = exact_unsigned a.from b.from one.0 in
    let first = exact_unsigned a.first b.first two.0 in
    let last = exact_unsigned a.last b.last three.0 in
    let to = to_exact a.to b.to three.1 in
    λ i. record { from = from i; first = first i; last = last i; to = to i }

-- two valleys that count as the same are one
same_valley : (a b : Valley) → eq_by_cmp valley_cmp a b ≡ true → a ≡ b
same_valley a b e = valley_exact a b ((Equal-is (valley_cmp a b)).0 e)

-- a list that was sorted, and then rid of repeats, strictly rises
pub rising : (ys zs : List Valley) → IsSorted valley_cmp ys → IsFiltered (DiffersFromLast (eq_by_cmp valley_cmp)) [] ys zs
    → IsStrictlySortedBy valley_cmp zs
rising ys zs sorted filtered =
    subst (IsStrictlySortedBy valley_cmp) (sym (dedup_is (eq_by_cmp valley_cmp) ys zs filtered)) (IsStrictlySortedBy-dedup valley_total (λ x y. refl) ys sorted)

-- and has the same members
pub same_members : (xs ys zs : List Valley) → IsPermutation xs ys → IsFiltered (DiffersFromLast (eq_by_cmp valley_cmp)) [] ys zs → (v : Valley)
    → Contains zs v ↔ Contains xs v
same_members xs ys zs moved filtered v =
    let is = dedup_is (eq_by_cmp valley_cmp) ys zs filtered in (
      (λ h. Contains-permutation ys xs v (IsPermutation-sym xs ys moved) (Contains-from_dedup (eq_by_cmp valley_cmp) ys v (subst (λ (l : List Valley). Contains l v) is h))),
      λ h. subst (λ (l : List Valley). Contains l v) (sym is) (Contains-dedup (eq_by_cmp_equiv valley_total) same_valley ys v (Contains-permutation xs ys v moved h)),
    )
