-- A merged path is what the standard constructs.
use Rattle.std.proofs.Common.{◌≡◌, ◌-◌, ◌<◌, ◌≤◌, ◌↔◌, inl, inr, Bool, true, false, List, ◌++◌, length, take, drop, refl, sym, ap, subst, ◌∙◌, arith}
use Rattle.std.specs.Prelude.{nat_lt}
use Rattle.std.proofs.lemmas.List.{take-append-drop, take_at, length-take, length-append}
use Rattle.std.proofs.lemmas.Bool.Decides.{nat_tests}
use Rattle.bgp_attrs.specs.declared.items.Item.{Item}
use Rattle.bgp_attrs.specs.Laws.{IsConstructed, IsMerged}
use Rattle.bgp_attrs.specs.Merging.{merged}

ignored : (items others : List Item) → length items < length others → merged items others ≡ items
ignored items others less = let test : nat_lt (length items) (length others) ≡ true = grind (arith, nat_tests) in rw test refl

used : (items others : List Item) → length others ≤ length items → merged items others ≡ take (length items - length others) items ++ others
used items others fits = let test : nat_lt (length items) (length others) ≡ false = grind (arith, nat_tests) in rw test refl

constructed : (items others : List Item) → length others ≤ length items → IsConstructed items others (take (length items - length others) items ++ others)
constructed items others fits =
    let n = length items - length others in
    record {
      leading = take n items;
      behind = drop n items;
      front = sym (take-append-drop n items);
      whole = refl;
      count = omega (arith, length-append (take n items) others, length-take n items);
    }

is_merged : (items others : List Item) (less : Bool) → nat_lt (length items) (length others) ≡ less → IsMerged items others (merged items others)
is_merged items others true e = (let short : length items < length others = grind (arith, nat_tests) in inl (short, ignored items others short))
is_merged items others false e =
    (let fits : length others ≤ length items = grind (arith, nat_tests) in
    inr (fits, subst (λ (path : List Item). IsConstructed items others path) (sym (used items others fits)) (constructed items others fits)))

constructed_is : (items others path : List Item) → length others ≤ length items → IsConstructed items others path → path ≡ merged items others
constructed_is items others path fits is =
    let size : length is.leading ≡ length items - length others = omega (arith, ap length is.whole, length-append is.leading others, is.count) in
    let front : take (length items - length others) items ≡ is.leading = ap (take (length items - length others)) is.front ∙ take_at is.leading is.behind (length items - length others) size in
    is.whole ∙ ap (λ (l : List Item). l ++ others) (sym front) ∙ sym (used items others fits)

merged_is : (items others path : List Item) → IsMerged items others path → path ≡ merged items others
merged_is items others path (inl less) = less.1 ∙ sym (ignored items others less.0)
merged_is items others path (inr fits) = constructed_is items others path fits.0 fits.1

pub merged_as_said : (items others path : List Item) → (path ≡ merged items others) ↔ IsMerged items others path
merged_as_said items others path = (
  λ is. subst (λ (p : List Item). IsMerged items others p) (sym is) (is_merged items others (nat_lt (length items) (length others)) refl),
  λ is. merged_is items others path is,
)
