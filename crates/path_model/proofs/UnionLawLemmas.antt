-- Any attestations have one union.
use Rattle.std.proofs.Common.{◌≡◌, ℕ, inl, inr, Bool, true, false, cond, List, [], ◌∷◌, ◌++◌, Option, Some, None, refl, sym, ap, ◌∙◌, subst, nat_eq, arith}
use Rattle.std.specs.Bool.{Decides}
use Rattle.std.specs.Ordering.{nat_cmp}
use Rattle.std.specs.BTreeMap.{is_at}
use Rattle.std.specs.Cmp.{nat_cmp_total}
use Rattle.std.specs.List.{Contains}
use Rattle.std.specs.FinMap as map
use Rattle.std.proofs.lemmas.Bool.Decides.{same_from_decides, Decides-eqb, Decides-by_or, Decides-like}
use Rattle.std.proofs.lemmas.List.Elements.{Decides-contains, Contains-append_left, Contains-append_right, Contains-append_cases}
use Rattle.std.proofs.lemmas.Map.Keys.{sorted_from_strictly_increasing, IsStrictlyIncreasing-from_sorted}
use Rattle.std.proofs.lemmas.Map.Lookups.{exact_unsigned}
use Rattle.path_model.specs.Authority.{has}
use Rattle.path_model.specs.Sets.{IsSetOf}
use Rattle.path_model.specs.Rows.{RowMap, row_or_empty}
use Rattle.path_model.specs.Ascending.{ascending_of}
use Rattle.path_model.proofs.AscendingLemmas.{ascending_sorted, has_ascending, same_members}
use Rattle.path_model.specs.Union.{Attestation}
use Rattle.path_model.specs.Union.{Names, IsUnionOf, IsUnitedRow, AreUnited}
use Rattle.path_model.proofs.UnionLemmas.{same_key, other_key, gives_names}

-- ---- sets

has_decides : (xs : List ℕ) (q : ℕ) → Decides (has xs q) (Contains xs q)
has_decides xs q =
    Decides-contains xs q (has xs q) (Decides-by_or (λ x. nat_eq x q) (λ x. x ≡ q) (λ ys. has ys q) (λ x. Decides-eqb x q) refl (λ _ _. refl) xs)

same_has : (xs ys : List ℕ) (q : ℕ) → (Contains xs q → Contains ys q) → (Contains ys q → Contains xs q) → has xs q ≡ has ys q
same_has xs ys q to from = same_from_decides (has xs q) (has ys q) (has_decides xs q) (Decides-like (has ys q) from to (has_decides ys q))

pub some_set : (xs : List ℕ) → IsSetOf xs (ascending_of xs)
some_set xs = record {
  ascending = IsStrictlyIncreasing-from_sorted (ascending_of xs) (ascending_sorted xs);
  within = λ q h. (has_decides xs q).0 (sym (has_ascending xs q) ∙ (has_decides (ascending_of xs) q).1 h);
  all = λ q h. (has_decides (ascending_of xs) q).0 (has_ascending xs q ∙ (has_decides xs q).1 h);
}

-- two ascending lists of the same members are one
pub one_set : (list xs ys : List ℕ) → IsSetOf list xs → IsSetOf list ys → xs ≡ ys
one_set list xs ys s t =
    same_members xs ys (sorted_from_strictly_increasing xs s.ascending) (sorted_from_strictly_increasing ys t.ascending)
    (λ q. same_has xs ys q (λ h. t.all q (s.within q h)) (λ h. s.all q (t.within q h)))

-- ---- one union

none_some : (units : List Attestation) (x : ℕ) (row : List ℕ) → (Names units x → ⊥) → IsUnionOf units x row → ⊥
none_some units x row none h = none h.some

same_row : (units : List Attestation) (x : ℕ) (o p : Option (List ℕ)) → IsUnitedRow units x o → IsUnitedRow units x p → o ≡ p
same_row units x None None h k = refl
same_row units x None (Some row) h k = absurd (none_some units x row h k)
same_row units x (Some row) None h k = absurd (none_some units x row k h)
same_row units x (Some row) (Some other) h k =
    ap Some (same_members row other (sorted_from_strictly_increasing row h.ascending) (sorted_from_strictly_increasing other k.ascending)
    (λ q. same_has row other q (λ c. k.all q (h.within q c)) (λ c. h.all q (k.within q c))))

pub one_union : (units : List Attestation) (rows others : RowMap) → AreUnited units rows → AreUnited units others → rows ≡ others
one_union units rows others h k = map.same_map nat_cmp_total exact_unsigned rows others (λ q. same_row units q (map.get rows q) (map.get others q) (h q) (k q))

-- ---- some union

no_member : (y : ℕ) → Contains [] y → ⊥
no_member y h = omega (arith, h.1)

-- the row of the first attestation's customer
own : (a : Attestation) (units : List Attestation) (x : ℕ) (o : Option (List ℕ)) (set : List ℕ) → a.customer ≡ x → IsUnitedRow units x o → IsSetOf (row_or_empty o ++ a.providers) set → IsUnionOf (a ∷ units) x set
own a units x None set e none s = record {
  some = inl e;
  ascending = s.ascending;
  within = λ y h. inl (e, s.within y h);
  all = λ y h. elim h [ inl new ↦ s.all y new.1 | inr old ↦ absurd (none (gives_names units x y old)) ];
}
own a units x (Some row) set e united s = record {
  some = inl e;
  ascending = s.ascending;
  within = λ y h. elim (Contains-append_cases row a.providers y (s.within y h)) [ inl old ↦ inr (united.within y old) | inr new ↦ inl (e, new) ];
  all = λ y h. elim h [ inl new ↦ s.all y (Contains-append_right row a.providers y new.1) | inr old ↦ s.all y (Contains-append_left row a.providers y (united.all y old)) ];
}

others : (a : Attestation) (units : List Attestation) (x : ℕ) (o : Option (List ℕ)) → (a.customer ≡ x → ⊥) → IsUnitedRow units x o → IsUnitedRow (a ∷ units) x o
others a units x None other none = λ h. elim h [ inl e ↦ other e | inr old ↦ none old ]
others a units x (Some row) other united = record {
  some = inr united.some;
  ascending = united.ascending;
  within = λ y h. inr (united.within y h);
  all = λ y h. elim h [ inl new ↦ absurd (other new.0) | inr old ↦ united.all y old ];
}

one_more : (a : Attestation) (units : List Attestation) (rows : RowMap) (set : List ℕ) (x : ℕ) (b : Bool) → is_at (nat_cmp x) a.customer ≡ b → AreUnited units rows
    → IsSetOf (row_or_empty (map.get rows a.customer) ++ a.providers) set → IsUnitedRow (a ∷ units) x (cond b (Some set) (map.get rows x))
one_more a units rows set x true e h s =
    let same = same_key x a.customer e in
    own a units x (map.get rows a.customer) set same (subst (λ (q : ℕ). IsUnitedRow units q (map.get rows a.customer)) same (h a.customer)) s
one_more a units rows set x false e h s = others a units x (map.get rows x) (other_key x a.customer e) (h x)

pub some_union : (units : List Attestation) → (rows : RowMap) × AreUnited units rows
some_union [] = (map.empty, λ x. subst (λ (o : Option (List ℕ)). IsUnitedRow [] x o) (sym (map.get-empty nat_cmp x)) (λ h. h))
some_union (a ∷ units) =
    let more = some_union units in (
      map.insert more.0 a.customer (ascending_of (row_or_empty (map.get more.0 a.customer) ++ a.providers)),
      λ x. subst (λ (o : Option (List ℕ)). IsUnitedRow (a ∷ units) x o)
          (sym (map.get-insert nat_cmp_total more.0 a.customer (ascending_of (row_or_empty (map.get more.0 a.customer) ++ a.providers)) x))
          (one_more a units more.0 _ x (is_at (nat_cmp x) a.customer) refl more.1 (some_set (row_or_empty (map.get more.0 a.customer) ++ a.providers))),
    )
