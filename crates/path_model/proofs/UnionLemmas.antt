-- What is gathered attestation by attestation becomes their union.
use Rattle.std.proofs.Common.{◌≡◌, ℕ, ◌⊎◌, inl, inr, Bool, true, false, cond, List, [], ◌∷◌, ◌++◌, Option, Some, None, refl, sym, ap, ◌∙◌, subst, arith}
use Rattle.std.specs.Ordering.{nat_cmp}
use Rattle.std.specs.BTreeMap.{is_at}
use Rattle.std.specs.Cmp.{nat_cmp_total}
use Rattle.std.specs.List.{Contains}
use Rattle.std.specs.FinMap as map
use Rattle.std.proofs.lemmas.Bool.Decides.{nat_tests}
use Rattle.std.proofs.lemmas.List.Elements.{Contains-append_left, Contains-append_right, Contains-append_cases}
use Rattle.path_model.specs.Rows.{RowMap, AreSetsOf, IsRowOf, row_or_empty}
use Rattle.path_model.specs.Union.{Attestation}
use Rattle.path_model.specs.Union.{Names, Gives, IsUnitedRow, AreUnited}

-- ---- one more attestation

names_old : (units : List Attestation) (a : Attestation) (x : ℕ) → Names units x → Names (units ++ a ∷ []) x
names_old [] a x h = absurd h
names_old (b ∷ units) a x (inl e) = inl e
names_old (b ∷ units) a x (inr h) = inr (names_old units a x h)

names_new : (units : List Attestation) (a : Attestation) (x : ℕ) → a.customer ≡ x → Names (units ++ a ∷ []) x
names_new [] a x e = inl e
names_new (b ∷ units) a x e = inr (names_new units a x e)

names_push : (units : List Attestation) (a : Attestation) (x : ℕ) → Names (units ++ a ∷ []) x → Names units x ⊎ (a.customer ≡ x)
names_push [] a x (inl e) = inr e
names_push [] a x (inr h) = absurd h
names_push (b ∷ units) a x (inl e) = inl (inl e)
names_push (b ∷ units) a x (inr h) = elim (names_push units a x h) [ inl n ↦ inl (inr n) | inr e ↦ inr e ]

gives_old : (units : List Attestation) (a : Attestation) (x y : ℕ) → Gives units x y → Gives (units ++ a ∷ []) x y
gives_old [] a x y h = absurd h
gives_old (b ∷ units) a x y (inl e) = inl e
gives_old (b ∷ units) a x y (inr h) = inr (gives_old units a x y h)

gives_new : (units : List Attestation) (a : Attestation) (x y : ℕ) → a.customer ≡ x → Contains a.providers y → Gives (units ++ a ∷ []) x y
gives_new [] a x y e h = inl (e, h)
gives_new (b ∷ units) a x y e h = inr (gives_new units a x y e h)

gives_push : (units : List Attestation) (a : Attestation) (x y : ℕ) → Gives (units ++ a ∷ []) x y → Gives units x y ⊎ ((a.customer ≡ x) × Contains a.providers y)
gives_push [] a x y (inl e) = inr e
gives_push [] a x y (inr h) = absurd h
gives_push (b ∷ units) a x y (inl e) = inl (inl e)
gives_push (b ∷ units) a x y (inr h) = elim (gives_push units a x y h) [ inl n ↦ inl (inr n) | inr e ↦ inr e ]

pub gives_names : (units : List Attestation) (x y : ℕ) → Gives units x y → Names units x
gives_names [] x y h = absurd h
gives_names (a ∷ units) x y (inl h) = inl h.0
gives_names (a ∷ units) x y (inr h) = inr (gives_names units x y h)

-- ---- what is gathered

pub record IsListed (units : List Attestation) (x : ℕ) (list : List ℕ) : Type 0 where
  pub some : Names units x
  pub within : (y : ℕ) → Contains list y → Gives units x y
  pub all : (y : ℕ) → Gives units x y → Contains list y

abbrev pub IsListOf : List Attestation → ℕ → Option (List ℕ) → Type 0
IsListOf units x None = Names units x → ⊥
IsListOf units x (Some list) = IsListed units x list

-- each customer's list has what its attestations give
pub record IsGathered (units : List Attestation) (gathered : RowMap) : Type 0 where
  pub lists : (x : ℕ) → IsListOf units x (map.get gathered x)

pub same_key : (x k : ℕ) → is_at (nat_cmp x) k ≡ true → k ≡ x
same_key x k e = grind (arith, nat_tests)

pub other_key : (x k : ℕ) → is_at (nat_cmp x) k ≡ false → k ≡ x → ⊥
other_key x k e same = grind (arith, nat_tests)

-- its own list grows
grown : (units : List Attestation) (a : Attestation) (x : ℕ) (o : Option (List ℕ)) → a.customer ≡ x → IsListOf units x o → IsListed (units ++ a ∷ []) x (row_or_empty o ++ a.providers)
grown units a x None e none = record {
  some = names_new units a x e;
  within = λ y h. gives_new units a x y e h;
  all = λ y h. elim (gives_push units a x y h) [ inl old ↦ absurd (none (gives_names units x y old)) | inr new ↦ new.1 ];
}
grown units a x (Some list) e listed = record {
  some = names_new units a x e;
  within = λ y h. elim (Contains-append_cases list a.providers y h) [ inl old ↦ gives_old units a x y (listed.within y old) | inr new ↦ gives_new units a x y e new ];
  all = λ y h. elim (gives_push units a x y h) [ inl old ↦ Contains-append_left list a.providers y (listed.all y old) | inr new ↦ Contains-append_right list a.providers y new.1 ];
}

-- another's stays
kept : (units : List Attestation) (a : Attestation) (x : ℕ) (o : Option (List ℕ)) → (a.customer ≡ x → ⊥) → IsListOf units x o → IsListOf (units ++ a ∷ []) x o
kept units a x None other none = λ h. elim (names_push units a x h) [ inl old ↦ none old | inr e ↦ other e ]
kept units a x (Some list) other listed = record {
  some = names_old units a x listed.some;
  within = λ y h. gives_old units a x y (listed.within y h);
  all = λ y h. elim (gives_push units a x y h) [ inl old ↦ listed.all y old | inr new ↦ absurd (other new.0) ];
}

by_key : (units : List Attestation) (a : Attestation) (g : RowMap) (x : ℕ) (b : Bool) → is_at (nat_cmp x) a.customer ≡ b → ((q : ℕ) → IsListOf units q (map.get g q))
    → IsListOf (units ++ a ∷ []) x (cond b (Some (row_or_empty (map.get g a.customer) ++ a.providers)) (map.get g x))
by_key units a g x true e lists =
    let same = same_key x a.customer e in
    grown units a x (map.get g a.customer) same (subst (λ (q : ℕ). IsListOf units q (map.get g a.customer)) same (lists a.customer))
by_key units a g x false e lists = kept units a x (map.get g x) (other_key x a.customer e) (lists x)

pub gathered_start : (g : RowMap) → g ≡ map.empty → IsGathered [] g
gathered_start g e = record { lists = λ x. subst (λ (o : Option (List ℕ)). IsListOf [] x o) (sym (ap (λ (m : RowMap). map.get m x) e ∙ map.get-empty nat_cmp x)) (λ h. h) }

pub gathered_next : (units : List Attestation) (a : Attestation) (g new : RowMap) → IsGathered units g → new ≡ map.insert g a.customer (row_or_empty (map.get g a.customer) ++ a.providers) → IsGathered (units ++ a ∷ []) new
gathered_next units a g new h e = record {
  lists = λ x. subst (λ (o : Option (List ℕ)). IsListOf (units ++ a ∷ []) x o)
      (sym (ap (λ (m : RowMap). map.get m x) e ∙ map.get-insert nat_cmp_total g a.customer (row_or_empty (map.get g a.customer) ++ a.providers) x))
      (by_key units a g x (is_at (nat_cmp x) a.customer) refl h.lists);
}

row_by : (units : List Attestation) (x : ℕ) (o row : Option (List ℕ)) → IsListOf units x o → IsRowOf o row → IsUnitedRow units x row
row_by units x None None none is = none
row_by units x None (Some row) none is = absurd is
row_by units x (Some list) None listed is = absurd is
row_by units x (Some list) (Some row) listed is = record {
  some = listed.some;
  ascending = is.ascending;
  within = λ y h. listed.within y (is.within y h);
  all = λ y h. is.all y (listed.all y h);
}

-- the sets of what is gathered are the union
pub united_by : (units : List Attestation) (g rows : RowMap) → IsGathered units g → AreSetsOf g rows → AreUnited units rows
united_by units g rows h sets x = row_by units x (map.get g x) (map.get rows x) (h.lists x) (sets x)
