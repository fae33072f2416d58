-- Rows, by customer and as maps.
use Rattle.std.proofs.Common.{◌≡◌, ◌≢◌, ℕ, nat_eq, Bool, true, false, cond, List, [], ◌∷◌, Some, None, inl, inr, refl, ap, subst, ◌∙◌, arith}
use Rattle.std.specs.declared.option.Option.{Option}
use Rattle.std.specs.declared.cmp.Ordering.TheVariants.{Less}
use Rattle.std.specs.Ordering.{nat_cmp}
use Rattle.std.specs.BTreeMap.{is_at}
use Rattle.std.specs.Map.{lookup}
use Rattle.std.specs.Cmp.{nat_cmp_total, nat_eq_equiv, unsigned_tied}
use Rattle.std.specs.Cmp.Lexicographic.{nat_list_eq_equiv}
use Rattle.std.specs.FinMap as map
use Rattle.std.specs.List.{AllByRecursion}
use Rattle.std.specs.List.Sorted.{IsStrictlyIncreasing}
use Rattle.std.proofs.lemmas.Bool.Decides.{eqb_tells, nat_tests}
use Rattle.std.proofs.lemmas.Grind.{common_steps}
use Rattle.path_model.specs.Authority.{has}
use Rattle.path_model.specs.Rows.{RowMap}
use Rattle.path_model.specs.Sets.{IsSetOf}
use Rattle.attestations.specs.Moves.{same_rows}
use Rattle.rtr_cache.specs.Kept.{with_row}

-- ---- customers

-- two tests of the same number
pub test_same : (q x : ℕ) → is_at (nat_cmp q) x ≡ nat_eq x q
test_same q x = unsigned_tied q x ∙ nat_eq_equiv.symm q x

pub key_itself : (k : ℕ) → is_at (nat_cmp k) k ≡ true
key_itself k = grind (arith, common_steps, nat_tests)

above_apart : (y x : ℕ) → nat_cmp y x ≡ Less → nat_eq x y ≡ false
above_apart y x e = grind (arith, common_steps, nat_tests)

-- a customer below all of these isn't among them
pub apart : (y : ℕ) (xs : List ℕ) → AllByRecursion (λ z. nat_cmp y z ≡ Less) xs → has xs y ≡ false
apart y [] below = refl
apart y (x ∷ xs) below = rw (above_apart y x below.0) (apart y xs below.1)

-- ---- entries by customer

pub other_key : {X : Type 0} (k q : ℕ) (x : X) (left : List (ℕ × X)) → nat_eq k q ≡ false → lookup (is_at (nat_cmp q)) ((k, x) ∷ left) ≡ lookup (is_at (nat_cmp q)) left
other_key k q x left other = ap (λ (b : Bool). cond b (Some x) (lookup (is_at (nat_cmp q)) left)) (test_same q k ∙ other)

-- an entry behind the first
pub behind : {X : Type 0} (k q : ℕ) (x y : X) (left : List (ℕ × X)) → lookup (is_at (nat_cmp k)) left ≡ None → lookup (is_at (nat_cmp q)) left ≡ Some y → lookup (is_at (nat_cmp q)) ((k, x) ∷ left) ≡ Some y
behind k q x y left gone is = elim (eqb_tells k q) [
  | inl same ↦ let never : ⊥ = (let e : lookup (is_at (nat_cmp q)) left ≡ None = subst (λ (p : ℕ). lookup (is_at (nat_cmp p)) left ≡ None) same.1 gone in cc) in absurd never
  | inr other ↦ other_key k q x left other.0 ∙ is
]

-- ---- one row

-- an ascending row is its own set
pub own_set : (row : List ℕ) → IsStrictlyIncreasing row → IsSetOf row row
own_set row ascending = record { ascending = ascending; within = λ x h. h; all = λ x h. h }

row_itself : (row : Option (List ℕ)) → same_rows row row ≡ true
row_itself None = refl
row_itself (Some row) = nat_list_eq_equiv.refl row

pub not_same : (one other : Option (List ℕ)) → same_rows one other ≡ false → one ≢ other
not_same one other e same = let never : ⊥ = (let f : same_rows one other ≡ true = subst (λ (o : Option (List ℕ)). same_rows one o ≡ true) same (row_itself one) in cc) in never

-- ---- maps of rows

pub same_map : (one other : RowMap) → ((q : ℕ) → map.get one q ≡ map.get other q) → one ≡ other
same_map one other same = map.same_map nat_cmp_total map.nat_cmp-IsAntisymmetric one other same

pub get_with : (rows : RowMap) (x : ℕ) (row : Option (List ℕ)) (q : ℕ) → map.get (with_row rows x row) q ≡ cond (nat_eq x q) row (map.get rows q)
get_with rows x (Some row) q = map.get-insert nat_cmp_total rows x row q ∙ ap (λ (b : Bool). cond b (Some row) (map.get rows q)) (test_same q x)
get_with rows x None q = map.get-remove nat_cmp_total rows x q ∙ ap (λ (b : Bool). cond b None (map.get rows q)) (test_same q x)
