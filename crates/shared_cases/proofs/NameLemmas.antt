-- Names of cases as lists of numbers.
use Rattle.std.proofs.Common.{◌≡◌, ◌≢◌, ◌⊎◌, inl, inr, true≢false, ℕ, Bool, true, false, List, [], ◌∷◌, refl, ap, sym, ◌∙◌, cond, nat_eq}
use Rattle.std.specs.BTreeMap.{is_at}
use Rattle.std.specs.Cmp.{IsTotalOrder, on_total, eq_by_cmp_equiv, Equal-is}
use Rattle.std.specs.Cmp.Lexicographic.{nat_list_cmp_total}
use Rattle.std.specs.FinMap.{slice_cmp-IsAntisymmetric, nat_cmp-IsAntisymmetric}
use Rattle.std.proofs.lemmas.Bool.{false_from_ne_true}
use Rattle.std.proofs.lemmas.Map.Lookups.{CmpEqualImpliesEq}
use Rattle.path_model.specs.Trail.{Path}
use Rattle.shared_cases.specs.declared.case_name.CaseName.{CaseName}
use Rattle.shared_cases.specs.Names.{name_of, numbers_of, name_cmp}

names_total : IsTotalOrder name_cmp
names_total = on_total numbers_of nat_list_cmp_total

abbrev head_or_0 : List ℕ → ℕ
head_or_0 [] = 0
head_or_0 (x ∷ xs) = x

abbrev rest_of : List ℕ → List ℕ
rest_of [] = []
rest_of (x ∷ xs) = xs

flag_back : (b : Bool) → nat_eq (cond b 1 0) 1 ≡ b
flag_back true = refl
flag_back false = refl

abbrev name_from : List ℕ → CaseName
name_from ns = record {
  word = head_or_0 ns;
  asn = head_or_0 (rest_of ns);
  trail = record { set = nat_eq (head_or_0 (rest_of (rest_of ns))) 1; chain = rest_of (rest_of (rest_of ns)) };
}

back : (a : CaseName) → name_from (numbers_of a) ≡ a
back a = ap (λ (b : Bool). record { word = a.word; asn = a.asn; trail = record { set = b; chain = a.trail.chain } }) (flag_back a.trail.set)

exact_names : CmpEqualImpliesEq name_cmp
exact_names a b h = sym (back a) ∙ ap name_from (slice_cmp-IsAntisymmetric nat_cmp-IsAntisymmetric (numbers_of a) (numbers_of b) h) ∙ back b

-- a name is found at itself,
pub at_itself : (q : CaseName) → is_at (name_cmp q) q ≡ true
at_itself q = (eq_by_cmp_equiv names_total).refl q

-- and only there
pub same_name : (q k : CaseName) → is_at (name_cmp q) k ≡ true → q ≡ k
same_name q k e = exact_names q k ((Equal-is (name_cmp q k)).0 e)

pub apart_names : (q k : CaseName) → (q ≡ k → ⊥) → is_at (name_cmp q) k ≡ false
apart_names q k differ = false_from_ne_true (is_at (name_cmp q) k) (λ e. differ (same_name q k e))

pub decide_name : (q k : CaseName) → (q ≡ k) ⊎ (q ≢ k)
decide_name q k = decided (is_at (name_cmp q) k) refl where
  decided : (b : Bool) → is_at (name_cmp q) k ≡ b → (q ≡ k) ⊎ (q ≢ k)
  decided true e = inl (same_name q k e)
  decided false e = inr (λ same. true≢false (sym (at_itself q) ∙ ap (is_at (name_cmp q)) same ∙ e))

pub equal_names : (a b : ℕ) (p q : Path) → a ≡ b → p ≡ q → name_of a p ≡ name_of b q
equal_names a b p q e f = λ i. name_of (e i) (f i)
