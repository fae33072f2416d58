-- Lists whose members are apart: no such list is longer than one that has them all.
use Rattle.std.proofs.Common.{◌≡◌, ◌≢◌, ℕ, zero, suc, get_or, ◌<◌, ◌≤◌, List, [], ◌∷◌, length, refl, sym, ◌∙◌, ap, arith, inl, inr}
use Rattle.std.specs.Prelude.{All, Contains, ◌⊎◌}
use Rattle.std.proofs.lemmas.List.Elements.{All-head, All-tail, Contains-append_right}
use Rattle.shared_cases.specs.Touched.{AreApart}

-- the members of a list, but for one of them
record Others {A : Type 0} (xs : List A) (x : A) : Type 0 where
  others : List A
  one_less : length xs ≡ suc (length others)
  are : (q : A) → x ≢ q → Contains xs q → Contains others q

first_or_later : {A : Type 0} (y : A) (ys : List A) (q : A) (k : ℕ) → k < length (y ∷ ys) → get_or (y ∷ ys) k q ≡ q → (y ≡ q) ⊎ Contains ys q
first_or_later y ys q zero below is = inl is
first_or_later y ys q (suc k) below is = inr (k, omega (arith, below), is)

others : {A : Type 0} (xs : List A) (x : A) → Contains xs x → Others xs x
others [] x has = absurd (omega (arith, has.1))
others (y ∷ ys) x has = elim (first_or_later y ys x has.0 has.1 has.2) [
  | inl same ↦ record {
    others = ys;
    one_less = refl;
    are = λ q apart also. elim (first_or_later y ys q also.0 also.1 also.2) [
      | inl first ↦ absurd (apart (sym same ∙ first))
      | inr later ↦ later
    ];
  }
  | inr behind ↦ let rest = others ys x behind in record {
    others = y ∷ rest.others;
    one_less = ap suc rest.one_less;
    are = λ q apart also. elim (first_or_later y ys q also.0 also.1 also.2) [
      | inl first ↦ (0, omega arith, first)
      | inr later ↦ Contains-append_right (y ∷ []) rest.others q (rest.are q apart later)
    ];
  }
]

pub apart_within : {A : Type 0} (xs ys : List A) → AreApart xs → All (Contains ys) xs → length xs ≤ length ys
apart_within [] ys apart has = omega arith
apart_within (x ∷ xs) ys apart has =
    let rest = others ys x (All-head (Contains ys) x xs has) in
    let fewer = apart_within xs rest.others apart.1
    (λ k d below. rest.are _ (apart.0 k d below) (All-tail (Contains ys) x xs has k d below)) in
    omega (arith, fewer, rest.one_less)
