-- The sources that have a name are all, where each has one.
use Rattle.std.proofs.Common.{◌≡◌, ℕ, ◌≤◌, Bool, true, false, nat_le, List, [], ◌∷◌, length, cond, refl, ap, ◌∙◌, arith}
use Rattle.std.specs.Prelude.{◌&&◌, filter}
use Rattle.std.specs.List.{All, list_all}
use Rattle.std.proofs.lemmas.Bool.Decides.{nat_tests}
use Rattle.std.proofs.lemmas.List.Elements.{All-cons, All-head, All-nil, All-tail, filter_passes}
use Rattle.std.proofs.lemmas.List.Sums.{AllPass-from_list_all, list_all-from_AllPass}
use Rattle.attestations.specs.Terms.{TermMap}
use Rattle.path_model.specs.Name.{IsName, is_name_byte}
use Rattle.listings.specs.AttestsOf.{is_name, named_sources}

all_true : (a b c : Bool) → a ≡ true → b ≡ true → c ≡ true → (a && b && c) ≡ true
all_true a b c x y z = (λ i. x i && y i && z i)

-- a name is one by the test,
pub tested : (text : List ℕ) → IsName text → is_name text ≡ true
tested text is =
    let some : nat_le 1 (length text) ≡ true = let low = is.some in grind (arith, nat_tests) in
    let short : nat_le (length text) 64 ≡ true = let high = is.short in grind (arith, nat_tests) in
    all_true (nat_le 1 (length text)) (nat_le (length text) 64) (list_all is_name_byte text) some short (list_all-from_AllPass is_name_byte text is.bytes)

three : (a b c : Bool) → (a && b && c) ≡ true → (a ≡ true) × (b ≡ true) × (c ≡ true)
three true true true is = (refl, refl, refl)
three true true false is = cc
three true false c is = cc
three false b c is = cc

-- and what the test says is one
pub name_of : (text : List ℕ) → is_name text ≡ true → IsName text
name_of text is =
    let all = three (nat_le 1 (length text)) (nat_le (length text) 64) (list_all is_name_byte text) is in
    let some = all.0 in
    let short = all.1 in
    record { some = grind (arith, nat_tests); short = grind (arith, nat_tests); bytes = AllPass-from_list_all is_name_byte text all.2 }

abbrev Source : Type 0
Source = List ℕ × TermMap

-- the sources that have a name have one,
pub sources_named : (sources : List Source) → All (λ source. IsName source.0) (named_sources sources)
sources_named sources = weaker (named_sources sources) (filter_passes (λ (source : Source). is_name source.0) sources) where
  weaker : (some : List Source) → All (λ source. is_name source.0 ≡ true) some → All (λ source. IsName source.0) some
  weaker [] all = All-nil (λ (source : Source). IsName source.0)
  weaker (source ∷ more) all =
      All-cons (λ (s : Source). IsName s.0) source more (name_of source.0 (All-head (λ (s : Source). is_name s.0 ≡ true) source more all))
      (weaker more (All-tail (λ (s : Source). is_name s.0 ≡ true) source more all))

-- and are all, where each has
pub all_sources : (sources : List Source) → All (λ source. IsName source.0) sources → named_sources sources ≡ sources
all_sources [] names = refl
all_sources (source ∷ more) names =
    ap (λ (b : Bool). cond b (source ∷ named_sources more) (named_sources more)) (tested source.0 (All-head (λ (s : Source). IsName s.0) source more names))
    ∙ ap (λ (s : List Source). source ∷ s) (all_sources more (All-tail (λ (s : Source). IsName s.0) source more names))
