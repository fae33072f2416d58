-- A pair more or less where prefixes of both families, without path identifiers and with them, are held apart.
use Rattle.std.proofs.Common.{◌≡◌, ℕ, Bool, true, false, cond, ◌||◌, List, [], ◌∷◌, ◌++◌, length, arith, refl, ap, sym, subst, ◌∙◌, true≢false}
use Rattle.std.specs.Prelude.{is_some}
use Rattle.std.specs.BTreeMap.{is_at}
use Rattle.std.specs.Cmp.{Equal-is}
use Rattle.std.specs.Ordering.{nat_cmp}
use Rattle.std.proofs.lemmas.Bool.{false_from_ne_true}
use Rattle.std.proofs.lemmas.List.Folds.{list_any-append}
use Rattle.std.proofs.lemmas.Map.Lookups.{exact_pairs, exact_unsigned}
use Rattle.path_model.specs.declared.nlri.Nlri.{Nlri}
use Rattle.path_model.specs.Halves.{is_six}
use Rattle.path_model.specs.Key.{nlri_cmp}
use Rattle.path_model.proofs.OrderLemmas.{nlri_exact}
use Rattle.route_map.specs.Keys.{pair_cmp, has_pair}
use Rattle.route_map.specs.Numbered.{kind_of, AreApart, AreOfKind, SetsPair}
use Rattle.sorted_map.proofs.BlockLemmas.{first_is_empty}
use Rattle.route_map.proofs.NumberedLemmas.{or_none}

same_pair : (a b : ℕ × Nlri) → is_at (pair_cmp a) b ≡ true → b ≡ a
same_pair a b same = sym (exact_pairs nat_cmp nlri_cmp exact_unsigned nlri_exact a b ((Equal-is (pair_cmp a b)).0 same))

-- ---- the kinds of those that are held
kind_kept : (kind : Bool × Bool) (before : List (ℕ × Nlri)) (pair : ℕ × Nlri) (held : Bool) (after : List (ℕ × Nlri)) → AreOfKind kind before → kind_of pair.1 ≡ kind → SetsPair before pair held after
    → AreOfKind kind after
kind_kept kind before pair held after of_kind here sets p has = by_case (is_at (pair_cmp pair) p) refl where
  by_case : (b : Bool) → is_at (pair_cmp pair) p ≡ b → kind_of p.1 ≡ kind
  by_case true same = ap (λ (x : ℕ × Nlri). kind_of x.1) (same_pair pair p same) ∙ here
  by_case false other = of_kind p (sym (ap (λ (t : Bool). cond t held (has_pair before p)) other) ∙ sym (sets p) ∙ has)

not_there : (kind : Bool × Bool) (pairs : List (ℕ × Nlri)) (pair : ℕ × Nlri) → AreOfKind kind pairs → (kind_of pair.1 ≡ kind → ⊥) → has_pair pairs pair ≡ false
not_there kind pairs pair of_kind differ = false_from_ne_true (has_pair pairs pair) (λ has. differ (of_kind pair has))

not_in_either : (first rest : List (ℕ × Nlri)) (pair : ℕ × Nlri) → has_pair first pair ≡ false → has_pair rest pair ≡ false → has_pair (first ++ rest) pair ≡ false
not_in_either first rest pair one other = list_any-append (is_at (pair_cmp pair)) first rest ∙ ap (λ (t : Bool). t || has_pair rest pair) one ∙ other

pub kind_is : (q : Nlri) (six with_path : Bool) → is_six q.prefix.addr ≡ six → is_some q.path ≡ with_path → kind_of q ≡ (six, with_path)
kind_is q six with_path family identified = λ i. (family i, identified i)

-- ---- one of two lists changes
module _ (first rest : List (ℕ × Nlri)) (pair : ℕ × Nlri) (held : Bool) where
  first_set : (first' : List (ℕ × Nlri)) → SetsPair first pair held first' → has_pair rest pair ≡ false → SetsPair (first ++ rest) pair held (first' ++ rest)
  first_set first' sets none p = list_any-append (is_at (pair_cmp p)) first' rest
      ∙ by_case (is_at (pair_cmp pair) p) refl (sets p)
      ∙ ap (cond (is_at (pair_cmp pair) p) held) (sym (list_any-append (is_at (pair_cmp p)) first rest)) where
        by_case : (b : Bool) → is_at (pair_cmp pair) p ≡ b → has_pair first' p ≡ cond b held (has_pair first p) → (has_pair first' p || has_pair rest p) ≡ cond b held (has_pair first p || has_pair rest p)
        by_case true same now = ap (λ (t : Bool). has_pair first' p || t) (ap (has_pair rest) (same_pair pair p same) ∙ none) ∙ or_none (has_pair first' p) ∙ now
        by_case false other now = ap (λ (t : Bool). t || has_pair rest p) now

  rest_set : (rest' : List (ℕ × Nlri)) → SetsPair rest pair held rest' → has_pair first pair ≡ false → SetsPair (first ++ rest) pair held (first ++ rest')
  rest_set rest' sets none p = list_any-append (is_at (pair_cmp p)) first rest'
      ∙ by_case (is_at (pair_cmp pair) p) refl (sets p)
      ∙ ap (cond (is_at (pair_cmp pair) p) held) (sym (list_any-append (is_at (pair_cmp p)) first rest)) where
        by_case : (b : Bool) → is_at (pair_cmp pair) p ≡ b → has_pair rest' p ≡ cond b held (has_pair rest p) → (has_pair first p || has_pair rest' p) ≡ cond b held (has_pair first p || has_pair rest p)
        by_case true same now = ap (λ (t : Bool). t || has_pair rest' p) (ap (has_pair first) (same_pair pair p same) ∙ none) ∙ now
        by_case false other now = ap (λ (t : Bool). has_pair first p || t) now

-- ---- one pair more or less, of each kind
by_family : (k : Bool × Bool) (a b c d : Bool) → k ≡ (a, b) → k ≡ (c, d) → a ≡ c
by_family k a b c d one other = ap (λ (kind : Bool × Bool). kind.0) (sym one ∙ other)

by_path : (k : Bool × Bool) (a b c d : Bool) → k ≡ (a, b) → k ≡ (c, d) → b ≡ d
by_path k a b c d one other = ap (λ (kind : Bool × Bool). kind.1) (sym one ∙ other)

module _ (v4 v6 m4 m6 : List (ℕ × Nlri)) (apart : AreApart v4 v6 m4 m6) (n : ℕ) (s q : Nlri) (same : s ≡ q) (held : Bool) where
  no_four : (six with_path : Bool) → kind_of q ≡ (six, with_path) → (six ≡ false → with_path ≡ false → ⊥) → has_pair v4 (n, q) ≡ false
  no_four six with_path here differ = not_there (false, false) v4 (n, q) apart.four (λ e. differ (by_family (kind_of q) six with_path false false here e) (by_path (kind_of q) six with_path false false here e))

  no_six : (six with_path : Bool) → kind_of q ≡ (six, with_path) → (six ≡ true → with_path ≡ false → ⊥) → has_pair v6 (n, q) ≡ false
  no_six six with_path here differ = not_there (true, false) v6 (n, q) apart.six (λ e. differ (by_family (kind_of q) six with_path true false here e) (by_path (kind_of q) six with_path true false here e))

  no_identified_four : (six with_path : Bool) → kind_of q ≡ (six, with_path) → (six ≡ false → with_path ≡ true → ⊥) → has_pair m4 (n, q) ≡ false
  no_identified_four six with_path here differ = not_there (false, true) m4 (n, q) apart.identified_four (λ e. differ (by_family (kind_of q) six with_path false true here e) (by_path (kind_of q) six with_path false true here e))

  no_identified_six : (six with_path : Bool) → kind_of q ≡ (six, with_path) → (six ≡ true → with_path ≡ true → ⊥) → has_pair m6 (n, q) ≡ false
  no_identified_six six with_path here differ = not_there (true, true) m6 (n, q) apart.identified_six (λ e. differ (by_family (kind_of q) six with_path true true here e) (by_path (kind_of q) six with_path true true here e))

  as_given : (before after : List (ℕ × Nlri)) → SetsPair before (n, s) held after → SetsPair before (n, q) held after
  as_given before after = subst (λ (x : Nlri). SetsPair before (n, x) held after) same

  pub four_put : (v4' : List (ℕ × Nlri)) → kind_of q ≡ (false, false) → SetsPair v4 (n, s) held v4' → AreApart v4' v6 m4 m6 × SetsPair (v4 ++ (v6 ++ (m4 ++ m6))) (n, q) held (v4' ++ (v6 ++ (m4 ++ m6)))
  four_put v4' here sets = (
    record { four = kind_kept (false, false) v4 (n, q) held v4' apart.four here (as_given v4 v4' sets); six = apart.six; identified_four = apart.identified_four; identified_six = apart.identified_six },
    first_set v4 (v6 ++ (m4 ++ m6)) (n, q) held v4' (as_given v4 v4' sets)
        (not_in_either v6 (m4 ++ m6) (n, q) (no_six false false here (λ e f. true≢false (sym e)))
        (not_in_either m4 m6 (n, q) (no_identified_four false false here (λ e f. true≢false (sym f))) (no_identified_six false false here (λ e f. true≢false (sym e))))),
  )

  pub six_put : (v6' : List (ℕ × Nlri)) → kind_of q ≡ (true, false) → SetsPair v6 (n, s) held v6' → AreApart v4 v6' m4 m6 × SetsPair (v4 ++ (v6 ++ (m4 ++ m6))) (n, q) held (v4 ++ (v6' ++ (m4 ++ m6)))
  six_put v6' here sets = (
    record { four = apart.four; six = kind_kept (true, false) v6 (n, q) held v6' apart.six here (as_given v6 v6' sets); identified_four = apart.identified_four; identified_six = apart.identified_six },
    rest_set v4 (v6 ++ (m4 ++ m6)) (n, q) held (v6' ++ (m4 ++ m6))
        (first_set v6 (m4 ++ m6) (n, q) held v6' (as_given v6 v6' sets)
        (not_in_either m4 m6 (n, q) (no_identified_four true false here (λ e f. true≢false e)) (no_identified_six true false here (λ e f. true≢false (sym f)))))
        (no_four true false here (λ e f. true≢false e)),
  )

  pub identified_four_put : (m4' : List (ℕ × Nlri)) → kind_of q ≡ (false, true) → SetsPair m4 (n, s) held m4' → AreApart v4 v6 m4' m6 × SetsPair (v4 ++ (v6 ++ (m4 ++ m6))) (n, q) held (v4 ++ (v6 ++ (m4' ++ m6)))
  identified_four_put m4' here sets = (
    record { four = apart.four; six = apart.six; identified_four = kind_kept (false, true) m4 (n, q) held m4' apart.identified_four here (as_given m4 m4' sets); identified_six = apart.identified_six },
    rest_set v4 (v6 ++ (m4 ++ m6)) (n, q) held (v6 ++ (m4' ++ m6))
        (rest_set v6 (m4 ++ m6) (n, q) held (m4' ++ m6)
        (first_set m4 m6 (n, q) held m4' (as_given m4 m4' sets) (no_identified_six false true here (λ e f. true≢false (sym e))))
        (no_six false true here (λ e f. true≢false f)))
        (no_four false true here (λ e f. true≢false f)),
  )

  pub identified_six_put : (m6' : List (ℕ × Nlri)) → kind_of q ≡ (true, true) → SetsPair m6 (n, s) held m6' → AreApart v4 v6 m4 m6' × SetsPair (v4 ++ (v6 ++ (m4 ++ m6))) (n, q) held (v4 ++ (v6 ++ (m4 ++ m6')))
  identified_six_put m6' here sets = (
    record { four = apart.four; six = apart.six; identified_four = apart.identified_four; identified_six = kind_kept (true, true) m6 (n, q) held m6' apart.identified_six here (as_given m6 m6' sets) },
    rest_set v4 (v6 ++ (m4 ++ m6)) (n, q) held (v6 ++ (m4 ++ m6'))
        (rest_set v6 (m4 ++ m6) (n, q) held (m4 ++ m6')
        (rest_set m4 m6 (n, q) held m6' (as_given m6 m6' sets) (no_identified_four true true here (λ e f. true≢false e)))
        (no_six true true here (λ e f. true≢false f)))
        (no_four true true here (λ e f. true≢false f)),
  )

-- ---- whether there are any
no_length : (xs : List (ℕ × Nlri)) → length xs ≡ 0 → xs ≡ []
no_length [] e = refl
no_length (x ∷ xs) e = absurd (omega (arith, e))

pub none_of_all : (v4 v6 m4 m6 : List (ℕ × Nlri)) → length v4 ≡ 0 → length v6 ≡ 0 → length m4 ≡ 0 → length m6 ≡ 0 → v4 ++ (v6 ++ (m4 ++ m6)) ≡ []
none_of_all v4 v6 m4 m6 a b c d = ap (λ (xs : List (ℕ × Nlri)). xs ++ (v6 ++ (m4 ++ m6))) (no_length v4 a) ∙ ap (λ (xs : List (ℕ × Nlri)). xs ++ (m4 ++ m6)) (no_length v6 b)
    ∙ ap (λ (xs : List (ℕ × Nlri)). xs ++ m6) (no_length m4 c) ∙ no_length m6 d

rest_is_empty : (xs ys : List (ℕ × Nlri)) → xs ++ ys ≡ [] → ys ≡ []
rest_is_empty [] ys none = none
rest_is_empty (x ∷ xs) ys none = absurd cc

pub each_is_empty : (v4 v6 m4 m6 : List (ℕ × Nlri)) → v4 ++ (v6 ++ (m4 ++ m6)) ≡ [] → (length v4 ≡ 0) × (length v6 ≡ 0) × (length m4 ≡ 0) × (length m6 ≡ 0)
each_is_empty v4 v6 m4 m6 none =
    let behind : v6 ++ (m4 ++ m6) ≡ [] = rest_is_empty v4 (v6 ++ (m4 ++ m6)) none in
    let identified : m4 ++ m6 ≡ [] = rest_is_empty v6 (m4 ++ m6) behind in
    (first_is_empty v4 (v6 ++ (m4 ++ m6)) none, first_is_empty v6 (m4 ++ m6) behind, first_is_empty m4 m6 identified, ap length (rest_is_empty m4 m6 identified))
