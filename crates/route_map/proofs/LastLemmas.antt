-- A route that is found at a place is found by what it leads to.
use Rattle.std.proofs.Common.{◌≡◌, ℕ, zero, suc, Bool, true, false, cond, List, [], ◌∷◌, ◌++◌, ◌-◌, length, None, Some, arith, refl, ap, sym, subst, ◌∙◌}
use Rattle.std.specs.Prelude.{slice_get}
use Rattle.std.specs.declared.option.Option.{Option}
use Rattle.std.specs.BTreeMap.{is_at}
use Rattle.std.specs.Cmp.{eq_by_cmp_equiv}
use Rattle.std.specs.Map.{lookup}
use Rattle.std.specs.Option.{IsSome}
use Rattle.path_model.specs.declared.nlri.Nlri.{Nlri}
use Rattle.path_model.specs.Key.{nlri_cmp}
use Rattle.path_model.specs.Order.{nlri_total}
use Rattle.route_map.specs.Merged.{merged, HasNlri}
use Rattle.route_map.proofs.MergeLemmas.{either, lookup_merged}

module _ {V : Type 0} where
  one_is_found : (test : Nlri → Bool) (e : Nlri × V) (es : List (Nlri × V)) → test e.0 ≡ true → IsSome (lookup test (e ∷ es))
  one_is_found test e es is = subst (λ (b : Bool). IsSome (cond b (Some e.1) (lookup test es))) (sym is) refl

  found_behind : (test : Nlri → Bool) (e : Nlri × V) (es : List (Nlri × V)) → IsSome (lookup test es) → IsSome (lookup test (e ∷ es))
  found_behind test e es there = by_case (test e.0) where
    by_case : (b : Bool) → IsSome (cond b (Some e.1) (lookup test es))
    by_case true = refl
    by_case false = there

  pub found_from_place : (es : List (Nlri × V)) (i : ℕ) (e : Nlri × V) → slice_get es i ≡ Some e → HasNlri es e.0
  found_from_place [] i e here = absurd cc
  found_from_place (x ∷ es) zero e here =
      let same : x ≡ e = cc in
      one_is_found (is_at (nlri_cmp e.0)) x es (ap (λ (f : Nlri × V). is_at (nlri_cmp e.0) f.0) same ∙ (eq_by_cmp_equiv nlri_total).refl e.0)
  found_from_place (x ∷ es) (suc i) e here = found_behind (is_at (nlri_cmp e.0)) x es (found_from_place es i e here)

  pub none_from_place : (es : List (Nlri × V)) → None ≡ slice_get es (length es - 1) → es ≡ []
  none_from_place [] none = refl
  none_from_place (e ∷ es) none =
      let last : length (e ∷ es) - 1 ≡ length es = omega arith in
      absurd (last_is e es (none ∙ ap (slice_get (e ∷ es)) last)) where
        last_is : (e : Nlri × V) (es : List (Nlri × V)) → None ≡ slice_get (e ∷ es) (length es) → ⊥
        last_is e [] none = cc
        last_is e (f ∷ fs) none = last_is f fs none

  -- where one of two lists has it, both together do
  pub found_first : (n : Nlri) (es fs : List (Nlri × V)) → HasNlri es n → HasNlri (es ++ fs) n
  found_first n [] fs = λ there. absurd cc
  found_first n (e ∷ es) fs = by_case (is_at (nlri_cmp n) e.0) (found_first n es fs) where
    by_case : (b : Bool) → (HasNlri es n → HasNlri (es ++ fs) n) → IsSome (cond b (Some e.1) (lookup (is_at (nlri_cmp n)) es)) → IsSome (cond b (Some e.1) (lookup (is_at (nlri_cmp n)) (es ++ fs)))
    by_case true rest there = refl
    by_case false rest there = rest there

  pub found_second : (n : Nlri) (es fs : List (Nlri × V)) → HasNlri fs n → HasNlri (es ++ fs) n
  found_second n [] fs there = there
  found_second n (e ∷ es) fs there = found_behind (is_at (nlri_cmp n)) e (es ++ fs) (found_second n es fs there)

  some_either : (o p : Option V) → IsSome o → IsSome (either o p)
  some_either None p there = absurd cc
  some_either (Some v) p there = refl

  either_some : (o p : Option V) → IsSome p → IsSome (either o p)
  either_some None p there = there
  either_some (Some v) p there = refl

  pub has_plain : (n : Nlri) (es fs : List (Nlri × V)) → HasNlri es n → HasNlri (merged es fs) n
  has_plain n es fs there = subst IsSome (sym (lookup_merged n es fs)) (some_either (lookup (is_at (nlri_cmp n)) es) (lookup (is_at (nlri_cmp n)) fs) there)

  pub has_identified : (n : Nlri) (es fs : List (Nlri × V)) → HasNlri fs n → HasNlri (merged es fs) n
  has_identified n es fs there = subst IsSome (sym (lookup_merged n es fs)) (either_some (lookup (is_at (nlri_cmp n)) es) (lookup (is_at (nlri_cmp n)) fs) there)
