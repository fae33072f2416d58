-- What is held, part by part: the routes, and the marks.
use Rattle.std.proofs.Common.{◌≡◌, ◌≤◌, Bool, true, false, cond, List, [], ◌∷◌, length, None, Some, arith, refl, ap, sym, ◌∙◌}
use Rattle.std.specs.Prelude.{map}
use Rattle.std.specs.declared.option.Option.{Option}
use Rattle.std.specs.declared.cmp.Ordering.{Ordering}
use Rattle.std.specs.BTreeMap.{is_at}
use Rattle.std.specs.FinMap.{get, from_entries}
use Rattle.std.specs.List.{filter_map, cons_option}
use Rattle.std.specs.List.Sorted.{IsStrictlySortedBy}
use Rattle.std.specs.Map.{lookup, keys_of}
use Rattle.std.specs.Option.{option_map, unwrap_or}
use Rattle.std.specs.Ordering.{is_eq}
use Rattle.std.proofs.lemmas.Map.Keys.{sorted_head, sorted_tail}
use Rattle.path_model.specs.declared.key.Key.{Key}
use Rattle.path_model.specs.Key.{key_cmp}
use Rattle.path_model.specs.Order.{key_total}
use Rattle.path_model.proofs.MapLemmas.{get_entries}
use Rattle.rib_store.specs.Held.{Held, at, parts}
use Rattle.rib_store.proofs.KeyLemmas.{same_key, Below}

-- ---- a list that keeps some entries, with their keys

module _ {X Y : Type 0} (key : Y → Key) (g : Key × X → Option Y) (keeps : (e : Key × X) (y : Y) → g e ≡ Some y → key y ≡ e.0) where
  kept_below : (x : Key) (es : List (Key × X)) → Below x (keys_of es) → Below x (map key (filter_map g es))
  kept_below x [] h = tt
  kept_below x (e ∷ es) h = by (kept_below x es h.1) (g e) refl where
    by : Below x (map key (filter_map g es)) → (o : Option Y) → g e ≡ o → Below x (map key (cons_option o (filter_map g es)))
    by ih None t = ih
    by ih (Some y) t = (ap (key_cmp x) (keeps e y t) ∙ h.0, ih)

  pub kept_sorted : (es : List (Key × X)) → IsStrictlySortedBy key_cmp (keys_of es) → IsStrictlySortedBy key_cmp (map key (filter_map g es))
  unfolding IsStrictlySortedBy
  kept_sorted [] sorted = tt
  kept_sorted (e ∷ es) sorted = by (kept_sorted es sorted.1) (g e) refl where
    by : IsStrictlySortedBy key_cmp (map key (filter_map g es)) → (o : Option Y) → g e ≡ o → IsStrictlySortedBy key_cmp (map key (cons_option o (filter_map g es)))
    by ih None t = ih
    by ih (Some y) t = (kept_below (key y) es (rw (keeps e y t) sorted.0), ih)

pub fewer : {X Y : Type 0} (g : X → Option Y) (es : List X) → length (filter_map g es) ≤ length es
fewer g [] = omega arith
fewer g (e ∷ es) = by (fewer g es) (g e) where
  by : length (filter_map g es) ≤ length es → (o : _) → length (cons_option o (filter_map g es)) ≤ length (e ∷ es)
  by ih None = omega (arith, ih)
  by ih (Some y) = omega (arith, ih)

pub fewer_parts : {A : Type 0} (part : Held → Option A) (es : List (Key × Held)) → length (parts part es) ≤ length es
fewer_parts part es = fewer (λ e. option_map (λ v. (e.0, v)) (part e.1)) es

-- ---- one part

abbrev pub part_of : {A : Type 0} → (Held → Option A) → Option Held → Option A
part_of part None = None
part_of part (Some h) = part h

keeps_part : {A : Type 0} (k : Key) (o : Option A) (y : Key × A) → option_map (λ v. (k, v)) o ≡ Some y → y.0 ≡ k
keeps_part k None y h = absurd cc
keeps_part {A} k (Some v) y h = ap (λ (o : Option (Key × A)). (unwrap_or o (k, v)).0) (sym h)

module _ {A : Type 0} (part : Held → Option A) where
  pub parts_sorted : (es : List (Key × Held)) → IsStrictlySortedBy key_cmp (keys_of es) → IsStrictlySortedBy key_cmp (keys_of (parts part es))
  parts_sorted es sorted = kept_sorted (λ (y : Key × A). y.0) (λ e. option_map (λ v. (e.0, v)) (part e.1)) (λ e y h. keeps_part e.0 (part e.1) y h) es sorted

  lookup_cons : (q : Key) (k : Key) (o : Option A) (es : List (Key × A)) → lookup (is_at (key_cmp q)) (cons_option (option_map (λ v. (k, v)) o) es) ≡ cond (is_at (key_cmp q) k) (elim o [ None ↦ lookup (is_at (key_cmp q)) es | Some v ↦ Some v ]) (lookup (is_at (key_cmp q)) es)
  lookup_cons q k None es = elim (is_at (key_cmp q) k) as (λ (b : Bool). lookup (is_at (key_cmp q)) es ≡ cond b (lookup (is_at (key_cmp q)) es) (lookup (is_at (key_cmp q)) es)) [ true ↦ refl | false ↦ refl ]
  lookup_cons q k (Some v) es = refl

  below_none : (q x : Key) (es : List (Key × Held)) → q ≡ x → Below x (keys_of es) → lookup (is_at (key_cmp q)) (parts part es) ≡ None
  below_none q x [] e h = refl
  below_none q x (f ∷ fs) e h = lookup_cons q f.0 (part f.1) (parts part fs)
      ∙ ap (λ (o : Ordering). cond (is_eq o) (elim (part f.1) [ None ↦ lookup (is_at (key_cmp q)) (parts part fs) | Some v ↦ Some v ]) (lookup (is_at (key_cmp q)) (parts part fs))) (ap (λ (y : Key). key_cmp y f.0) e ∙ h.0)
      ∙ below_none q x fs e h.1

  lookup_parts : (q : Key) (es : List (Key × Held)) → IsStrictlySortedBy key_cmp (keys_of es) → lookup (is_at (key_cmp q)) (parts part es) ≡ part_of part (at q es)
  lookup_parts q [] sorted = refl
  lookup_parts q (e ∷ es) sorted = lookup_cons q e.0 (part e.1) (parts part es) ∙ by (lookup_parts q es (sorted_tail key_cmp e.0 (keys_of es) sorted)) (is_at (key_cmp q) e.0) refl where
    or_none : (o : Option A) (r : Option A) → r ≡ None → elim o [ None ↦ r | Some v ↦ Some v ] ≡ o
    or_none None r n = n
    or_none (Some v) r n = refl

    by : lookup (is_at (key_cmp q)) (parts part es) ≡ part_of part (at q es) → (b : Bool) → is_at (key_cmp q) e.0 ≡ b
        → cond b (elim (part e.1) [ None ↦ lookup (is_at (key_cmp q)) (parts part es) | Some v ↦ Some v ]) (lookup (is_at (key_cmp q)) (parts part es)) ≡ part_of part (cond b (Some e.1) (at q es))
    by ih true t = or_none (part e.1) _ (below_none q e.0 es (same_key q e.0 t) (sorted_head key_cmp e.0 (keys_of es) sorted))
    by ih false t = ih

  pub get_part : (q : Key) (es : List (Key × Held)) → IsStrictlySortedBy key_cmp (keys_of es) → get (from_entries {R = key_cmp} (parts part es)) q ≡ part_of part (at q es)
  get_part q es sorted = get_entries key_total (parts part es) q ∙ lookup_parts q es sorted
