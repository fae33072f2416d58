-- What a merge has at a key.
use Rattle.std.proofs.Common.{◌≡◌, ℕ, ◌+◌, ◌≤◌, Bool, true, false, true≢false, cond, List, [], ◌∷◌, length, None, Some, refl, ap, sym, subst, ◌∙◌, arith}
use Rattle.std.specs.Prelude.{map}
use Rattle.std.specs.declared.option.Option.{Option}
use Rattle.std.specs.declared.cmp.Ordering.{Ordering}
use Rattle.std.specs.declared.cmp.Ordering.TheVariants.{Less, Equal, Greater}
use Rattle.std.specs.BTreeMap.{is_at}
use Rattle.std.specs.Cmp.{eq_by_cmp_equiv}
use Rattle.std.specs.FinMap.Entries.{by_order}
use Rattle.std.specs.List.Sorted.{IsStrictlySortedBy}
use Rattle.std.specs.Map.{lookup, keys_of}
use Rattle.std.specs.Option.{unwrap_or}
use Rattle.std.specs.Ordering.{is_eq, ordering_reverse}
use Rattle.path_model.specs.declared.key.Key.{Key}
use Rattle.path_model.specs.declared.verdict.Verdict.{Verdict}
use Rattle.path_model.specs.Key.{key_cmp}
use Rattle.path_model.specs.Order.{key_total}
use Rattle.rib_store.specs.declared.merged.Row.{Row}
use Rattle.rib_store.specs.Cased.{Noted, Numbered}
use Rattle.rib_store.specs.Merge.{merge, merge_one, noted_row, route_row, both_row}
use Rattle.rib_store.proofs.KeyLemmas.{Below, below_less, same_key, none_below}

abbrev Rows : Type 0
Rows = List (Key × Row)

pub below_same : (x y : Key) (ks : List Key) → key_cmp x y ≡ Equal → Below y ks → Below x ks
below_same x y [] e h = tt
below_same x y (k ∷ ks) e h = (key_total.congr x y k e ∙ h.0, below_same x y ks e h.1)

turned : (x y : Key) → key_cmp x y ≡ Greater → key_cmp y x ≡ Less
turned x y g = key_total.antisymm y x ∙ ap ordering_reverse g

below_routes : (x : Key) (fs : Numbered) → Below x (keys_of fs) → Below x (keys_of (map route_row fs))
below_routes x [] h = tt
below_routes x (f ∷ fs) h = (h.0, below_routes x fs h.1)

below_one : (x : Key) (e : Key × Option Verdict) (rest : Numbered → Rows) → key_cmp x e.0 ≡ Less → ((fs : Numbered) → Below x (keys_of fs) → Below x (keys_of (rest fs)))
    → (fs : Numbered) → Below x (keys_of fs) → Below x (keys_of (merge_one e rest fs))
below_one x e rest l more [] h = (l, more [] tt)
below_one x e rest l more (f ∷ fs) h = by (below_one x e rest l more fs h.1) (key_cmp e.0 f.0) where
  by : Below x (keys_of (merge_one e rest fs)) → (o : Ordering) → Below x (keys_of (by_order o (noted_row e ∷ rest (f ∷ fs)) (both_row e f ∷ rest fs) (route_row f ∷ merge_one e rest fs)))
  by later Less = (l, more (f ∷ fs) h)
  by later Equal = (l, more fs h.1)
  by later Greater = (h.0, later)

below_merge : (x : Key) (es : Noted) (fs : Numbered) → Below x (keys_of es) → Below x (keys_of fs) → Below x (keys_of (merge es fs))
below_merge x [] fs he hf = below_routes x fs hf
below_merge x (e ∷ es) fs he hf = below_one x e (merge es) he.0 (λ gs hg. below_merge x es gs he.1 hg) fs hf

-- the keys are in order
abbrev pub Ascending : List Key → Type 0
Ascending [] = Unit {0}
Ascending (x ∷ xs) = Below x xs × Ascending xs

pub from_sorted : (ks : List Key) → IsStrictlySortedBy key_cmp ks → Ascending ks
unfolding IsStrictlySortedBy
from_sorted [] h = tt
from_sorted (k ∷ ks) h = (h.0, from_sorted ks h.1)

to_sorted : (ks : List Key) → Ascending ks → IsStrictlySortedBy key_cmp ks
unfolding IsStrictlySortedBy
to_sorted [] h = tt
to_sorted (k ∷ ks) h = (h.0, to_sorted ks h.1)

routes_ascend : (fs : Numbered) → Ascending (keys_of fs) → Ascending (keys_of (map route_row fs))
routes_ascend [] h = tt
routes_ascend (f ∷ fs) h = (below_routes f.0 fs h.0, routes_ascend fs h.1)

module _ (e : Key × Option Verdict) (es : Noted) (under : Below e.0 (keys_of es)) (more : (fs : Numbered) → Ascending (keys_of fs) → Ascending (keys_of (merge es fs))) where
  one_ascends : (fs : Numbered) → Ascending (keys_of fs) → Ascending (keys_of (merge_one e (merge es) fs))
  one_ascends [] h = (below_merge e.0 es [] under tt, more [] tt)
  one_ascends (f ∷ fs) h = by (one_ascends fs h.1) (key_cmp e.0 f.0) refl where
    by : Ascending (keys_of (merge_one e (merge es) fs)) → (o : Ordering) → key_cmp e.0 f.0 ≡ o
        → Ascending (keys_of (by_order o (noted_row e ∷ merge es (f ∷ fs)) (both_row e f ∷ merge es fs) (route_row f ∷ merge_one e (merge es) fs)))
    by later Less t = (below_merge e.0 es (f ∷ fs) under (t, below_less e.0 f.0 (keys_of fs) t h.0), more (f ∷ fs) h)
    by later Equal t = (below_merge e.0 es fs under (below_same e.0 f.0 (keys_of fs) t h.0), more fs h.1)
    by later Greater t = (below_one f.0 e (merge es) (turned e.0 f.0 t) (λ gs hg. below_merge f.0 es gs (below_less f.0 e.0 (keys_of es) (turned e.0 f.0 t) under) hg) fs h.0, later)

merge_ascends : (es : Noted) (fs : Numbered) → Ascending (keys_of es) → Ascending (keys_of fs) → Ascending (keys_of (merge es fs))
merge_ascends [] fs he hf = routes_ascend fs hf
merge_ascends (e ∷ es) fs he hf = one_ascends e es he.0 (λ gs hg. merge_ascends es gs he.1 hg) fs hf

pub merge_sorted : (es : Noted) (fs : Numbered) → IsStrictlySortedBy key_cmp (keys_of es) → IsStrictlySortedBy key_cmp (keys_of fs) → IsStrictlySortedBy key_cmp (keys_of (merge es fs))
merge_sorted es fs he hf = to_sorted (keys_of (merge es fs)) (merge_ascends es fs (from_sorted (keys_of es) he) (from_sorted (keys_of fs) hf))

-- ---- each key has its row

-- what either has at a key
abbrev pub joined : Option (Option Verdict) → Option ℕ → Option Row
joined None None = None
joined None (Some case) = Some (record { noted = None; case = Some case })
joined (Some noted) case = Some (record { noted = Some noted; case = case })

-- what a joined row has
part_is : {A : Type 0} (part : Row → A) (r row : Row) → Some r ≡ Some row → part row ≡ part r
part_is part r row e = sym (ap (λ (o : Option Row). part (unwrap_or o r)) e)

pub joined_note : (v : Option (Option Verdict)) (o : Option ℕ) (row : Row) → joined v o ≡ Some row → row.noted ≡ v
joined_note None None row e = absurd cc
joined_note None (Some n) row e = part_is (λ (r : Row). r.noted) (record { noted = None; case = Some n }) row e
joined_note (Some v) o row e = part_is (λ (r : Row). r.noted) (record { noted = Some v; case = o }) row e

pub joined_case : (v : Option (Option Verdict)) (o : Option ℕ) (row : Row) → joined v o ≡ Some row → row.case ≡ o
joined_case None None row e = absurd cc
joined_case None (Some n) row e = part_is (λ (r : Row). r.case) (record { noted = None; case = Some n }) row e
joined_case (Some v) o row e = part_is (λ (r : Row). r.case) (record { noted = Some v; case = o }) row e

pub joined_none : (v : Option (Option Verdict)) (o : Option ℕ) → joined v o ≡ None → (v ≡ None) × (o ≡ None)
joined_none None None e = (refl, refl)
joined_none None (Some n) e = absurd cc
joined_none (Some v) o e = absurd cc

abbrev at_key : {X : Type 0} → Key → List (Key × X) → Option X
at_key q es = lookup (is_at (key_cmp q)) es

absent : {X : Type 0} (q x : Key) (es : List (Key × X)) → q ≡ x → Below x (keys_of es) → lookup (is_at (key_cmp q)) es ≡ None
absent q x es e h = none_below q es (subst (λ (k : Key). Below k (keys_of es)) (sym e) h)

only_note : (v : Option Verdict) (o : Option ℕ) → o ≡ None → Some (record { noted = Some v; case = None }) ≡ joined (Some v) o
only_note v o none = ap (λ (c : Option ℕ). joined (Some v) c) (sym none)

only_route : (n : ℕ) (o : Option (Option Verdict)) → o ≡ None → Some (record { noted = None; case = Some n }) ≡ joined o (Some n)
only_route n o none = ap (λ (v : Option (Option Verdict)). joined v (Some n)) (sym none)

found_routes : (q : Key) (fs : Numbered) → at_key q (map route_row fs) ≡ joined None (at_key q fs)
found_routes q [] = refl
found_routes q (f ∷ fs) = by (found_routes q fs) (is_at (key_cmp q) f.0) where
  by : at_key q (map route_row fs) ≡ joined None (at_key q fs) → (b : Bool) → cond b (Some (record { noted = None; case = Some f.1 })) (at_key q (map route_row fs)) ≡ joined None (cond b (Some f.1) (at_key q fs))
  by ih true = refl
  by ih false = ih

module _ (q : Key) (e : Key × Option Verdict) (es : Noted) (under : Below e.0 (keys_of es)) (more : (fs : Numbered) → Ascending (keys_of fs) → at_key q (merge es fs) ≡ joined (at_key q es) (at_key q fs)) where
  here : (fs : Numbered) → Below e.0 (keys_of fs) → Ascending (keys_of fs) → (b : Bool) → is_at (key_cmp q) e.0 ≡ b
      → cond b (Some (record { noted = Some e.1; case = None })) (at_key q (merge es fs)) ≡ joined (cond b (Some e.1) (at_key q es)) (at_key q fs)
  here fs h asc true t = only_note e.1 (at_key q fs) (absent q e.0 fs (same_key q e.0 t) h)
  here fs h asc false t = more fs asc

  found_one : (fs : Numbered) → Ascending (keys_of fs) → at_key q (merge_one e (merge es) fs) ≡ joined (cond (is_at (key_cmp q) e.0) (Some e.1) (at_key q es)) (at_key q fs)
  found_one [] asc = here [] tt tt (is_at (key_cmp q) e.0) refl
  found_one (f ∷ fs) asc = by (found_one fs asc.1) (key_cmp e.0 f.0) refl where
    at_both : key_cmp e.0 f.0 ≡ Equal → (b : Bool) → is_at (key_cmp q) e.0 ≡ b → (c : Bool) → is_at (key_cmp q) f.0 ≡ c
        → cond b (Some (record { noted = Some e.1; case = Some f.1 })) (at_key q (merge es fs)) ≡ joined (cond b (Some e.1) (at_key q es)) (cond c (Some f.1) (at_key q fs))
    at_both t true a true b = refl
    at_both t false a false b = more fs asc.1
    at_both t true a false b = absurd (true≢false (sym (ap (λ (y : Key). is_at (key_cmp y) f.0) (same_key q e.0 a) ∙ ap is_eq t) ∙ b))
    at_both t false a true b = absurd (true≢false (sym (ap (λ (y : Key). is_at (key_cmp y) e.0) (same_key q f.0 b) ∙ (eq_by_cmp_equiv key_total).symm f.0 e.0 ∙ ap is_eq t) ∙ a))

    at_route : at_key q (merge_one e (merge es) fs) ≡ joined (cond (is_at (key_cmp q) e.0) (Some e.1) (at_key q es)) (at_key q fs) → key_cmp e.0 f.0 ≡ Greater → (c : Bool) → is_at (key_cmp q) f.0 ≡ c
        → cond c (Some (record { noted = None; case = Some f.1 })) (at_key q (merge_one e (merge es) fs)) ≡ joined (cond (is_at (key_cmp q) e.0) (Some e.1) (at_key q es)) (cond c (Some f.1) (at_key q fs))
    at_route later t true b = only_route f.1 _ (absent q f.0 (e ∷ es) (same_key q f.0 b) (turned e.0 f.0 t, below_less f.0 e.0 (keys_of es) (turned e.0 f.0 t) under))
    at_route later t false b = later

    by : at_key q (merge_one e (merge es) fs) ≡ joined (cond (is_at (key_cmp q) e.0) (Some e.1) (at_key q es)) (at_key q fs) → (o : Ordering) → key_cmp e.0 f.0 ≡ o
        → at_key q (by_order o (noted_row e ∷ merge es (f ∷ fs)) (both_row e f ∷ merge es fs) (route_row f ∷ merge_one e (merge es) fs))
        ≡ joined (cond (is_at (key_cmp q) e.0) (Some e.1) (at_key q es)) (cond (is_at (key_cmp q) f.0) (Some f.1) (at_key q fs))
    by later Less t = here (f ∷ fs) (t, below_less e.0 f.0 (keys_of fs) t asc.0) asc (is_at (key_cmp q) e.0) refl
    by later Equal t = at_both t (is_at (key_cmp q) e.0) refl (is_at (key_cmp q) f.0) refl
    by later Greater t = at_route later t (is_at (key_cmp q) f.0) refl

found_by : (q : Key) (es : Noted) (fs : Numbered) → Ascending (keys_of es) → Ascending (keys_of fs) → at_key q (merge es fs) ≡ joined (at_key q es) (at_key q fs)
found_by q [] fs he hf = found_routes q fs
found_by q (e ∷ es) fs he hf = found_one q e es he.0 (λ gs hg. found_by q es gs he.1 hg) fs hf

pub found_merge : (q : Key) (es : Noted) (fs : Numbered) → IsStrictlySortedBy key_cmp (keys_of es) → IsStrictlySortedBy key_cmp (keys_of fs)
    → lookup (is_at (key_cmp q)) (merge es fs) ≡ joined (lookup (is_at (key_cmp q)) es) (lookup (is_at (key_cmp q)) fs)
found_merge q es fs he hf = found_by q es fs (from_sorted (keys_of es) he) (from_sorted (keys_of fs) hf)

-- ---- there are no more than notes and routes

routes_length : (fs : Numbered) → length (map route_row fs) ≡ length fs
routes_length [] = refl
routes_length (f ∷ fs) = omega (arith, routes_length fs)

one_length : (e : Key × Option Verdict) (rest : Numbered → List (Key × Row)) (n : ℕ) → ((fs : Numbered) → length (rest fs) ≤ n + length fs) → (fs : Numbered) → length (merge_one e rest fs) ≤ n + 1 + length fs
one_length e rest n few [] = omega (arith, few [])
one_length e rest n few (f ∷ fs) = by (one_length e rest n few fs) (key_cmp e.0 f.0) where
  by : length (merge_one e rest fs) ≤ n + 1 + length fs → (o : Ordering) → length (by_order o (noted_row e ∷ rest (f ∷ fs)) (both_row e f ∷ rest fs) (route_row f ∷ merge_one e rest fs)) ≤ n + 1 + length (f ∷ fs)
  by ih Less = omega (arith, few (f ∷ fs))
  by ih Equal = omega (arith, few fs)
  by ih Greater = omega (arith, ih)

pub merge_length : (es : Noted) (fs : Numbered) → length (merge es fs) ≤ length es + length fs
merge_length [] fs = omega (arith, routes_length fs)
merge_length (e ∷ es) fs = omega (arith, one_length e (merge es) (length es) (λ gs. merge_length es gs) fs)
