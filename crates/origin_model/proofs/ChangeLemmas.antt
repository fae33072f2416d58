-- Lists of payloads in their order, with one payload more or less.
use Rattle.std.proofs.Common.{◌≡◌, Bool, true, false, ◌||◌, cond, List, [], ◌∷◌, ◌++◌, refl, sym, ap, subst, ◌∙◌}
use Rattle.std.specs.declared.cmp.Ordering.{Ordering}
use Rattle.std.specs.declared.cmp.Ordering.TheVariants.{Less, Equal, Greater}
use Rattle.std.specs.BTreeMap.{is_at}
use Rattle.std.specs.BTreeSet.{insert_key}
use Rattle.std.specs.Cmp.{eq_by_cmp_equiv}
use Rattle.std.specs.List.{AllByRecursion}
use Rattle.std.specs.List.Sorted.{IsStrictlySortedBy}
use Rattle.std.specs.Ordering.{is_eq, match_ordering, ordering_reverse}
use Rattle.std.specs.Set.{remove_key}
use Rattle.origin_model.specs.Vrp.{Payload, payload_cmp, payload_total}
use Rattle.origin_model.specs.VrpSet.{Gains, has}
use Rattle.origin_model.proofs.PayloadLemmas.{payload_exact, payload_itself, same_payload}

-- ---- one payload more, or less

all_inserted : (P : Payload → Type 0) (v : Payload) → P v → (ws : List Payload) → AllByRecursion P ws → AllByRecursion P (insert_key payload_cmp ws v)
all_inserted P v holds [] all = (holds, tt)
all_inserted P v holds (w ∷ ws) all = by_order (payload_cmp v w) (all_inserted P v holds ws all.1) where
  by_order : (o : Ordering) → AllByRecursion P (insert_key payload_cmp ws v) → AllByRecursion P (match_ordering o (v ∷ w ∷ ws) (w ∷ ws) (w ∷ insert_key payload_cmp ws v))
  by_order Less rest = (holds, all)
  by_order Equal rest = all
  by_order Greater rest = (all.0, rest)

all_removed : (P : Payload → Type 0) (test : Payload → Bool) (ws : List Payload) → AllByRecursion P ws → AllByRecursion P (remove_key test ws)
all_removed P test [] all = tt
all_removed P test (w ∷ ws) all = by_case (test w) (all_removed P test ws all.1) where
  by_case : (b : Bool) → AllByRecursion P (remove_key test ws) → AllByRecursion P (cond b ws (w ∷ remove_key test ws))
  by_case true rest = all.1
  by_case false rest = (all.0, rest)

all_more : (v w : Payload) → payload_cmp v w ≡ Less → (ws : List Payload) → AllByRecursion (λ y. payload_cmp w y ≡ Less) ws → AllByRecursion (λ y. payload_cmp v y ≡ Less) ws
all_more v w less [] all = tt
all_more v w less (y ∷ ys) all = (payload_total.trans v w y less all.0, all_more v w less ys all.1)

pub sorted_inserted : (v : Payload) (ws : List Payload) → IsStrictlySortedBy payload_cmp ws → IsStrictlySortedBy payload_cmp (insert_key payload_cmp ws v)
unfolding IsStrictlySortedBy
sorted_inserted v [] sorted = (tt, tt)
sorted_inserted v (w ∷ ws) sorted = by_order (payload_cmp v w) refl (sorted_inserted v ws sorted.1) where
  by_order : (o : Ordering) → payload_cmp v w ≡ o → IsStrictlySortedBy payload_cmp (insert_key payload_cmp ws v) → IsStrictlySortedBy payload_cmp (match_ordering o (v ∷ w ∷ ws) (w ∷ ws) (w ∷ insert_key payload_cmp ws v))
  by_order Less is rest = ((is, all_more v w is ws sorted.0), sorted)
  by_order Equal is rest = sorted
  by_order Greater is rest = (all_inserted (λ y. payload_cmp w y ≡ Less) v (payload_total.antisymm w v ∙ ap ordering_reverse is) ws sorted.0, rest)

pub sorted_removed : (test : Payload → Bool) (ws : List Payload) → IsStrictlySortedBy payload_cmp ws → IsStrictlySortedBy payload_cmp (remove_key test ws)
unfolding IsStrictlySortedBy
sorted_removed test [] sorted = tt
sorted_removed test (w ∷ ws) sorted = by_case (test w) (sorted_removed test ws sorted.1) where
  by_case : (b : Bool) → IsStrictlySortedBy payload_cmp (remove_key test ws) → IsStrictlySortedBy payload_cmp (cond b ws (w ∷ remove_key test ws))
  by_case true rest = sorted.1
  by_case false rest = (all_removed (λ y. payload_cmp w y ≡ Less) test ws sorted.0, rest)

or_again : (b c : Bool) → (b || c) ≡ (b || (b || c))
or_again true c = refl
or_again false c = refl

or_swap : (a b c : Bool) → (a || (b || c)) ≡ (b || (a || c))
or_swap true true c = refl
or_swap true false c = refl
or_swap false b c = refl

pub has_inserted : (v q : Payload) (ws : List Payload) → has (insert_key payload_cmp ws v) q ≡ (is_at (payload_cmp q) v || has ws q)
has_inserted v q [] = refl
has_inserted v q (w ∷ ws) = by_order (payload_cmp v w) refl (has_inserted v q ws) where
  by_order : (o : Ordering) → payload_cmp v w ≡ o → has (insert_key payload_cmp ws v) q ≡ (is_at (payload_cmp q) v || has ws q)
      → has (match_ordering o (v ∷ w ∷ ws) (w ∷ ws) (w ∷ insert_key payload_cmp ws v)) q ≡ (is_at (payload_cmp q) v || (is_at (payload_cmp q) w || has ws q))
  by_order Less is rest = refl
  by_order Equal is rest = or_again (is_at (payload_cmp q) w) (has ws q)
      ∙ ap (λ (x : Payload). is_at (payload_cmp q) x || (is_at (payload_cmp q) w || has ws q)) (sym (payload_exact v w is))
  by_order Greater is rest = ap (λ (b : Bool). is_at (payload_cmp q) w || b) rest ∙ or_swap (is_at (payload_cmp q) w) (is_at (payload_cmp q) v) (has ws q)

not_at_by : (q w : Payload) (b : Bool) → is_at (payload_cmp q) w ≡ b → (w ≡ q → ⊥) → is_at (payload_cmp q) w ≡ false
not_at_by q w true is other = absurd (other (sym (same_payload q w is)))
not_at_by q w false is other = is

not_at : (q w : Payload) → (w ≡ q → ⊥) → is_at (payload_cmp q) w ≡ false
not_at q w other = not_at_by q w (is_at (payload_cmp q) w) refl other

pub inserted_itself : (v : Payload) (ws : List Payload) → has (insert_key payload_cmp ws v) v ≡ true
inserted_itself v ws = has_inserted v v ws ∙ ap (λ (b : Bool). b || has ws v) (payload_itself v)

pub inserted_other : (v q : Payload) (ws : List Payload) → (v ≡ q → ⊥) → has (insert_key payload_cmp ws v) q ≡ has ws q
inserted_other v q ws other = has_inserted v q ws ∙ ap (λ (b : Bool). b || has ws q) (not_at q v other)

pub removed_other : (v q : Payload) (ws : List Payload) → (v ≡ q → ⊥) → has (remove_key (is_at (payload_cmp v)) ws) q ≡ has ws q
removed_other v q [] other = refl
removed_other v q (w ∷ ws) other = by_case (is_at (payload_cmp v) w) refl (removed_other v q ws other) where
  by_case : (b : Bool) → is_at (payload_cmp v) w ≡ b → has (remove_key (is_at (payload_cmp v)) ws) q ≡ has ws q
      → has (cond b ws (w ∷ remove_key (is_at (payload_cmp v)) ws)) q ≡ (is_at (payload_cmp q) w || has ws q)
  by_case true is rest = ap (λ (b : Bool). b || has ws q) (sym (not_at q w (λ e. other (same_payload v w is ∙ e))))
  by_case false is rest = ap (λ (b : Bool). is_at (payload_cmp q) w || b) rest

none_above : (v : Payload) (ws : List Payload) → AllByRecursion (λ y. payload_cmp v y ≡ Less) ws → has ws v ≡ false
none_above v [] all = refl
none_above v (w ∷ ws) all = ap (λ (o : Ordering). is_eq o || has ws v) all.0 ∙ none_above v ws all.1

pub removed_itself : (v : Payload) (ws : List Payload) → IsStrictlySortedBy payload_cmp ws → has (remove_key (is_at (payload_cmp v)) ws) v ≡ false
unfolding IsStrictlySortedBy
removed_itself v [] sorted = refl
removed_itself v (w ∷ ws) sorted = by_case (is_at (payload_cmp v) w) refl (removed_itself v ws sorted.1) where
  by_case : (b : Bool) → is_at (payload_cmp v) w ≡ b → has (remove_key (is_at (payload_cmp v)) ws) v ≡ false
      → has (cond b ws (w ∷ remove_key (is_at (payload_cmp v)) ws)) v ≡ false
  by_case true is rest = none_above v ws (subst (λ (x : Payload). AllByRecursion (λ y. payload_cmp x y ≡ Less) ws) (sym (same_payload v w is)) sorted.0)
  by_case false is rest = ap (λ (b : Bool). b || has (remove_key (is_at (payload_cmp v)) ws) v) is ∙ rest

-- ---- the set of a list's payloads

abbrev pub set_of_all : List Payload → List Payload
set_of_all [] = []
set_of_all (v ∷ vs) = insert_key payload_cmp (set_of_all vs) v

pub set_of_all-in_order : (vs : List Payload) → IsStrictlySortedBy payload_cmp (set_of_all vs)
unfolding IsStrictlySortedBy
set_of_all-in_order [] = tt
set_of_all-in_order (v ∷ vs) = sorted_inserted v (set_of_all vs) (set_of_all-in_order vs)

pub set_of_all-same : (vs : List Payload) (q : Payload) → has (set_of_all vs) q ≡ has vs q
set_of_all-same [] q = refl
set_of_all-same (v ∷ vs) q = has_inserted v q (set_of_all vs) ∙ ap (λ (b : Bool). is_at (payload_cmp q) v || b) (set_of_all-same vs q)

or_end : (b : Bool) → (b || false) ≡ b
or_end true = refl
or_end false = refl

pushed_at : (v q : Payload) (vs : List Payload) → has (vs ++ v ∷ []) q ≡ (is_at (payload_cmp q) v || has vs q)
pushed_at v q [] = refl
pushed_at v q (w ∷ ws) = ap (λ (b : Bool). is_at (payload_cmp q) w || b) (pushed_at v q ws) ∙ or_swap (is_at (payload_cmp q) w) (is_at (payload_cmp q) v) (has ws q)

-- a set that gains a payload is that of the list with it
pub gains_pushed : (old new vs : List Payload) (v : Payload) → Gains old v new → ((q : Payload) → has old q ≡ has vs q) → (q : Payload) → has new q ≡ has (vs ++ v ∷ []) q
gains_pushed old new vs v gains same q =
    gains q
    ∙ ap (λ (b : Bool). b || has old q) ((eq_by_cmp_equiv payload_total).symm v q)
    ∙ ap (λ (b : Bool). is_at (payload_cmp q) v || b) (same q)
    ∙ sym (pushed_at v q vs)
