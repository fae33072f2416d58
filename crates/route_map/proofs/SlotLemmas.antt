-- From the inverse maps to what the entries of the peers say: no two have one slot, and each slot is there.
use Rattle.std.proofs.Common.{◌≡◌, ◌≢◌, ℕ, ◌<◌, Bool, true, false, cond, List, [], ◌∷◌, ◌++◌, length, length-append, slice_get, Some, arith, refl, ap, sym, subst, ◌∙◌, true≢false}
use Rattle.std.specs.declared.cmp.Ordering.{Ordering}
use Rattle.std.specs.declared.cmp.Ordering.TheVariants.{Less}
use Rattle.std.specs.BTreeMap.{is_at}
use Rattle.std.specs.List.{AllByRecursion}
use Rattle.std.specs.List.Sorted.{IsStrictlySortedBy}
use Rattle.std.specs.Map.{keys_of, lookup, remove_entry}
use Rattle.std.specs.Ordering.{is_eq, ordering_reverse}
use Rattle.std.proofs.lemmas.Map.Keys.{sorted_head, sorted_tail}
use Rattle.path_model.specs.declared.peer.Peer.{Peer}
use Rattle.path_model.specs.Key.{peer_cmp}
use Rattle.path_model.specs.Order.{peer_total}
use Rattle.route_map.specs.Slots.{IsInverse}
use Rattle.sorted_map.proofs.BlockLemmas.{all_more, all_removed, of_keys, sorted_removed}
use Rattle.route_map.proofs.InverseLemmas.{itself, same_peer, differs, within_got, got_last, one_slot}
use Rattle.route_map.proofs.ResolvedLemmas.{HoldOthers, LeavesFree}

found_behind : (e : Peer × ℕ) (es fs : List (Peer × ℕ)) → AllByRecursion (λ f. peer_cmp e.0 f.0 ≡ Less) fs → AllByRecursion (λ f. lookup (is_at (peer_cmp f.0)) es ≡ Some f.1) fs
    → AllByRecursion (λ f. lookup (is_at (peer_cmp f.0)) (e ∷ es) ≡ Some f.1) fs
found_behind e es [] below found = tt
found_behind e es (f ∷ fs) below found = (
  ap (λ (o : Ordering). cond (is_eq o) (Some e.1) (lookup (is_at (peer_cmp f.0)) es)) (peer_total.antisymm f.0 e.0 ∙ ap ordering_reverse below.0) ∙ found.0,
  found_behind e es fs below.1 found.1,
)

-- each entry is found
found_all : (es : List (Peer × ℕ)) → IsStrictlySortedBy peer_cmp (keys_of es) → AllByRecursion (λ e. lookup (is_at (peer_cmp e.0)) es ≡ Some e.1) es
found_all [] sorted = tt
found_all (e ∷ es) sorted = (
  ap (λ (b : Bool). cond b (Some e.1) (lookup (is_at (peer_cmp e.0)) es)) (itself e.0 e.0 refl),
  found_behind e es es (of_keys (λ y. peer_cmp e.0 y ≡ Less) es (sorted_head peer_cmp e.0 (keys_of es) sorted)) (found_all es (sorted_tail peer_cmp e.0 (keys_of es) sorted)),
)

-- each entry's slot holds its peer
pub held_all : (es : List (Peer × ℕ)) (ps : List Peer) → IsInverse es ps → IsStrictlySortedBy peer_cmp (keys_of es) → AllByRecursion (λ e. slice_get ps e.1 ≡ Some e.0) es
held_all es ps inverse sorted = all_more (λ e. lookup (is_at (peer_cmp e.0)) es ≡ Some e.1) (λ e. slice_get ps e.1 ≡ Some e.0) (λ e found. (inverse e.0 e.1).0 found) es (found_all es sorted)

-- and is there
pub within_all : (es : List (Peer × ℕ)) (ps : List Peer) → IsInverse es ps → IsStrictlySortedBy peer_cmp (keys_of es) → AllByRecursion (λ e. e.1 < length ps) es
within_all es ps inverse sorted = all_more (λ e. slice_get ps e.1 ≡ Some e.0) (λ e. e.1 < length ps) (λ e held. within_got ps e.0 e.1 held) es (held_all es ps inverse sorted)

both_all : {A : Type 0} (P Q : A → Type 0) (xs : List A) → AllByRecursion P xs → AllByRecursion Q xs → AllByRecursion (λ x. P x × Q x) xs
both_all P Q [] first second = tt
both_all P Q (x ∷ xs) first second = ((first.0, second.0), both_all P Q xs first.1 second.1)

module _ (ps : List Peer) (p : Peer) (n : ℕ) (here : slice_get ps n ≡ Some p) where
  other_slot : (e : Peer × ℕ) → slice_get ps e.1 ≡ Some e.0 → p ≢ e.0 → e.1 ≢ n
  other_slot e held other slot =
      let both : Some p ≡ Some e.0 = sym here ∙ sym (ap (slice_get ps) slot) ∙ held in
      let same : p ≡ e.0 = cc in
      other same

  rest_elsewhere : (q : Peer) (es : List (Peer × ℕ)) → p ≡ q → AllByRecursion (λ f. peer_cmp q f.0 ≡ Less) es → AllByRecursion (λ e. slice_get ps e.1 ≡ Some e.0) es → AllByRecursion (λ f. f.1 ≢ n) es
  rest_elsewhere q [] same below held = tt
  rest_elsewhere q (f ∷ fs) same below held = (
    other_slot f held.0 (λ again. true≢false (sym (itself q f.0 (sym same ∙ again)) ∙ ap is_eq below.0)),
    rest_elsewhere q fs same below.1 held.1,
  )

  -- its peer's entry alone has the slot
  pub others_elsewhere : (es : List (Peer × ℕ)) → IsStrictlySortedBy peer_cmp (keys_of es) → AllByRecursion (λ e. slice_get ps e.1 ≡ Some e.0) es → HoldOthers (is_at (peer_cmp p)) n es
  others_elsewhere [] sorted held = tt
  others_elsewhere (e ∷ es) sorted held = (by_case (is_at (peer_cmp p) e.0) refl, others_elsewhere es (sorted_tail peer_cmp e.0 (keys_of es) sorted) held.1) where
    by_case : (b : Bool) → is_at (peer_cmp p) e.0 ≡ b → cond b (AllByRecursion (λ f. f.1 ≢ n) es) (e.1 ≢ n)
    by_case true is = rest_elsewhere e.0 es (same_peer p e.0 is) (of_keys (λ y. peer_cmp e.0 y ≡ Less) es (sorted_head peer_cmp e.0 (keys_of es) sorted)) held.1
    by_case false is = other_slot e held.0 (differs p e.0 is)

-- where a peer is taken out and the last one gets its slot: the last one's entry has the last slot, and no entry has the freed one
module _ (es : List (Peer × ℕ)) (fs : List Peer) (z : Peer) (inverse : IsInverse es (fs ++ z ∷ [])) (sorted : IsStrictlySortedBy peer_cmp (keys_of es)) (p : Peer) (i : ℕ)
    (here : slice_get (fs ++ z ∷ []) i ≡ Some p) where
  gone_all : (gs : List (Peer × ℕ)) → IsStrictlySortedBy peer_cmp (keys_of gs) → AllByRecursion (λ e. is_at (peer_cmp p) e.0 ≡ false) (remove_entry (is_at (peer_cmp p)) gs)
  gone_all [] order = tt
  gone_all (g ∷ gs) order = by_case (is_at (peer_cmp p) g.0) refl (gone_all gs (sorted_tail peer_cmp g.0 (keys_of gs) order)) where
    by_case : (b : Bool) → is_at (peer_cmp p) g.0 ≡ b → AllByRecursion (λ e. is_at (peer_cmp p) e.0 ≡ false) (remove_entry (is_at (peer_cmp p)) gs)
        → AllByRecursion (λ e. is_at (peer_cmp p) e.0 ≡ false) (cond b gs (g ∷ remove_entry (is_at (peer_cmp p)) gs))
    by_case true is rest = all_more (λ e. peer_cmp g.0 e.0 ≡ Less) (λ e. is_at (peer_cmp p) e.0 ≡ false)
        (λ e below. subst (λ (x : Peer). is_at (peer_cmp x) e.0 ≡ false) (sym (same_peer p g.0 is)) (ap is_eq below)) gs
        (of_keys (λ y. peer_cmp g.0 y ≡ Less) gs (sorted_head peer_cmp g.0 (keys_of gs) order))
    by_case false is rest = (is, rest)

  slot_range : (e : Peer × ℕ) → slice_get (fs ++ z ∷ []) e.1 ≡ Some e.0 → z ≢ e.0 → e.1 < length fs
  slot_range e held other =
      let last : e.1 ≢ length fs = other_slot (fs ++ z ∷ []) z (length fs) (got_last fs z) e held other in
      omega (arith, last, within_got (fs ++ z ∷ []) e.0 e.1 held, length-append fs (z ∷ []))

  rest_free : (q : Peer) (gs : List (Peer × ℕ)) → z ≡ q → AllByRecursion (λ f. peer_cmp q f.0 ≡ Less) gs → AllByRecursion (λ e. is_at (peer_cmp p) e.0 ≡ false) gs
      → AllByRecursion (λ e. slice_get (fs ++ z ∷ []) e.1 ≡ Some e.0) gs → AllByRecursion (λ f. (f.1 ≢ i) × (f.1 < length fs)) gs
  rest_free q [] same below gone held = tt
  rest_free q (f ∷ gs) same below gone held = (
    (
      other_slot (fs ++ z ∷ []) p i here f held.0 (differs p f.0 gone.0),
      slot_range f held.0 (λ again. true≢false (sym (itself q f.0 (sym same ∙ again)) ∙ ap is_eq below.0)),
    ),
    rest_free q gs same below.1 gone.1 held.1,
  )

  free_all : (gs : List (Peer × ℕ)) → IsStrictlySortedBy peer_cmp (keys_of gs) → AllByRecursion (λ e. is_at (peer_cmp p) e.0 ≡ false) gs
      → AllByRecursion (λ e. slice_get (fs ++ z ∷ []) e.1 ≡ Some e.0) gs → LeavesFree (is_at (peer_cmp z)) (length fs) i gs
  free_all [] order gone held = tt
  free_all (g ∷ gs) order gone held = (by_case (is_at (peer_cmp z) g.0) refl, free_all gs (sorted_tail peer_cmp g.0 (keys_of gs) order) gone.1 held.1) where
    by_case : (b : Bool) → is_at (peer_cmp z) g.0 ≡ b → cond b ((g.1 ≡ length fs) × AllByRecursion (λ f. (f.1 ≢ i) × (f.1 < length fs)) gs) ((g.1 ≢ i) × (g.1 < length fs))
    by_case true is = (
      one_slot es (fs ++ z ∷ []) inverse g.0 g.1 (length fs) held.0 (got_last fs z ∙ ap Some (same_peer z g.0 is)),
      rest_free g.0 gs (same_peer z g.0 is) (of_keys (λ y. peer_cmp g.0 y ≡ Less) gs (sorted_head peer_cmp g.0 (keys_of gs) order)) gone.1 held.1,
    )
    by_case false is = (other_slot (fs ++ z ∷ []) p i here g held.0 (differs p g.0 gone.0), slot_range g held.0 (differs z g.0 is))

  pub leaves_free : LeavesFree (is_at (peer_cmp z)) (length fs) i (remove_entry (is_at (peer_cmp p)) es)
  leaves_free = free_all (remove_entry (is_at (peer_cmp p)) es) (sorted_removed peer_cmp (is_at (peer_cmp p)) es sorted) (gone_all es sorted)
      (all_removed (λ e. slice_get (fs ++ z ∷ []) e.1 ≡ Some e.0) (is_at (peer_cmp p)) es (held_all es (fs ++ z ∷ []) inverse sorted))

  -- where the last one goes, all others are before it
  pub left_within : i ≡ length fs → AllByRecursion (λ e. e.1 < length fs) (remove_entry (is_at (peer_cmp p)) es)
  left_within last = all_more (λ e. (is_at (peer_cmp p) e.0 ≡ false) × (slice_get (fs ++ z ∷ []) e.1 ≡ Some e.0)) (λ e. e.1 < length fs)
      (λ e both.
      let other : e.1 ≢ i = other_slot (fs ++ z ∷ []) p i here e both.1 (differs p e.0 both.0) in
      omega (arith, other, last, within_got (fs ++ z ∷ []) e.0 e.1 both.1, length-append fs (z ∷ [])))
      (remove_entry (is_at (peer_cmp p)) es)
      (both_all (λ e. is_at (peer_cmp p) e.0 ≡ false) (λ e. slice_get (fs ++ z ∷ []) e.1 ≡ Some e.0) (remove_entry (is_at (peer_cmp p)) es) (gone_all es sorted)
      (all_removed (λ e. slice_get (fs ++ z ∷ []) e.1 ≡ Some e.0) (is_at (peer_cmp p)) es (held_all es (fs ++ z ∷ []) inverse sorted)))
