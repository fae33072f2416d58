-- The routes of peers in slots: what is found, and one peer more, changed and less. Each value is as the code has it.
use Rattle.std.proofs.Common.{◌≡◌, ℕ, zero, suc, ◌<◌, ◌≤◌, List, [], ◌∷◌, ◌++◌, length, length-append, set, get_or, slice_get, None, Some, arith, refl, ap, sym, subst, ◌∙◌}
use Rattle.std.specs.Prelude.{option_map}
use Rattle.std.specs.declared.option.Option.{Option}
use Rattle.std.specs.BTreeMap.{insert_entry, is_at}
use Rattle.std.specs.List.Sorted.{IsStrictlySortedBy}
use Rattle.std.specs.Map.{keys_of, lookup, remove_entry, set_value}
use Rattle.std.specs.Option.{IsSome}
use Rattle.std.proofs.Math.Seq.{get_or-append_seam}
use Rattle.std.proofs.lemmas.List.{get_or_append_left, length-set, set-get_or}
use Rattle.std.proofs.lemmas.Map.{none_passes_from_lookup}
use Rattle.path_model.specs.declared.peer.Peer.{Peer}
use Rattle.path_model.specs.Key.{peer_cmp}
use Rattle.route_map.specs.Slots.{AreSlots, IsInverse, resolved}
use Rattle.sorted_map.proofs.BlockLemmas.{remove_first}
use Rattle.route_map.proofs.InverseLemmas.{within_got, inverse_pushed, inverse_popped, inverse_swapped, last_there}
use Rattle.route_map.proofs.ResolvedLemmas.{keys_resolved, lookup_resolved, resolved_pushed, resolved_set, resolved_removed, resolved_moved, resolved_more, AllBelow, LeavesFree}
use Rattle.route_map.proofs.SlotLemmas.{held_all, within_all, others_elsewhere, leaves_free, left_within}

same_or : {X : Type 0} (xs : List X) (n : ℕ) (a b : X) → n < length xs → get_or xs n a ≡ get_or xs n b
same_or [] n a b within = absurd (omega (arith, within))
same_or (x ∷ xs) zero a b within = refl
same_or (x ∷ xs) (suc n) a b within = same_or xs n a b (omega (arith, within))

pub seen_in_order : {X : Type 0} (d : X) (es : List (Peer × ℕ)) (xs : List X) (seen : List (Peer × X)) → resolved d es xs ≡ seen → IsStrictlySortedBy peer_cmp (keys_of es)
    → IsStrictlySortedBy peer_cmp (keys_of seen)
seen_in_order d es xs seen view sorted = subst (λ ps. IsStrictlySortedBy peer_cmp (keys_of ps)) view (subst (IsStrictlySortedBy peer_cmp) (sym (keys_resolved d es xs)) sorted)

module _ {X : Type 0} (d : X) (es : List (Peer × ℕ)) (xs : List X) (seen : List (Peer × X)) (view : resolved d es xs ≡ seen) (p : Peer) where
  looked_up : lookup (is_at (peer_cmp p)) seen ≡ option_map (λ n. get_or xs n d) (lookup (is_at (peer_cmp p)) es)
  looked_up = ap (lookup (is_at (peer_cmp p))) (sym view) ∙ lookup_resolved d (is_at (peer_cmp p)) es xs

  -- a peer that has no slot isn't found,
  pub none_found : lookup (is_at (peer_cmp p)) es ≡ None → lookup (is_at (peer_cmp p)) seen ≡ None
  none_found none = looked_up ∙ ap (option_map (λ n. get_or xs n d)) none

  -- and none is there to go,
  pub none_gone : lookup (is_at (peer_cmp p)) es ≡ None → seen ≡ remove_entry (is_at (peer_cmp p)) seen
  none_gone none = sym (remove_first (is_at (peer_cmp p)) [] seen (none_passes_from_lookup (is_at (peer_cmp p)) seen (none_found none)))

  -- and the other way round
  pub no_slot : lookup (is_at (peer_cmp p)) seen ≡ None → lookup (is_at (peer_cmp p)) es ≡ None
  no_slot none = by_case (lookup (is_at (peer_cmp p)) es) (sym looked_up ∙ none) where
    by_case : (o : Option ℕ) → option_map (λ n. get_or xs n d) o ≡ None → o ≡ None
    by_case None none = refl
    by_case (Some n) none = absurd cc

  -- what lies in its slot is found
  pub slot_found : (n : ℕ) (x : X) → lookup (is_at (peer_cmp p)) es ≡ Some n → n < length xs → x ≡ get_or xs n x → lookup (is_at (peer_cmp p)) seen ≡ Some x
  slot_found n x at within here = looked_up ∙ ap (option_map (λ n. get_or xs n d)) at ∙ ap Some (same_or xs n d x within ∙ sym here)

module _ {X : Type 0} (es : List (Peer × ℕ)) (ps : List Peer) (xs : List X) (slots : AreSlots es ps xs) (p : Peer) where
  -- a peer's slot is there
  pub slot_within : (n : ℕ) → lookup (is_at (peer_cmp p)) es ≡ Some n → n < length xs
  slot_within n at = omega (arith, within_got ps p n ((slots.inverse p n).0 at), slots.each)

  -- ---- what lies in a slot changes
  pub slots_set : (n : ℕ) (z : X) → AreSlots es ps (set xs n z)
  slots_set n z = record { inverse = slots.inverse; each = length-set xs n z ∙ slots.each }

  pub slot_set : (d : X) (seen : List (Peer × X)) → resolved d es xs ≡ seen → IsStrictlySortedBy peer_cmp (keys_of es) → (n : ℕ) (z : X) → lookup (is_at (peer_cmp p)) es ≡ Some n
      → resolved d es (set xs n z) ≡ set_value (is_at (peer_cmp p)) seen z
  slot_set d seen view sorted n z at =
      resolved_set d (is_at (peer_cmp p)) es xs n z (slot_within n at) at
      (others_elsewhere ps p n ((slots.inverse p n).0 at) es sorted (held_all es ps slots.inverse sorted))
      ∙ ap (λ (qs : List (Peer × X)). set_value (is_at (peer_cmp p)) qs z) view

  -- to what it was
  pub slot_same : (d : X) (seen : List (Peer × X)) → resolved d es xs ≡ seen → (n : ℕ) (x z : X) → x ≡ get_or xs n x → z ≡ x → resolved d es (set xs n z) ≡ seen
  slot_same d seen view n x z here same = ap (λ (y : X). resolved d es (set xs n y)) same ∙ ap (λ (y : X). resolved d es (set xs n y)) here
      ∙ ap (resolved d es) (set-get_or xs n x) ∙ view

  -- ---- one peer more
  module _ (es2 : List (Peer × ℕ)) (ps2 : List Peer) (xs2 : List X) (n : ℕ) (x : X) (entered : es2 ≡ insert_entry peer_cmp es p n) (peers : ps2 ≡ ps ++ p ∷ []) (more : xs2 ≡ xs ++ x ∷ [])
      (slot : n ≡ length ps) where
    pub slots_pushed : lookup (is_at (peer_cmp p)) es ≡ None → AreSlots es2 ps2 xs2
    slots_pushed none = record {
      inverse = subst (λ (fs : List (Peer × ℕ)). IsInverse fs ps2) (sym (entered ∙ ap (insert_entry peer_cmp es p) slot))
          (subst (λ (qs : List Peer). IsInverse (insert_entry peer_cmp es p (length ps)) qs) (sym peers) (inverse_pushed es ps slots.inverse p
          (λ i got.
          let both : Some i ≡ None = sym ((slots.inverse p i).1 got) ∙ none in
          absurd cc)));
      each = omega (arith, ap length peers, ap length more, length-append ps (p ∷ []), length-append xs (x ∷ []), slots.each);
    }

    pub view_pushed : (d : X) (seen : List (Peer × X)) → resolved d es xs ≡ seen → IsStrictlySortedBy peer_cmp (keys_of es) → resolved d es2 xs2 ≡ insert_entry peer_cmp seen p x
    view_pushed d seen view sorted =
        let long : n ≡ length xs = slot ∙ sym slots.each in
        ap (λ (fs : List (Peer × ℕ)). resolved d fs xs2) (entered ∙ ap (insert_entry peer_cmp es p) long)
        ∙ ap (resolved d (insert_entry peer_cmp es p (length xs))) more
        ∙ resolved_pushed d es xs p x (subst (λ (m : ℕ). AllBelow m es) (sym slots.each) (within_all es ps slots.inverse sorted))
        ∙ ap (λ (qs : List (Peer × X)). insert_entry peer_cmp qs p x) view

-- ---- one peer less
module _ {X : Type 0} (es rs : List (Peer × ℕ)) (ps fs : List Peer) (xs gs : List X) (z p : Peer) (x : X) (i : ℕ) (slots : AreSlots es ps xs) (sorted : IsStrictlySortedBy peer_cmp (keys_of es))
    (peers : ps ≡ fs ++ z ∷ []) (parts : xs ≡ gs ++ x ∷ []) (found : lookup (is_at (peer_cmp p)) es ≡ Some i) (gone : rs ≡ remove_entry (is_at (peer_cmp p)) es) where
  whole : IsInverse es (fs ++ z ∷ [])
  whole = subst (λ (qs : List Peer). IsInverse es qs) peers slots.inverse

  here : slice_get (fs ++ z ∷ []) i ≡ Some p
  here = (whole p i).0 found

  as_many : length gs ≡ length fs
  as_many = omega (arith, ap length peers, ap length parts, length-append fs (z ∷ []), length-append gs (x ∷ []), slots.each)

  left : (d : X) (seen : List (Peer × X)) → resolved d es xs ≡ seen → resolved d (remove_entry (is_at (peer_cmp p)) es) (gs ++ x ∷ []) ≡ remove_entry (is_at (peer_cmp p)) seen
  left d seen view = ap (resolved d (remove_entry (is_at (peer_cmp p)) es)) (sym parts) ∙ resolved_removed d (is_at (peer_cmp p)) es xs ∙ ap (remove_entry (is_at (peer_cmp p))) view

  -- the last one
  module _ (behind : length fs ≤ i) where
    last : i ≡ length fs
    last = omega (arith, within_got (fs ++ z ∷ []) p i here, length-append fs (z ∷ []), behind)

    pub slots_popped : AreSlots rs fs gs
    slots_popped = record { inverse = subst (λ (hs : List (Peer × ℕ)). IsInverse hs fs) (sym gone) (inverse_popped es fs z whole sorted p i here last); each = as_many }

    pub found_popped : (d : X) (seen : List (Peer × X)) → resolved d es xs ≡ seen → Some x ≡ lookup (is_at (peer_cmp p)) seen
    found_popped d seen view = sym (slot_found d es xs seen view p i x found (slot_within es ps xs slots p i found)
        (sym (ap (λ (ys : List X). get_or ys i x) parts ∙ ap (λ (n : ℕ). get_or (gs ++ x ∷ []) n x) (last ∙ sym as_many) ∙ get_or-append_seam gs x [] x)))

    pub view_popped : (d : X) (seen : List (Peer × X)) → resolved d es xs ≡ seen → resolved d rs gs ≡ remove_entry (is_at (peer_cmp p)) seen
    view_popped d seen view = ap (λ (hs : List (Peer × ℕ)). resolved d hs gs) gone
        ∙ sym (resolved_more d (remove_entry (is_at (peer_cmp p)) es) gs x (subst (λ (m : ℕ). AllBelow m (remove_entry (is_at (peer_cmp p)) es)) (sym as_many)
        (left_within es fs z whole sorted p i here last)))
        ∙ left d seen view

  -- one before it
  pub found_swapped : i < length fs → (y : X) → y ≡ get_or gs i y → (d : X) (seen : List (Peer × X)) → resolved d es xs ≡ seen → Some y ≡ lookup (is_at (peer_cmp p)) seen
  found_swapped before y there d seen view = sym (slot_found d es xs seen view p i y found (slot_within es ps xs slots p i found)
      (there ∙ sym (get_or_append_left gs (x ∷ []) y i (omega (arith, before, as_many))) ∙ sym (ap (λ (ys : List X). get_or ys i y) parts)))

  module _ (before : i < length fs) (es2 : List (Peer × ℕ)) (pointed : IsSome (lookup (is_at (peer_cmp z)) rs) → es2 ≡ set_value (is_at (peer_cmp z)) rs i) where
    entries : es2 ≡ set_value (is_at (peer_cmp z)) (remove_entry (is_at (peer_cmp p)) es) i
    entries = pointed (subst (λ (hs : List (Peer × ℕ)). IsSome (lookup (is_at (peer_cmp z)) hs)) (sym gone) (last_there es fs z whole sorted p i here before))
        ∙ ap (λ (hs : List (Peer × ℕ)). set_value (is_at (peer_cmp z)) hs i) gone

    pub slots_swapped : AreSlots es2 (set fs i z) (set gs i x)
    slots_swapped = record {
      inverse = subst (λ (hs : List (Peer × ℕ)). IsInverse hs (set fs i z)) (sym entries) (inverse_swapped es fs z whole sorted p i here before);
      each = length-set gs i x ∙ as_many ∙ sym (length-set fs i z);
    }

    pub view_swapped : (d : X) (seen : List (Peer × X)) → resolved d es xs ≡ seen → resolved d es2 (set gs i x) ≡ remove_entry (is_at (peer_cmp p)) seen
    view_swapped d seen view = ap (λ (hs : List (Peer × ℕ)). resolved d hs (set gs i x)) entries
        ∙ resolved_moved d (is_at (peer_cmp z)) (remove_entry (is_at (peer_cmp p)) es) gs x i (omega (arith, before, as_many))
        (subst (λ (m : ℕ). LeavesFree (is_at (peer_cmp z)) m i (remove_entry (is_at (peer_cmp p)) es)) (sym as_many) (leaves_free es fs z whole sorted p i here))
        ∙ left d seen view
