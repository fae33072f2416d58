-- One more, one changed and one less among what belongs to peers.
use Rattle.std.proofs.Common.{◌≡◌, ◌≢◌, ℕ, zero, suc, ◌<◌, Bool, true, false, cond, List, [], ◌∷◌, ◌++◌, length, set, get_or, Some, arith, refl, ap, sym, ◌∙◌}
use Rattle.std.specs.Prelude.{option_map, ⊤}
use Rattle.std.specs.declared.cmp.Ordering.{Ordering}
use Rattle.std.specs.declared.cmp.Ordering.TheVariants.{Less, Equal, Greater}
use Rattle.std.specs.BTreeMap.{insert_entry}
use Rattle.std.specs.List.{AllByRecursion}
use Rattle.std.specs.Map.{keys_of, lookup, remove_entry, set_value}
use Rattle.std.specs.Ordering.{match_ordering}
use Rattle.path_model.specs.declared.peer.Peer.{Peer}
use Rattle.path_model.specs.Key.{peer_cmp}
use Rattle.route_map.specs.Slots.{resolved}

-- each slot is below this
abbrev pub AllBelow : ℕ → List (Peer × ℕ) → Type 0
AllBelow n es = AllByRecursion (λ e. e.1 < n) es

-- the entry that passes may have the slot, and no other
abbrev pub HoldOthers : (Peer → Bool) → ℕ → List (Peer × ℕ) → Type 0
HoldOthers test n [] = ⊤
HoldOthers test n (e ∷ es) = cond (test e.0) (AllByRecursion (λ f. f.1 ≢ n) es) (e.1 ≢ n) × HoldOthers test n es

module _ {X : Type 0} (d : X) where
  pub keys_resolved : (es : List (Peer × ℕ)) (xs : List X) → keys_of (resolved d es xs) ≡ keys_of es
  keys_resolved [] xs = refl
  keys_resolved (e ∷ es) xs = ap (λ (ks : List Peer). e.0 ∷ ks) (keys_resolved es xs)

  pub lookup_resolved : (test : Peer → Bool) (es : List (Peer × ℕ)) (xs : List X) → lookup test (resolved d es xs) ≡ option_map (λ n. get_or xs n d) (lookup test es)
  lookup_resolved test [] xs = refl
  lookup_resolved test (e ∷ es) xs = ap (cond (test e.0) (Some (get_or xs e.1 d))) (lookup_resolved test es xs) ∙ by_case (test e.0) where
    by_case : (b : Bool) → cond b (Some (get_or xs e.1 d)) (option_map (λ n. get_or xs n d) (lookup test es)) ≡ option_map (λ n. get_or xs n d) (cond b (Some e.1) (lookup test es))
    by_case true = refl
    by_case false = refl

  at_pushed : (xs : List X) (x : X) (n : ℕ) → n < length xs → get_or (xs ++ x ∷ []) n d ≡ get_or xs n d
  at_pushed [] x n within = absurd (omega (arith, within))
  at_pushed (y ∷ ys) x zero within = refl
  at_pushed (y ∷ ys) x (suc n) within = at_pushed ys x n (omega (arith, within))

  at_end : (xs : List X) (x : X) → get_or (xs ++ x ∷ []) (length xs) d ≡ x
  at_end [] x = refl
  at_end (y ∷ ys) x = at_end ys x

  -- one more changes nothing of the others
  pub resolved_more : (es : List (Peer × ℕ)) (xs : List X) (x : X) → AllByRecursion (λ e. e.1 < length xs) es → resolved d es (xs ++ x ∷ []) ≡ resolved d es xs
  resolved_more [] xs x within = refl
  resolved_more (e ∷ es) xs x within =
      ap (λ (y : X). (e.0, y) ∷ resolved d es (xs ++ x ∷ [])) (at_pushed xs x e.1 within.0) ∙ ap (λ (ys : List (Peer × X)). (e.0, get_or xs e.1 d) ∷ ys) (resolved_more es xs x within.1)

  -- one more, in the last slot
  pub resolved_pushed : (es : List (Peer × ℕ)) (xs : List X) (p : Peer) (x : X) → AllByRecursion (λ e. e.1 < length xs) es
      → resolved d (insert_entry peer_cmp es p (length xs)) (xs ++ x ∷ []) ≡ insert_entry peer_cmp (resolved d es xs) p x
  resolved_pushed [] xs p x within = ap (λ (y : X). (p, y) ∷ []) (at_end xs x)
  resolved_pushed (e ∷ es) xs p x within = by_order (peer_cmp p e.0) (resolved_pushed es xs p x within.1) where
    by_order : (o : Ordering) → resolved d (insert_entry peer_cmp es p (length xs)) (xs ++ x ∷ []) ≡ insert_entry peer_cmp (resolved d es xs) p x
        → resolved d (match_ordering o ((p, length xs) ∷ e ∷ es) ((e.0, length xs) ∷ es) (e ∷ insert_entry peer_cmp es p (length xs))) (xs ++ x ∷ [])
        ≡ match_ordering o ((p, x) ∷ resolved d (e ∷ es) xs) ((e.0, x) ∷ resolved d es xs) ((e.0, get_or xs e.1 d) ∷ insert_entry peer_cmp (resolved d es xs) p x)
    by_order Less rest = ap (λ (y : X). (p, y) ∷ resolved d (e ∷ es) (xs ++ x ∷ [])) (at_end xs x) ∙ ap (λ (ys : List (Peer × X)). (p, x) ∷ ys) (resolved_more (e ∷ es) xs x within)
    by_order Equal rest = ap (λ (y : X). (e.0, y) ∷ resolved d es (xs ++ x ∷ [])) (at_end xs x) ∙ ap (λ (ys : List (Peer × X)). (e.0, x) ∷ ys) (resolved_more es xs x within.1)
    by_order Greater rest = ap (λ (y : X). (e.0, y) ∷ resolved d (insert_entry peer_cmp es p (length xs)) (xs ++ x ∷ [])) (at_pushed xs x e.1 within.0) ∙ ap (λ (ys : List (Peer × X)). (e.0, get_or xs e.1 d) ∷ ys) rest

  at_other : (xs : List X) (x : X) (n m : ℕ) → m ≢ n → get_or (set xs n x) m d ≡ get_or xs m d
  at_other [] x n m other = refl
  at_other (y ∷ ys) x zero zero other = absurd (other refl)
  at_other (y ∷ ys) x zero (suc m) other = refl
  at_other (y ∷ ys) x (suc n) zero other = refl
  at_other (y ∷ ys) x (suc n) (suc m) other = at_other ys x n m (λ same. other (ap suc same))

  at_same : (xs : List X) (x : X) (n : ℕ) → n < length xs → get_or (set xs n x) n d ≡ x
  at_same [] x n within = absurd (omega (arith, within))
  at_same (y ∷ ys) x zero within = refl
  at_same (y ∷ ys) x (suc n) within = at_same ys x n (omega (arith, within))

  resolved_other : (es : List (Peer × ℕ)) (xs : List X) (n : ℕ) (x : X) → AllByRecursion (λ e. e.1 ≢ n) es → resolved d es (set xs n x) ≡ resolved d es xs
  resolved_other [] xs n x others = refl
  resolved_other (e ∷ es) xs n x others =
      ap (λ (y : X). (e.0, y) ∷ resolved d es (set xs n x)) (at_other xs x n e.1 others.0) ∙ ap (λ (ys : List (Peer × X)). (e.0, get_or xs e.1 d) ∷ ys) (resolved_other es xs n x others.1)

  -- one changed: its peer's entry alone has the slot
  pub resolved_set : (test : Peer → Bool) (es : List (Peer × ℕ)) (xs : List X) (n : ℕ) (x : X) → n < length xs → lookup test es ≡ Some n
      → HoldOthers test n es → resolved d es (set xs n x) ≡ set_value test (resolved d es xs) x
  resolved_set test [] xs n x within found others = absurd cc
  resolved_set test (e ∷ es) xs n x within found others = by_case (test e.0) found others.0 (λ at. resolved_set test es xs n x within at others.1) where
    by_case : (b : Bool) → cond b (Some e.1) (lookup test es) ≡ Some n → cond b (AllByRecursion (λ f. f.1 ≢ n) es) (e.1 ≢ n)
        → (lookup test es ≡ Some n → resolved d es (set xs n x) ≡ set_value test (resolved d es xs) x)
        → resolved d (e ∷ es) (set xs n x) ≡ cond b ((e.0, x) ∷ resolved d es xs) ((e.0, get_or xs e.1 d) ∷ set_value test (resolved d es xs) x)
    by_case true at other rest =
        let slot : e.1 ≡ n = cc in
        ap (λ (y : X). (e.0, y) ∷ resolved d es (set xs n x)) (ap (λ (m : ℕ). get_or (set xs n x) m d) slot ∙ at_same xs x n within) ∙ ap (λ (ys : List (Peer × X)). (e.0, x) ∷ ys) (resolved_other es xs n x other)
    by_case false at other rest =
        ap (λ (y : X). (e.0, y) ∷ resolved d es (set xs n x)) (at_other xs x n e.1 other) ∙ ap (λ (ys : List (Peer × X)). (e.0, get_or xs e.1 d) ∷ ys) (rest at)

-- the entry that passes has the last slot, and no entry has slot i
abbrev pub LeavesFree : (Peer → Bool) → ℕ → ℕ → List (Peer × ℕ) → Type 0
LeavesFree test n i [] = ⊤
LeavesFree test n i (e ∷ es) = cond (test e.0) ((e.1 ≡ n) × AllByRecursion (λ f. (f.1 ≢ i) × (f.1 < n)) es) ((e.1 ≢ i) × (e.1 < n)) × LeavesFree test n i es

module _ {X : Type 0} (d : X) where
  -- one less
  pub resolved_removed : (test : Peer → Bool) (es : List (Peer × ℕ)) (xs : List X) → resolved d (remove_entry test es) xs ≡ remove_entry test (resolved d es xs)
  resolved_removed test [] xs = refl
  resolved_removed test (e ∷ es) xs = by_case (test e.0) (resolved_removed test es xs) where
    by_case : (b : Bool) → resolved d (remove_entry test es) xs ≡ remove_entry test (resolved d es xs)
        → resolved d (cond b es (e ∷ remove_entry test es)) xs ≡ cond b (resolved d es xs) ((e.0, get_or xs e.1 d) ∷ remove_entry test (resolved d es xs))
    by_case true rest = refl
    by_case false rest = ap (λ (ys : List (Peer × X)). (e.0, get_or xs e.1 d) ∷ ys) rest

  rest_moved : (es : List (Peer × ℕ)) (fs : List X) (x : X) (i : ℕ) → AllByRecursion (λ f. (f.1 ≢ i) × (f.1 < length fs)) es → resolved d es (set fs i x) ≡ resolved d es (fs ++ x ∷ [])
  rest_moved [] fs x i all = refl
  rest_moved (e ∷ es) fs x i all =
      ap (λ (y : X). (e.0, y) ∷ resolved d es (set fs i x)) (at_other d fs x i e.1 all.0.0 ∙ sym (at_pushed d fs x e.1 all.0.1))
      ∙ ap (λ (ys : List (Peer × X)). (e.0, get_or (fs ++ x ∷ []) e.1 d) ∷ ys) (rest_moved es fs x i all.1)

  -- what lies in the last slot goes to a free one
  pub resolved_moved : (test : Peer → Bool) (es : List (Peer × ℕ)) (fs : List X) (x : X) (i : ℕ) → i < length fs → LeavesFree test (length fs) i es
      → resolved d (set_value test es i) (set fs i x) ≡ resolved d es (fs ++ x ∷ [])
  resolved_moved test [] fs x i within free = refl
  resolved_moved test (e ∷ es) fs x i within free = by_case (test e.0) free.0 (resolved_moved test es fs x i within free.1) where
    by_case : (b : Bool) → cond b ((e.1 ≡ length fs) × AllByRecursion (λ f. (f.1 ≢ i) × (f.1 < length fs)) es) ((e.1 ≢ i) × (e.1 < length fs))
        → resolved d (set_value test es i) (set fs i x) ≡ resolved d es (fs ++ x ∷ [])
        → resolved d (cond b ((e.0, i) ∷ es) (e ∷ set_value test es i)) (set fs i x) ≡ resolved d (e ∷ es) (fs ++ x ∷ [])
    by_case true last rest =
        ap (λ (y : X). (e.0, y) ∷ resolved d es (set fs i x)) (at_same d fs x i within ∙ sym (ap (λ (m : ℕ). get_or (fs ++ x ∷ []) m d) last.0 ∙ at_end d fs x))
        ∙ ap (λ (ys : List (Peer × X)). (e.0, get_or (fs ++ x ∷ []) e.1 d) ∷ ys) (rest_moved es fs x i last.1)
    by_case false other rest =
        ap (λ (y : X). (e.0, y) ∷ resolved d (set_value test es i) (set fs i x)) (at_other d fs x i e.1 other.0 ∙ sym (at_pushed d fs x e.1 other.1))
        ∙ ap (λ (ys : List (Peer × X)). (e.0, get_or (fs ++ x ∷ []) e.1 d) ∷ ys) rest
