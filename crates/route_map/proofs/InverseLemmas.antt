-- The slots after one peer more or less.
use Rattle.std.proofs.Common.{◌≡◌, ◌≢◌, ◌↔◌, ℕ, zero, suc, ◌<◌, Bool, true, false, cond, List, [], ◌∷◌, ◌++◌, length, set, slice_get, None, Some, IsSome, arith, refl, ap, sym, subst, ◌∙◌, true≢false}
use Rattle.std.specs.declared.option.Option.{Option}
use Rattle.std.specs.BTreeMap.{insert_entry, is_at}
use Rattle.std.specs.Cmp.{eq_by_cmp_equiv, Equal-is}
use Rattle.std.specs.List.Sorted.{IsStrictlySortedBy}
use Rattle.std.specs.Map.{keys_of, lookup, remove_entry, set_value}
use Rattle.std.specs.Ordering.{is_eq}
use Rattle.std.proofs.lemmas.Map.{lookup-set_value}
use Rattle.path_model.specs.declared.peer.Peer.{Peer}
use Rattle.path_model.specs.Key.{peer_cmp}
use Rattle.path_model.specs.Order.{peer_total}
use Rattle.path_model.proofs.OrderLemmas.{peer_exact}
use Rattle.route_map.specs.Slots.{IsInverse}
use Rattle.sorted_map.proofs.BlockLemmas.{lookup_inserted, lookup_removed}

-- ---- places
module _ {A : Type 0} where
  pub got_pushed : (xs : List A) (x y : A) (i : ℕ) → slice_get xs i ≡ Some y → slice_get (xs ++ x ∷ []) i ≡ Some y
  got_pushed [] x y i got = absurd cc
  got_pushed (a ∷ xs) x y zero got = got
  got_pushed (a ∷ xs) x y (suc i) got = got_pushed xs x y i got

  pub got_last : (xs : List A) (x : A) → slice_get (xs ++ x ∷ []) (length xs) ≡ Some x
  got_last [] x = refl
  got_last (a ∷ xs) x = got_last xs x

  pub pushed_cases : {C : Type 0} (xs : List A) (x y : A) (i : ℕ) → slice_get (xs ++ x ∷ []) i ≡ Some y → (slice_get xs i ≡ Some y → C) → (i ≡ length xs → x ≡ y → C) → C
  pushed_cases [] x y zero got old new = new refl cc
  pushed_cases [] x y (suc i) got old new = absurd cc
  pushed_cases (a ∷ xs) x y zero got old new = old got
  pushed_cases (a ∷ xs) x y (suc i) got old new = pushed_cases xs x y i got old (λ is same. new (ap suc is) same)

  pub within_got : (xs : List A) (y : A) (i : ℕ) → slice_get xs i ≡ Some y → i < length xs
  within_got [] y i got = absurd cc
  within_got (a ∷ xs) y zero got = omega arith
  within_got (a ∷ xs) y (suc i) got = omega (arith, within_got xs y i got)

  pub got_set : (xs : List A) (x : A) (i : ℕ) → i < length xs → slice_get (set xs i x) i ≡ Some x
  got_set [] x i within = absurd (omega (arith, within))
  got_set (a ∷ xs) x zero within = refl
  got_set (a ∷ xs) x (suc i) within = got_set xs x i (omega (arith, within))

  pub got_other : (xs : List A) (x : A) (i j : ℕ) → j ≢ i → slice_get (set xs i x) j ≡ slice_get xs j
  got_other [] x i j other = refl
  got_other (a ∷ xs) x zero zero other = absurd (other refl)
  got_other (a ∷ xs) x zero (suc j) other = refl
  got_other (a ∷ xs) x (suc i) zero other = refl
  got_other (a ∷ xs) x (suc i) (suc j) other = got_other xs x i j (λ same. other (ap suc same))

  pub set_cases : {C : Type 0} (xs : List A) (x y : A) (i j : ℕ) → slice_get (set xs i x) j ≡ Some y → (j ≡ i → x ≡ y → C) → (j ≢ i → slice_get xs j ≡ Some y → C) → C
  set_cases [] x y i j got new old = absurd cc
  set_cases (a ∷ xs) x y zero zero got new old = new refl cc
  set_cases (a ∷ xs) x y zero (suc j) got new old = old (λ same. absurd (omega (arith, same))) got
  set_cases (a ∷ xs) x y (suc i) zero got new old = old (λ same. absurd (omega (arith, same))) got
  set_cases (a ∷ xs) x y (suc i) (suc j) got new old = set_cases xs x y i j got (λ same is. new (ap suc same) is) (λ other is. old (λ same. other (omega (arith, same))) is)

-- ---- peers
pub same_peer : (p q : Peer) → is_at (peer_cmp p) q ≡ true → p ≡ q
same_peer p q is = peer_exact p q ((Equal-is (peer_cmp p q)).0 is)

pub itself : (p q : Peer) → p ≡ q → is_at (peer_cmp p) q ≡ true
itself p q same = subst (λ (x : Peer). is_at (peer_cmp p) x ≡ true) same ((eq_by_cmp_equiv peer_total).refl p)

pub differs : (p q : Peer) → is_at (peer_cmp p) q ≡ false → p ≢ q
differs p q is same = absurd (true≢false (sym (itself p q same) ∙ is))

module _ (es : List (Peer × ℕ)) (ps : List Peer) (inverse : IsInverse es ps) where
  -- a slot twice
  pub one_slot : (q : Peer) (i j : ℕ) → slice_get ps i ≡ Some q → slice_get ps j ≡ Some q → i ≡ j
  one_slot q i j here there =
      let both : Some i ≡ Some j = sym ((inverse q i).1 here) ∙ (inverse q j).1 there in
      cc

  -- ---- one more
  pub inverse_pushed : (p : Peer) → ((i : ℕ) → slice_get ps i ≢ Some p) → IsInverse (insert_entry peer_cmp es p (length ps)) (ps ++ p ∷ [])
  inverse_pushed p none q i = by_case (is_at (peer_cmp p) q) refl where
    found : (b : Bool) → is_at (peer_cmp p) q ≡ b → lookup (is_at (peer_cmp q)) (insert_entry peer_cmp es p (length ps)) ≡ cond b (Some (length ps)) (lookup (is_at (peer_cmp q)) es)
    found b is = lookup_inserted peer_total p (length ps) q es ∙ ap (λ (b : Bool). cond b (Some (length ps)) (lookup (is_at (peer_cmp q)) es)) is

    by_case : (b : Bool) → is_at (peer_cmp p) q ≡ b → (lookup (is_at (peer_cmp q)) (insert_entry peer_cmp es p (length ps)) ≡ Some i) ↔ (slice_get (ps ++ p ∷ []) i ≡ Some q)
    by_case true is = (
      λ at.
          let both : Some (length ps) ≡ Some i = sym (found true is) ∙ at in
          let slot : length ps ≡ i = cc in
          subst (λ (j : ℕ). slice_get (ps ++ p ∷ []) j ≡ Some q) slot (got_last ps p ∙ ap Some (same_peer p q is)),
      λ got. pushed_cases ps p q i got (λ old. absurd (none i (old ∙ ap Some (sym (same_peer p q is))))) (λ slot same. found true is ∙ ap Some (sym slot)),
    )
    by_case false is = (
      λ at. got_pushed ps p q i ((inverse q i).0 (sym (found false is) ∙ at)),
      λ got. pushed_cases ps p q i got (λ old. found false is ∙ (inverse q i).1 old) (λ slot same. absurd (differs p q is same)),
    )

-- ---- one less
module _ (es : List (Peer × ℕ)) (fs : List Peer) (z : Peer) (inverse : IsInverse es (fs ++ z ∷ [])) (sorted : IsStrictlySortedBy peer_cmp (keys_of es)) (p : Peer) (i : ℕ)
    (here : slice_get (fs ++ z ∷ []) i ≡ Some p) where
  removed : (q : Peer) (b : Bool) → is_at (peer_cmp p) q ≡ b → lookup (is_at (peer_cmp q)) (remove_entry (is_at (peer_cmp p)) es) ≡ cond b None (lookup (is_at (peer_cmp q)) es)
  removed q b is = lookup_removed peer_total p q es sorted ∙ ap (λ (b : Bool). cond b None (lookup (is_at (peer_cmp q)) es)) is

  single : (q : Peer) (j k : ℕ) → slice_get (fs ++ z ∷ []) j ≡ Some q → slice_get (fs ++ z ∷ []) k ≡ Some q → j ≡ k
  single = one_slot es (fs ++ z ∷ []) inverse

  -- the last one
  pub inverse_popped : i ≡ length fs → IsInverse (remove_entry (is_at (peer_cmp p)) es) fs
  inverse_popped last q j = by_case (is_at (peer_cmp p) q) refl where
    is_last : p ≡ z
    is_last =
        let both : Some p ≡ Some z = sym (subst (λ (k : ℕ). slice_get (fs ++ z ∷ []) k ≡ Some p) last here) ∙ got_last fs z in
        cc

    by_case : (b : Bool) → is_at (peer_cmp p) q ≡ b → (lookup (is_at (peer_cmp q)) (remove_entry (is_at (peer_cmp p)) es) ≡ Some j) ↔ (slice_get fs j ≡ Some q)
    by_case true is = (
      λ at.
          let both : None ≡ Some j = sym (removed q true is) ∙ at in
          absurd cc,
      λ got. absurd (omega (arith, within_got fs q j got, last, single q i j (here ∙ ap Some (same_peer p q is)) (got_pushed fs z q j got))),
    )
    by_case false is = (
      λ at. pushed_cases fs z q j ((inverse q j).0 (sym (removed q false is) ∙ at)) (λ got. got) (λ slot same. absurd (differs p q is (is_last ∙ same))),
      λ got. removed q false is ∙ (inverse q j).1 (got_pushed fs z q j got),
    )

  -- one before it
  module _ (before : i < length fs) where
    others : is_at (peer_cmp p) z ≡ false
    others = by_case (is_at (peer_cmp p) z) refl where
      by_case : (b : Bool) → is_at (peer_cmp p) z ≡ b → b ≡ false
      by_case false is = refl
      by_case true is = absurd (omega (arith, before, single z i (length fs) (here ∙ ap Some (same_peer p z is)) (got_last fs z)))

    last_at : lookup (is_at (peer_cmp z)) (remove_entry (is_at (peer_cmp p)) es) ≡ Some (length fs)
    last_at = removed z false others ∙ (inverse z (length fs)).1 (got_last fs z)

    pub last_there : IsSome (lookup (is_at (peer_cmp z)) (remove_entry (is_at (peer_cmp p)) es))
    last_there = subst (λ (o : Option ℕ). IsSome o) (sym last_at) refl

    moved : (q : Peer) (b : Bool) → is_at (peer_cmp z) q ≡ b → lookup (is_at (peer_cmp q)) (set_value (is_at (peer_cmp z)) (remove_entry (is_at (peer_cmp p)) es) i)
        ≡ cond b (Some i) (lookup (is_at (peer_cmp q)) (remove_entry (is_at (peer_cmp p)) es))
    moved q b is = lookup-set_value (eq_by_cmp_equiv peer_total) (is_at (peer_cmp z)) (λ x y same. ap is_eq (peer_total.congr z x y ((Equal-is (peer_cmp z x)).0 same))) q i (remove_entry (is_at (peer_cmp p)) es) last_there
        ∙ ap (λ (b : Bool). cond b (Some i) (lookup (is_at (peer_cmp q)) (remove_entry (is_at (peer_cmp p)) es))) is

    pub inverse_swapped : IsInverse (set_value (is_at (peer_cmp z)) (remove_entry (is_at (peer_cmp p)) es) i) (set fs i z)
    inverse_swapped q j = by_case (is_at (peer_cmp z) q) refl (is_at (peer_cmp p) q) refl where
      by_case : (b : Bool) → is_at (peer_cmp z) q ≡ b → (d : Bool) → is_at (peer_cmp p) q ≡ d
          → (lookup (is_at (peer_cmp q)) (set_value (is_at (peer_cmp z)) (remove_entry (is_at (peer_cmp p)) es) i) ≡ Some j) ↔ (slice_get (set fs i z) j ≡ Some q)
      by_case true is d same_p = (
        λ at.
            let both : Some i ≡ Some j = sym (moved q true is) ∙ at in
            let slot : i ≡ j = cc in
            subst (λ (k : ℕ). slice_get (set fs i z) k ≡ Some q) slot (got_set fs z i before ∙ ap Some (same_peer z q is)),
        λ got. set_cases fs z q i j got (λ slot same. moved q true is ∙ ap Some (sym slot))
            (λ other old. absurd (omega (arith, within_got fs q j old, single q j (length fs) (got_pushed fs z q j old) (got_last fs z ∙ ap Some (same_peer z q is))))),
      )
      by_case false is true same_p = (
        λ at.
            let both : None ≡ Some j = sym (moved q false is ∙ removed q true same_p) ∙ at in
            absurd cc,
        λ got. set_cases fs z q i j got (λ slot same. absurd (differs z q is same))
            (λ other old. absurd (other (single q j i (got_pushed fs z q j old) (here ∙ ap Some (same_peer p q same_p))))),
      )
      by_case false is false other_p = (
        λ at.
            let whole : slice_get (fs ++ z ∷ []) j ≡ Some q = (inverse q j).0 (sym (moved q false is ∙ removed q false other_p) ∙ at) in
            pushed_cases fs z q j whole
            (λ old. got_other fs z i j (λ slot.
            let both : Some p ≡ Some q = sym (subst (λ (k : ℕ). slice_get (fs ++ z ∷ []) k ≡ Some p) (sym slot) here) ∙ whole in
            let same : p ≡ q = cc in
            differs p q other_p same) ∙ old)
            (λ slot same. absurd (differs z q is same)),
        λ got. set_cases fs z q i j got (λ slot same. absurd (differs z q is same))
            (λ other old. moved q false is ∙ removed q false other_p ∙ (inverse q j).1 (got_pushed fs z q j old)),
      )
