-- Words in a list without gaps and their places in a map: a word comes, and one goes.
use Rattle.std.proofs.Common.{◌≡◌, ◌≢◌, ℕ, nat_eq, ◌+◌, ◌-◌, ◌<◌, ◌≤◌, ◌^◌, Bool, true, false, cond, List, [], ◌∷◌, ◌++◌, length, get_or, set, Some, None, refl, ap, sym, subst, ◌∙◌, arith, true≢false, inl, inr, ◌⊎◌}
use Rattle.std.specs.declared.option.Option.{Option}
use Rattle.std.specs.Cmp.{nat_cmp_total, nat_eq_equiv, unsigned_tied}
use Rattle.std.specs.FinMap.{FinMap, get, insert, remove, empty, get-insert, get-remove, get-empty, same_map, nat_cmp-IsAntisymmetric}
use Rattle.std.specs.Ordering.{nat_cmp}
use Rattle.std.proofs.lemmas.Bool.{cases_lt}
use Rattle.std.proofs.lemmas.List.{length-append, length-take, length-set, get_or-take, get_or-set_other, get_or-set_same, get_or_default}
use Rattle.std.specs.List.{swap_remove}
use Rattle.std.specs.Option.{IfSome}
use Rattle.std.proofs.Math.ListN.{get_or-append}
use Rattle.std.proofs.Math.Seq.{get_or-append_seam}
use Rattle.std.proofs.lemmas.Map.Views.{exact_unsigned_eq}
use Rattle.hop_index.specs.Places.{IsAt, AreInverse}

told : (b : Bool) → (b ≡ true) ⊎ (b ≡ false)
told true = inl refl
told false = inr refl

pub cases_ne : (a b : ℕ) → (a ≡ b) ⊎ (a ≢ b)
cases_ne a b = elim (told (nat_eq a b)) [
  | inl is ↦ inl (exact_unsigned_eq a b is)
  | inr other ↦ inr (λ e. true≢false (sym (nat_eq_equiv.refl b) ∙ ap (λ (x : ℕ). nat_eq x b) (sym e) ∙ other))
]

-- a map at the word that was changed, and at another
pub get_here : (m : FinMap nat_cmp ℕ) (k v q : ℕ) → ((q ≡ k) × (get (insert m k v) q ≡ Some v)) ⊎ ((q ≢ k) × (get (insert m k v) q ≡ get m q))
get_here m k v q = elim (told (nat_eq q k)) [
  | inl is ↦ inl (exact_unsigned_eq q k is, get-insert nat_cmp_total m k v q ∙ ap (λ (b : Bool). cond b (Some v) (get m q)) (unsigned_tied q k ∙ is))
  | inr other ↦ inr (
    (λ e. true≢false (sym (nat_eq_equiv.refl k) ∙ ap (λ (x : ℕ). nat_eq x k) (sym e) ∙ other)),
    get-insert nat_cmp_total m k v q ∙ ap (λ (b : Bool). cond b (Some v) (get m q)) (unsigned_tied q k ∙ other),
  )
]

pub gone_here : (m : FinMap nat_cmp ℕ) (k q : ℕ) → ((q ≡ k) × (get (remove m k) q ≡ None)) ⊎ ((q ≢ k) × (get (remove m k) q ≡ get m q))
gone_here m k q = elim (told (nat_eq q k)) [
  | inl is ↦ inl (exact_unsigned_eq q k is, get-remove nat_cmp_total m k q ∙ ap (λ (b : Bool). cond b None (get m q)) (unsigned_tied q k ∙ is))
  | inr other ↦ inr (
    (λ e. true≢false (sym (nat_eq_equiv.refl k) ∙ ap (λ (x : ℕ). nat_eq x k) (sym e) ∙ other)),
    get-remove nat_cmp_total m k q ∙ ap (λ (b : Bool). cond b None (get m q)) (unsigned_tied q k ∙ other),
  )
]

pub none_at : (o : Option ℕ) (v : ℕ) → o ≡ None → o ≡ Some v → true ≡ false
none_at o v a b = let both : ◌≡◌ {A = Option ℕ} None (Some v) = sym a ∙ b in absurd cc

pub same_at : (v w : ℕ) → ◌≡◌ {A = Option ℕ} (Some v) (Some w) → v ≡ w
same_at v w e = cc

-- no words
pub none_inverse : (m : FinMap nat_cmp ℕ) (words : List ℕ) → m ≡ empty → words ≡ [] → AreInverse m words
none_inverse m words em ew = record {
  found = λ word at e. absurd (true≢false (none_at (get m word) at (ap (λ (x : FinMap nat_cmp ℕ). get x word) em ∙ get-empty nat_cmp word) e));
  finds = λ at lt. absurd (omega (arith, lt, ap length ew));
  few = omega (arith, ap length ew);
}

-- a word that isn't there is added at the end
module _ (m : FinMap nat_cmp ℕ) (words : List ℕ) (word : ℕ) (inverse : AreInverse m words) (absent : get m word ≡ None) where
  last : get_or (words ++ word ∷ []) (length words) 0 ≡ word
  last = get_or-append_seam words word [] 0

  more_words : length (words ++ word ∷ []) ≡ length words + 1
  more_words = length-append words (word ∷ [])

  pub added_at_end : IsAt (words ++ word ∷ []) word (length words)
  added_at_end = record { within = omega (arith, more_words); same = last }

  pub added_inverse : length words < 2 ^ 32 - 1 → AreInverse (insert m word (length words)) (words ++ word ∷ [])
  added_inverse small = record {
    found = λ w at e. elim (get_here m word (length words) w) [
      | inl here ↦
          let is : length words ≡ at = same_at (length words) at (sym here.1 ∙ e) in
          subst (λ (n : ℕ). IsAt (words ++ word ∷ []) w n) is (subst (λ (x : ℕ). IsAt (words ++ word ∷ []) x (length words)) (sym here.0) added_at_end)
      | inr there ↦
          let p = inverse.found w at (sym there.1 ∙ e) in
          record { within = omega (arith, more_words, p.within); same = get_or-append words (word ∷ []) 0 at p.within ∙ p.same }
    ];
    finds = λ at lt. elim (cases_lt at (length words)) [
      | inl below ↦
          let x : ℕ = get_or words at 0 in
          ap (get (insert m word (length words))) (get_or-append words (word ∷ []) 0 at below)
          ∙ elim (get_here m word (length words) x) [
            | inl here ↦ absurd (true≢false (none_at (get m word) at absent (ap (get m) (sym here.0) ∙ inverse.finds at below)))
            | inr there ↦ there.1 ∙ inverse.finds at below
          ]
      | inr above ↦
          let is : at ≡ length words = omega (arith, above, lt, more_words) in
          ap (λ (n : ℕ). get (insert m word (length words)) (get_or (words ++ word ∷ []) n 0)) is ∙ ap (get (insert m word (length words))) last
          ∙ elim (get_here m word (length words) word) [ inl here ↦ here.1 | inr there ↦ absurd (there.0 refl) ]
          ∙ ap Some (sym is)
    ];
    few = omega (arith, more_words, small);
  }

  pub undone : (number : ℕ) → remove (insert m word number) word ≡ m
  undone number = same_map nat_cmp_total nat_cmp-IsAntisymmetric _ _ (λ q. elim (gone_here (insert m word number) word q) [
    | inl gone ↦ gone.1 ∙ sym (ap (get m) gone.0 ∙ absent)
    | inr left ↦ left.1 ∙ elim (get_here m word number q) [ inl here ↦ absurd (left.0 here.0) | inr there ↦ there.1 ]
  ])

-- the last word gets the place of one that goes
module _ (m : FinMap nat_cmp ℕ) (words left : List ℕ) (word at : ℕ) (inverse : AreInverse m words) (inside : at < length words) (is : get_or words at 0 ≡ word)
    (fewer : length left + 1 ≡ length words) (others : (i : ℕ) → i < length left → i ≢ at → get_or left i 0 ≡ get_or words i 0)
    (moved : at < length left → get_or left at 0 ≡ get_or words (length left) 0) where
  place_of : (a b : ℕ) → a < length words → b < length words → get_or words a 0 ≡ get_or words b 0 → a ≡ b
  place_of a b la lb e = same_at a b (sym (inverse.finds a la) ∙ ap (get m) e ∙ inverse.finds b lb)

  pub last_left : length left ≤ at → AreInverse (remove m word) left
  last_left end = record {
    found = λ w i e. elim (gone_here m word w) [
      | inl gone ↦ absurd (true≢false (none_at (get (remove m word) w) i gone.1 e))
      | inr there ↦
          let p = inverse.found w i (sym there.1 ∙ e) in
          elim (cases_lt i (length left)) [
            | inl below ↦ record { within = below; same = others i below (λ same. omega (arith, same, below, end)) ∙ p.same }
            | inr above ↦
                let same : i ≡ at = omega (arith, above, p.within, fewer, end, inside) in
                absurd (there.0 (sym p.same ∙ ap (λ (n : ℕ). get_or words n 0) same ∙ is))
          ]
    ];
    finds = λ i below.
        let ne : i ≢ at = λ same. omega (arith, same, below, end) in
        let within : i < length words = omega (arith, below, fewer) in
        ap (get (remove m word)) (others i below ne)
        ∙ elim (gone_here m word (get_or words i 0)) [
          | inl gone ↦ absurd (ne (place_of i at within inside (gone.0 ∙ sym is)))
          | inr there ↦ there.1 ∙ inverse.finds i within
        ];
    few = omega (arith, fewer, inverse.few);
  }

  pub other_left : at < length left → AreInverse (insert (remove m word) (get_or left at 0) at) left
  other_left mid =
      let end : length left < length words = omega (arith, fewer) in
      let last : ℕ = get_or left at 0 in
      record {
        found = λ w i e. elim (get_here (remove m word) last at w) [
          | inl here ↦
              let same : at ≡ i = same_at at i (sym here.1 ∙ e) in
              record { within = omega (arith, same, mid); same = ap (λ (n : ℕ). get_or left n 0) (sym same) ∙ sym here.0 }
          | inr there ↦ elim (gone_here m word w) [
            | inl gone ↦ absurd (true≢false (none_at (get (remove m word) w) i gone.1 (sym there.1 ∙ e)))
            | inr kept ↦
                let p = inverse.found w i (sym kept.1 ∙ sym there.1 ∙ e) in
                let ne : i ≢ at = λ same. kept.0 (sym p.same ∙ ap (λ (n : ℕ). get_or words n 0) same ∙ is) in
                elim (cases_lt i (length left)) [
                  | inl below ↦ record { within = below; same = others i below ne ∙ p.same }
                  | inr above ↦
                      let same : i ≡ length left = omega (arith, above, p.within, fewer) in
                      absurd (there.0 (sym p.same ∙ ap (λ (n : ℕ). get_or words n 0) same ∙ sym (moved mid)))
                ]
          ]
        ];
        finds = λ i below. elim (get_here (remove m word) last at (get_or left i 0)) [
          | inl here ↦ here.1 ∙ ap Some (elim (cases_ne i at) [
            | inl same ↦ sym same
            | inr ne ↦ absurd (omega (arith, below, place_of i (length left) (omega (arith, below, fewer)) end (sym (others i below ne) ∙ here.0 ∙ moved mid)))
          ])
          | inr there ↦ there.1 ∙ elim (cases_ne i at) [
            | inl same ↦ absurd (there.0 (ap (λ (n : ℕ). get_or left n 0) same))
            | inr ne ↦
                let within : i < length words = omega (arith, below, fewer) in
                ap (get (remove m word)) (others i below ne)
                ∙ elim (gone_here m word (get_or words i 0)) [
                  | inl gone ↦ absurd (ne (place_of i at within inside (gone.0 ∙ sym is)))
                  | inr kept ↦ kept.1 ∙ inverse.finds i within
                ]
          ]
        ];
        few = omega (arith, fewer, inverse.few);
      }

  -- the last word stands in the map until it is moved
  pub kept_last : at < length left → get (remove m word) (get_or left at 0) ≡ Some (length left)
  kept_last mid =
      let end : length left < length words = omega (arith, fewer) in
      ap (get (remove m word)) (moved mid)
      ∙ elim (gone_here m word (get_or words (length left) 0)) [
        | inl gone ↦ absurd (omega (arith, mid, place_of (length left) at end inside (gone.0 ∙ sym is)))
        | inr kept ↦ kept.1 ∙ inverse.finds (length left) end
      ]

-- what `swap_remove` leaves
module _ {A : Type 0} (xs left : List A) (at : ℕ) (x d : A) (inside : at < length xs) (items : left ≡ swap_remove xs at x) where
  pub left_fewer : length left + 1 ≡ length xs
  left_fewer = omega (arith, ap length items, length-take (length xs - 1) (set xs at (get_or xs (length xs - 1) x)), length-set xs at (get_or xs (length xs - 1) x))

  pub left_others : (i : ℕ) → i < length left → i ≢ at → get_or left i d ≡ get_or xs i d
  left_others i below ne =
      let e : length left + 1 ≡ length xs = left_fewer in
      ap (λ (ys : List A). get_or ys i d) items
      ∙ get_or-take (length xs - 1) (set xs at (get_or xs (length xs - 1) x)) i d (omega (arith, below, e))
      ∙ get_or-set_other xs at i (get_or xs (length xs - 1) x) d ne

  pub left_moved : at < length left → get_or left at d ≡ get_or xs (length left) d
  left_moved mid =
      let e : length left + 1 ≡ length xs = left_fewer in
      let last : length xs - 1 ≡ length left = omega (arith, e) in
      ap (λ (ys : List A). get_or ys at d) items
      ∙ get_or-take (length xs - 1) (set xs at (get_or xs (length xs - 1) x)) at d (omega (arith, mid, e))
      ∙ get_or-set_same xs at (get_or xs (length xs - 1) x) d inside
      ∙ get_or_default xs (length xs - 1) x d (omega (arith, inside))
      ∙ ap (λ (n : ℕ). get_or xs n d) last

pub inverse_at : (m n : FinMap nat_cmp ℕ) (words : List ℕ) → m ≡ n → AreInverse n words → AreInverse m words
inverse_at m n words e = subst (λ (x : FinMap nat_cmp ℕ). AreInverse x words) (sym e)

pub inverse_of : (m : FinMap nat_cmp ℕ) (words others : List ℕ) → words ≡ others → AreInverse m others → AreInverse m words
inverse_of m words others e = subst (λ (x : List ℕ). AreInverse m x) (sym e)

pub some_of : (o : Option ℕ) (v : ℕ) (P : Type 0) → o ≡ Some v → IfSome o (λ _. P) → P
some_of None v P e h = absurd (true≢false (none_at None v refl e))
some_of (Some x) v P e h = h

-- a word that isn't there goes
pub none_removed : (m : FinMap nat_cmp ℕ) (word : ℕ) → get m word ≡ None → remove m word ≡ m
none_removed m word absent = same_map nat_cmp_total nat_cmp-IsAntisymmetric _ _ (λ q. elim (gone_here m word q) [
  | inl gone ↦ gone.1 ∙ sym (ap (get m) gone.0 ∙ absent)
  | inr left ↦ left.1
])
