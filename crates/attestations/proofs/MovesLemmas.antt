-- The moves of some customers, among them all whose row moved.
use Rattle.std.proofs.Common.{◌≡◌, ◌≢◌, ℕ, nat_eq, true≢false, Bool, true, false, cond, ◌||◌, ◌&&◌, List, [], ◌∷◌, ◌++◌, None, Some, Less, refl, ap, sym, subst, ◌∙◌}
use Rattle.std.specs.declared.option.Option.{Option}
use Rattle.std.specs.List.{AllByRecursion, cons_option}
use Rattle.std.specs.List.Sorted.{IsStrictlySortedBy}
use Rattle.std.specs.Ordering.{nat_cmp}
use Rattle.std.specs.Cmp.{nat_eq_equiv}
use Rattle.std.specs.Cmp.Lexicographic.{pointwise, nat_list_eq_equiv}
use Rattle.std.proofs.lemmas.List.Elements.{All-from_recursion}
use Rattle.std.proofs.lemmas.Map.Views.{exact_unsigned_eq}
use Rattle.std.proofs.lemmas.Map.Keys.{IsStrictlyIncreasing-from_sorted}
use Rattle.path_model.specs.Authority.{Table, has}
use Rattle.attestations.specs.declared.moves.RowMove.{RowMove}
use Rattle.attestations.specs.Moves.{customers_of, IsMove, AreMoves, same_rows, moved_to, as_list, moves_of}

and_left : (a b : Bool) → (a && b) ≡ true → a ≡ true
and_left true b e = refl
and_left false b e = e

and_right : (a b : Bool) → (a && b) ≡ true → b ≡ true
and_right true b e = e
and_right false b e = absurd cc

same_items : (xs ys : List ℕ) → pointwise nat_eq xs ys ≡ true → xs ≡ ys
same_items [] [] e = refl
same_items [] (y ∷ ys) e = absurd (true≢false (sym e))
same_items (x ∷ xs) [] e = absurd (true≢false (sym e))
same_items (x ∷ xs) (y ∷ ys) e = λ i. exact_unsigned_eq x y (and_left _ _ e) i ∷ same_items xs ys (and_right _ _ e) i

pub same_rows_equal : (a b : Option (List ℕ)) → same_rows a b ≡ true → a ≡ b
same_rows_equal None None e = refl
same_rows_equal None (Some row) e = absurd (true≢false (sym e))
same_rows_equal (Some row) None e = absurd (true≢false (sym e))
same_rows_equal (Some row) (Some other) e = ap Some (same_items row other e)

same_rows_itself : (a : Option (List ℕ)) → same_rows a a ≡ true
same_rows_itself None = refl
same_rows_itself (Some row) = nat_list_eq_equiv.refl row

rows_differ : (a b : Option (List ℕ)) → same_rows a b ≡ false → a ≢ b
rows_differ a b e same = true≢false (sym (same_rows_itself a) ∙ ap (λ (o : Option (List ℕ)). same_rows a o) same ∙ e)

pub cons_told : (o : Option RowMove) (rest : List RowMove) → as_list o ++ rest ≡ cons_option o rest
cons_told None rest = refl
cons_told (Some m) rest = refl

-- ---- the moves of a list of customers

pub or_left : (b c : Bool) → (b || c) ≡ false → b ≡ false
or_left true c e = e
or_left false c e = refl

pub or_right : (b c : Bool) → (b || c) ≡ false → c ≡ false
or_right true c e = absurd (true≢false e)
or_right false c e = e

module _ (old new : Table) where
  -- a customer's move before others, where its rows are the same or not
  abbrev onto_moves : Bool → ℕ → List RowMove → List RowMove
  onto_moves same x rest = cons_option (cond same None (Some (record { customer = x; before = old x; after = new x }))) rest

  each_next : (b : Bool) (x : ℕ) (rest : List RowMove) → same_rows (old x) (new x) ≡ b → AllByRecursion (IsMove old new) rest → AllByRecursion (IsMove old new) (onto_moves b x rest)
  each_next true x rest e all = all
  each_next false x rest e all = (record { before = refl; after = refl; differ = rows_differ (old x) (new x) e }, all)

  each_is_move : (customers : List ℕ) → AllByRecursion (IsMove old new) (moves_of old new customers)
  each_is_move [] = tt
  each_is_move (x ∷ xs) = each_next (same_rows (old x) (new x)) x (moves_of old new xs) refl (each_is_move xs)

  below_next : (b : Bool) (k x : ℕ) (rest : List RowMove) → nat_cmp k x ≡ Less → AllByRecursion (λ y. nat_cmp k y ≡ Less) (customers_of rest) → AllByRecursion (λ y. nat_cmp k y ≡ Less) (customers_of (onto_moves b x rest))
  below_next true k x rest e all = all
  below_next false k x rest e all = (e, all)

  below_moved : (k : ℕ) (customers : List ℕ) → AllByRecursion (λ y. nat_cmp k y ≡ Less) customers → AllByRecursion (λ y. nat_cmp k y ≡ Less) (customers_of (moves_of old new customers))
  below_moved k [] all = tt
  below_moved k (x ∷ xs) all = below_next (same_rows (old x) (new x)) k x (moves_of old new xs) all.0 (below_moved k xs all.1)

  rising_next : (b : Bool) (x : ℕ) (rest : List RowMove) → AllByRecursion (λ y. nat_cmp x y ≡ Less) (customers_of rest) → IsStrictlySortedBy nat_cmp (customers_of rest) → IsStrictlySortedBy nat_cmp (customers_of (onto_moves b x rest))
  unfolding IsStrictlySortedBy
  rising_next true x rest below sorted = sorted
  rising_next false x rest below sorted = (below, sorted)

  moved_rise : (customers : List ℕ) → IsStrictlySortedBy nat_cmp customers → IsStrictlySortedBy nat_cmp (customers_of (moves_of old new customers))
  unfolding IsStrictlySortedBy
  moved_rise [] sorted = tt
  moved_rise (x ∷ xs) sorted = rising_next (same_rows (old x) (new x)) x (moves_of old new xs) (below_moved x xs sorted.0) (moved_rise xs sorted.1)

  others_next : (b c : Bool) (x q : ℕ) (xs : List ℕ) (rest : List RowMove) → same_rows (old x) (new x) ≡ b → nat_eq x q ≡ c → (has (customers_of rest) q ≡ false → has xs q ≡ true → new q ≡ old q)
      → has (customers_of (onto_moves b x rest)) q ≡ false → (c || has xs q) ≡ true → new q ≡ old q
  others_next true true x q xs rest e f more out here = subst (λ (k : ℕ). new k ≡ old k) (exact_unsigned_eq x q f) (sym (same_rows_equal (old x) (new x) e))
  others_next true false x q xs rest e f more out here = more out here
  others_next false true x q xs rest e f more out here = absurd (true≢false (sym f ∙ or_left (nat_eq x q) (has (customers_of rest) q) out))
  others_next false false x q xs rest e f more out here = more (or_right (nat_eq x q) (has (customers_of rest) q) out) here

  not_moved : (customers : List ℕ) (q : ℕ) → has (customers_of (moves_of old new customers)) q ≡ false → has customers q ≡ true → new q ≡ old q
  not_moved [] q out here = absurd (true≢false (sym here))
  not_moved (x ∷ xs) q out here = others_next (same_rows (old x) (new x)) (nat_eq x q) x q xs (moves_of old new xs) refl refl (not_moved xs q) out here

  -- the moves of rising customers, if the others don't move, are the moves
  pub are_moves : (customers : List ℕ) → IsStrictlySortedBy nat_cmp customers → ((x : ℕ) → has customers x ≡ false → new x ≡ old x) → AreMoves old new (moves_of old new customers)
  are_moves customers sorted still = record {
    rising = IsStrictlyIncreasing-from_sorted (customers_of (moves_of old new customers)) (moved_rise customers sorted);
    each = All-from_recursion (IsMove old new) (moves_of old new customers) (each_is_move customers);
    others = λ q out. by_case q out (has customers q) refl;
  } where
    by_case : (q : ℕ) → has (customers_of (moves_of old new customers)) q ≡ false → (b : Bool) → has customers q ≡ b → new q ≡ old q
    by_case q out true e = not_moved customers q out e
    by_case q out false e = still q e

has_first : (b c : Bool) → b ≡ true → (b || c) ≡ true
has_first true c e = refl
has_first false c e = absurd (true≢false (sym e))

has_later : (b c : Bool) → c ≡ true → (b || c) ≡ true
has_later true c e = refl
has_later false c e = e

-- rows that are the same for these customers make the same moves
pub same_moves : (one old new : Table) (customers : List ℕ) → ((x : ℕ) → has customers x ≡ true → one x ≡ old x) → moves_of one new customers ≡ moves_of old new customers
same_moves one old new [] same = refl
same_moves one old new (x ∷ xs) same = λ i. cons_option (moved_to x (same x (has_first (nat_eq x x) (has xs x) (nat_eq_equiv.refl x)) i) (new x)) (same_moves one old new xs (λ q e. same q (has_later (nat_eq x q) (has xs q) e)) i)

-- where nothing changes nothing moves
pub no_moves : (table : Table) (moves : List RowMove) → moves ≡ [] → AreMoves table table moves
unfolding IsStrictlySortedBy
no_moves table moves none = subst (λ (ms : List RowMove). AreMoves table table ms) (sym none) (are_moves table table [] tt (λ x out. refl))
