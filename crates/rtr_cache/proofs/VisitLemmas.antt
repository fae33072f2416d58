-- A walk over entries by rising key, of which each does its part at its key alone.
use Rattle.std.proofs.Common.{◌≡◌, ℕ, nat_eq, true, false, cond, List, [], ◌∷◌, inl, inr, refl, sym, ap, subst, ◌∙◌, arith}
use Rattle.std.specs.declared.option.Option.{Option}
use Rattle.std.specs.declared.option.Option.TheVariants.{Some, None}
use Rattle.std.specs.declared.cmp.Ordering.TheVariants.{Less}
use Rattle.std.specs.Ordering.{nat_cmp}
use Rattle.std.specs.BTreeMap.{is_at}
use Rattle.std.specs.Map.{keys_of, lookup}
use Rattle.std.specs.List.{AllByRecursion}
use Rattle.std.specs.List.Sorted.{IsStrictlySortedBy}
use Rattle.std.proofs.lemmas.Bool.Decides.{eqb_tells, nat_tests}
use Rattle.std.proofs.lemmas.Grind.{common_steps}
use Rattle.rtr_cache.specs.Kept.{Visits, visited}
use Rattle.rtr_cache.proofs.RowLemmas.{behind, key_itself, other_key}

not_same : (q x : ℕ) → nat_cmp q x ≡ Less → is_at (nat_cmp q) x ≡ false
not_same q x e = grind (arith, common_steps, nat_tests)

-- a key below all of these isn't among them
pub missing : {X : Type 0} (k : ℕ) (left : List (ℕ × X)) → AllByRecursion (λ j. nat_cmp k j ≡ Less) (keys_of left) → lookup (is_at (nat_cmp k)) left ≡ None
missing k [] below = refl
missing k (e ∷ more) below = rw (not_same k e.0 below.0) (missing k more below.1)

pub record Visiting {X V : Type 0} (at : ℕ → Option X) (f : ℕ → X → V → V) (old : ℕ → V) (left : List (ℕ × X)) (now : ℕ → V) : Type 0 where
  pub rising : IsStrictlySortedBy nat_cmp (keys_of left)
  pub sub : (q : ℕ) (x : X) → lookup (is_at (nat_cmp q)) left ≡ Some x → at q ≡ Some x
  pub done : (q : ℕ) → lookup (is_at (nat_cmp q)) left ≡ None → now q ≡ visited (f q) (at q) (old q)
  pub todo : (q : ℕ) (x : X) → lookup (is_at (nat_cmp q)) left ≡ Some x → now q ≡ old q

module _ {X V : Type 0} (at : ℕ → Option X) (f : ℕ → X → V → V) (old : ℕ → V) where
  pub visiting_start : (left : List (ℕ × X)) → IsStrictlySortedBy nat_cmp (keys_of left) → ((q : ℕ) → at q ≡ lookup (is_at (nat_cmp q)) left) → Visiting at f old left old
  visiting_start left rising whole = record {
    rising = rising;
    sub = λ q x is. whole q ∙ is;
    done = λ q none. ap (λ (o : Option X). visited (f q) o (old q)) (sym (whole q ∙ none));
    todo = λ q x is. refl;
  }

  pub visiting_item : (k : ℕ) (x : X) (left : List (ℕ × X)) (now : ℕ → V) → Visiting at f old ((k, x) ∷ left) now → at k ≡ Some x
  visiting_item k x left now v = v.sub k x (rw (key_itself k) refl)

  next_done : (k q : ℕ) (x : X) (left : List (ℕ × X)) (now next : ℕ → V) → Visiting at f old ((k, x) ∷ left) now → ((p : ℕ) → next p ≡ cond (nat_eq k p) (f k x (now k)) (now p))
      → lookup (is_at (nat_cmp q)) left ≡ None → next q ≡ visited (f q) (at q) (old q)
  next_done k q x left now next v step none = elim (eqb_tells k q) [
    | inl same ↦ subst (λ (p : ℕ). next p ≡ visited (f p) (at p) (old p)) same.1
        (step k ∙ rw (nat_self k) (ap (λ (value : V). f k x value) (v.todo k x (rw (key_itself k) refl)) ∙ ap (λ (o : Option X). visited (f k) o (old k)) (sym (v.sub k x (rw (key_itself k) refl)))))
    | inr other ↦ step q ∙ rw other.0 (v.done q (other_key k q x left other.0 ∙ none))
  ]
    where
      nat_self : (n : ℕ) → nat_eq n n ≡ true
      nat_self n = grind (arith, nat_tests)

  next_todo : (k q : ℕ) (x y : X) (left : List (ℕ × X)) (now next : ℕ → V) → Visiting at f old ((k, x) ∷ left) now → ((p : ℕ) → next p ≡ cond (nat_eq k p) (f k x (now k)) (now p))
      → lookup (is_at (nat_cmp k)) left ≡ None → lookup (is_at (nat_cmp q)) left ≡ Some y → next q ≡ old q
  next_todo k q x y left now next v step gone is = elim (eqb_tells k q) [
    | inl same ↦ let never : ⊥ = (let e : lookup (is_at (nat_cmp q)) left ≡ None = subst (λ (p : ℕ). lookup (is_at (nat_cmp p)) left ≡ None) same.1 gone in cc) in absurd never
    | inr other ↦ step q ∙ rw other.0 (v.todo q y (other_key k q x left other.0 ∙ is))
  ]

  next_sub : (k q : ℕ) (x y : X) (left : List (ℕ × X)) (now : ℕ → V) → Visiting at f old ((k, x) ∷ left) now → lookup (is_at (nat_cmp k)) left ≡ None → lookup (is_at (nat_cmp q)) left ≡ Some y → at q ≡ Some y
  next_sub k q x y left now v gone is = v.sub q y (behind k q x y left gone is)

  pub visiting_next : (k : ℕ) (x : X) (left : List (ℕ × X)) (now next : ℕ → V) → Visiting at f old ((k, x) ∷ left) now → ((p : ℕ) → next p ≡ cond (nat_eq k p) (f k x (now k)) (now p)) → Visiting at f old left next
  unfolding IsStrictlySortedBy
  visiting_next k x left now next v step =
      let gone : lookup (is_at (nat_cmp k)) left ≡ None = missing k left v.rising.0 in
      record {
        rising = v.rising.1;
        sub = λ q y is. next_sub k q x y left now v gone is;
        done = λ q none. next_done k q x left now next v step none;
        todo = λ q y is. next_todo k q x y left now next v step gone is;
      }

  pub visiting_end : (now : ℕ → V) → Visiting at f old [] now → Visits at f old now
  visiting_end now v q = v.done q refl
