-- Maps that are made of entries, value by value and list by list.
use Rattle.std.proofs.Common.{◌≡◌, ℕ, nat_eq, Bool, true, false, cond, List, [], ◌∷◌, ◌++◌, is_some, Less, refl, ap, sym, ◌∙◌, subst}
use Rattle.std.specs.declared.option.Option.{Option}
use Rattle.std.specs.declared.option.Option.TheVariants.{Some, None}
use Rattle.std.specs.Option.{option_map}
use Rattle.std.specs.Ordering.{nat_cmp, eq_by_cmp, is_eq}
use Rattle.std.specs.Cmp.{nat_cmp_total, tied_itself, unsigned_tied}
use Rattle.std.specs.FinMap as map
use Rattle.std.specs.List.{AllByRecursion, IsDistinct}
use Rattle.std.specs.List.Sorted.{IsStrictlySortedBy}
use Rattle.std.specs.Map.{keys_of}
use Rattle.std.proofs.lemmas.Map.Keys.{IsDistinct-from_sorted, sorted_head}
use Rattle.attestations.specs.Terms.{EachRowNeverEnds, each, never_ending, terms_of}

-- the first that is there
abbrev pub first : {X : Type 0} → Option X → Option X → Option X
first None other = other
first (Some x) other = Some x

first_kept : {X : Type 0} (b : Bool) (x : X) (one other : Option X) → cond b (Some x) (first one other) ≡ first (cond b (Some x) one) other
first_kept true x one other = refl
first_kept false x one other = refl

-- what a list of two parts has is what the first has, or else the second
pub find-append : {X : Type 0} (q : ℕ) (es fs : List (ℕ × X)) → map.find nat_cmp q (es ++ fs) ≡ first (map.find nat_cmp q es) (map.find nat_cmp q fs)
find-append q [] fs = refl
find-append q (e ∷ es) fs = ap (cond (eq_by_cmp nat_cmp q e.0) (Some e.1)) (find-append q es fs) ∙ first_kept (eq_by_cmp nat_cmp q e.0) e.1 (map.find nat_cmp q es) (map.find nat_cmp q fs)

changed_kept : {X Y : Type 0} (f : X → Y) (b : Bool) (x : X) (o : Option X) → cond b (Some (f x)) (option_map f o) ≡ option_map f (cond b (Some x) o)
changed_kept f true x o = refl
changed_kept f false x o = refl

-- each value changed
pub find-each : {X Y : Type 0} (f : X → Y) (q : ℕ) (es : List (ℕ × X)) → map.find nat_cmp q (each f es) ≡ option_map f (map.find nat_cmp q es)
find-each f q [] = refl
find-each f q (e ∷ es) = ap (cond (eq_by_cmp nat_cmp q e.0) (Some (f e.1))) (find-each f q es) ∙ changed_kept f (eq_by_cmp nat_cmp q e.0) e.1 (map.find nat_cmp q es)

-- each row as one attestation that never ends
pub each_never_ends : EachRowNeverEnds
each_never_ends rows q = map.get-from_entries nat_cmp_total (each never_ending (map.entries rows)) q ∙ find-each never_ending q (map.entries rows) ∙ ap (option_map never_ending) (sym (map.get-entries rows q))

-- where there are no rows there is nothing
pub no_terms : terms_of map.empty ≡ map.empty
no_terms = map.same_map nat_cmp_total map.nat_cmp-IsAntisymmetric (terms_of map.empty) map.empty (λ q.
    each_never_ends map.empty q ∙ ap (option_map never_ending) (map.get-empty nat_cmp q) ∙ sym (map.get-empty nat_cmp q))

-- ---- keys

some_none : {X : Type 0} {x : X} → Some x ≡ None → ⊥
some_none e = cc

abbrev IsApart : ℕ → List ℕ → Type 0
IsApart q ks = AllByRecursion (λ k. nat_eq q k ≡ false) ks

keys_each : {X Y : Type 0} (f : X → Y) (es : List (ℕ × X)) → keys_of (each f es) ≡ keys_of es
keys_each f [] = refl
keys_each f (e ∷ es) = ap (λ (ks : List ℕ). e.0 ∷ ks) (keys_each f es)

keys_append : {X : Type 0} (es fs : List (ℕ × X)) → keys_of (es ++ fs) ≡ keys_of es ++ keys_of fs
keys_append [] fs = refl
keys_append (e ∷ es) fs = ap (λ (ks : List ℕ). e.0 ∷ ks) (keys_append es fs)

apart_from_none : {X : Type 0} (q : ℕ) (es : List (ℕ × X)) → map.find nat_cmp q es ≡ None → IsApart q (keys_of es)
apart_from_none q [] none = tt
apart_from_none q (e ∷ es) none = by_case (eq_by_cmp nat_cmp q e.0) refl none (apart_from_none q es) where
  by_case : (b : Bool) → eq_by_cmp nat_cmp q e.0 ≡ b → cond b (Some e.1) (map.find nat_cmp q es) ≡ None → (map.find nat_cmp q es ≡ None → IsApart q (keys_of es)) → IsApart q (e.0 ∷ keys_of es)
  by_case true is none more = absurd (some_none none)
  by_case false is none more = (sym (unsigned_tied q e.0) ∙ is, more none)

apart_append : (q : ℕ) (ks ls : List ℕ) → IsApart q ks → IsApart q ls → IsApart q (ks ++ ls)
apart_append q [] ls one other = other
apart_append q (k ∷ ks) ls one other = (one.0, apart_append q ks ls one.1 other)

some_first : {X : Type 0} (b : Bool) (x : X) (o : Option X) → is_some o ≡ true → is_some (cond b (Some x) o) ≡ true
some_first true x o e = refl
some_first false x o e = e

itself : (k : ℕ) → eq_by_cmp nat_cmp k k ≡ true
itself k = ap is_eq (tied_itself nat_cmp_total k)

-- two lists without a customer in common
pub distinct_append : {X : Type 0} (es fs : List (ℕ × X)) → IsDistinct nat_eq (keys_of es) → IsDistinct nat_eq (keys_of fs)
    → ((q : ℕ) → is_some (map.find nat_cmp q es) ≡ true → map.find nat_cmp q fs ≡ None) → IsDistinct nat_eq (keys_of (es ++ fs))
unfolding IsDistinct
distinct_append [] fs one other none = other
distinct_append (e ∷ es) fs one other none = (
  subst (IsApart e.0) (sym (keys_append es fs))
      (apart_append e.0 (keys_of es) (keys_of fs) one.0 (apart_from_none e.0 fs (none e.0 (ap (λ (b : Bool). is_some (cond b (Some e.1) (map.find nat_cmp e.0 es))) (itself e.0))))),
  distinct_append es fs one.1 other (λ q s. none q (some_first (eq_by_cmp nat_cmp q e.0) e.1 (map.find nat_cmp q es) s)),
)

pub distinct_each : {X Y : Type 0} (f : X → Y) (es : List (ℕ × X)) → IsStrictlySortedBy nat_cmp (keys_of es) → IsDistinct nat_eq (keys_of (each f es))
distinct_each f es sorted = subst (IsDistinct nat_eq) (sym (keys_each f es))
    (subst (λ (e : ℕ → ℕ → Bool). IsDistinct e (keys_of es)) (λ i x y. unsigned_tied x y i) (IsDistinct-from_sorted nat_cmp (keys_of es) sorted))

none_below : {X : Type 0} (k : ℕ) (es : List (ℕ × X)) → AllByRecursion (λ y. nat_cmp k y ≡ Less) (keys_of es) → map.find nat_cmp k es ≡ None
none_below k [] below = refl
none_below k (e ∷ es) below = rw below.0 (none_below k es below.1)

-- a customer before all others isn't among them
pub absent : {X : Type 0} (k : ℕ) (es : List (ℕ × X)) → IsStrictlySortedBy nat_cmp (k ∷ keys_of es) → map.find nat_cmp k es ≡ None
absent k es sorted = none_below k es (sorted_head nat_cmp k (keys_of es) sorted)
