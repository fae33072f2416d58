-- The words that the program is called with.
use Rattle.std.proofs.Common.{◌≡◌, inl, inr, ℕ, ◌<◌, ◌≤◌, List, [], ◌∷◌, length, map, sym, ap, ◌∙◌, arith, IsTrue, ◌↔◌, Bool, codes, get_or}
use Rattle.std.proofs.lemmas.Fmt.{decimal_injective}
use Rattle.std.proofs.lemmas.Slice.Eq.{bytes_eq-Decides}
use Rattle.std.specs.Str.{bytes_eq}
use Rattle.aspa_top.specs.Program.{AreOwn, IsDemo, IsEnding, IsRun}

-- a list of one item
pub one_item : {A B : Type 0} (f : A → B) (xs : List A) (x : A) → 1 ≤ length xs → length xs < 2 → x ≡ get_or xs 0 x
    → map f xs ≡ f x ∷ []
one_item f [] x some one is = absurd (omega arith)
one_item f (y ∷ []) x some one is = ap (λ z. f z ∷ []) (sym is)
one_item f (y ∷ z ∷ zs) x some one is = absurd (omega arith)

-- the one word is compared with `run`
pub run_word : (result : Bool) (text : List ℕ) (words : List (List ℕ)) → words ≡ text ∷ []
    → result ≡ bytes_eq text (codes "run") → IsTrue result ↔ (words ≡ codes "run" ∷ [])
run_word result text words one compared = (
  (λ yes. one ∙ ap (λ (t : List ℕ). t ∷ []) ((bytes_eq-Decides text (codes "run")).0 (sym compared ∙ yes))),
  (λ same. compared ∙ (bytes_eq-Decides text (codes "run")).1 (let e : text ∷ [] ≡ codes "run" ∷ [] = sym one ∙ same in cc)),
)

-- a list of two items
pub two_items : {A B : Type 0} (f : A → B) (xs : List A) (x y : A) → 2 ≤ length xs → length xs < 3 → x ≡ get_or xs 0 x → y ≡ get_or xs 1 y
    → map f xs ≡ f x ∷ f y ∷ []
two_items f [] x y some few first second = absurd (omega arith)
two_items f (a ∷ []) x y some few first second = absurd (omega arith)
two_items f (a ∷ b ∷ []) x y some few first second =
    ap (λ z. f z ∷ f b ∷ []) (sym first) ∙ ap (λ z. f x ∷ f z ∷ []) (sym second)
two_items f (a ∷ b ∷ c ∷ xs) x y some few first second = absurd (omega arith)

-- one word is of no other form,
pub one_other : (word : List ℕ) → (IsRun (word ∷ []) → ⊥) → AreOwn (word ∷ []) → ⊥
one_other word not_run (inl run) = not_run run
one_other word not_run (inr demo) = absurd (omega (arith, ap length demo.1.words_are))

-- nor are two,
pub two_other : (word number : List ℕ) → ((seed : ℕ) → IsDemo (word ∷ number ∷ []) seed → ⊥) → AreOwn (word ∷ number ∷ []) → ⊥
two_other word number no_demo (inl run) = absurd (omega (arith, ap length run))
two_other word number no_demo (inr demo) = no_demo demo.0 demo.1

-- nor more or none
pub no_form : (words : List (List ℕ)) → (length words ≡ 1 → ⊥) → (length words ≡ 2 → ⊥) → AreOwn words → ⊥
no_form words not_one not_two (inl run) = not_one (ap length run)
no_form words not_one not_two (inr demo) = not_two (ap length demo.1.words_are)

-- two words ask for one workload
pub one_seed : (words : List (List ℕ)) (m n : ℕ) → IsDemo words m → IsDemo words n → m ≡ n
one_seed words m n a b =
    let both : codes "demo" ∷ a.word ∷ [] ≡ codes "demo" ∷ b.word ∷ [] = sym a.words_are ∙ b.words_are in
    let same : a.word ≡ b.word = cc in
    let small = a.number.0 in
    let other_small = b.number.0 in
    decimal_injective m n (omega arith) (omega arith) (sym a.number.1 ∙ same ∙ b.number.1)

-- the words have one form
pub run_or_demo : (words : List (List ℕ)) (seed : ℕ) → IsRun words → IsDemo words seed → ⊥
run_or_demo words seed run demo = omega (arith, ap length (sym run ∙ demo.words_are))

pub not_two : (status : ℕ) → IsEnding status → status ≡ 2 → ⊥
not_two status (inl a) same = omega arith
not_two status (inr (inl a)) same = omega arith
not_two status (inr (inr (inl a))) same = omega arith
not_two status (inr (inr (inr (inl a)))) same = omega arith
not_two status (inr (inr (inr (inr (inl a))))) same = omega arith
not_two status (inr (inr (inr (inr (inr a))))) same = omega arith
