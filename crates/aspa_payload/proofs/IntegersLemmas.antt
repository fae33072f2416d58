-- INTEGERs, of which some are read.
use Rattle.std.proofs.Common.{◌≡◌, ℕ, List, [], ◌∷◌, ◌++◌, refl, sym, ap, ◌∙◌, subst, append_assoc, append-nil}
use Rattle.der_reader.specs.Integer.{TakesInteger}
use Rattle.der_reader.proofs.FrontLemmas.{one_integer_front, begins_some}
use Rattle.aspa_payload.specs.Content.{AreIntegers}

pub record Left (rest list ns : List ℕ) : Type 0 where
  pub more : List ℕ
  pub whole : ns ≡ list ++ more
  pub are : AreIntegers rest more

-- the list's numbers are read, and the rest is left
pub record SoFar (bytes rest list : List ℕ) : Type 0 where
  pub forth : (ns : List ℕ) → AreIntegers rest ns → AreIntegers bytes (list ++ ns)
  pub back : (ns : List ℕ) → AreIntegers bytes ns → Left rest list ns

pub so_far_start : (bytes : List ℕ) → SoFar bytes bytes []
so_far_start bytes = record { forth = λ ns h. h; back = λ ns h. record { more = ns; whole = refl; are = h } }

next_back : (rest list more : List ℕ) (n : ℕ) (ns : List ℕ) → TakesInteger rest n more → (after : List ℕ)
    → ns ≡ list ++ after → AreIntegers rest after → Left more (list ++ n ∷ []) ns
next_back rest list more n ns t [] whole are = absurd (begins_some 2 rest t.content more t.begins are)
next_back rest list more n ns t (m ∷ after) whole are =
    let same = one_integer_front rest m n are.0 more are.1 t in
    record {
      more = after;
      whole = whole ∙ ap (λ (x : ℕ). list ++ x ∷ after) same.0 ∙ sym (append_assoc list (n ∷ []) after);
      are = subst (λ (r : List ℕ). AreIntegers r after) same.1 are.2;
    }

pub so_far_next : (bytes rest list more : List ℕ) (n : ℕ) → SoFar bytes rest list → TakesInteger rest n more
    → SoFar bytes more (list ++ n ∷ [])
so_far_next bytes rest list more n s t = record {
  forth = λ ns h. rw (append_assoc list (n ∷ []) ns) (s.forth (n ∷ ns) (more, t, h));
  back = λ ns h. let left = s.back ns h in next_back rest list more n ns t left.more left.whole left.are;
}

-- bytes that go on with no INTEGER
stops : (rest list ns after : List ℕ) → (rest ≡ [] → ⊥) → ((n : ℕ) (more : List ℕ) → TakesInteger rest n more → ⊥)
    → AreIntegers rest after → ⊥
stops rest list ns [] some none are = some are
stops rest list ns (n ∷ after) some none are = none n are.0 are.1

pub so_far_refused : (bytes rest list : List ℕ) → SoFar bytes rest list → (rest ≡ [] → ⊥)
    → ((n : ℕ) (more : List ℕ) → TakesInteger rest n more → ⊥) → (ns : List ℕ) → AreIntegers bytes ns → ⊥
so_far_refused bytes rest list s some none ns h = let left = s.back ns h in stops rest list ns left.more some none left.are

pub so_far_end : (bytes rest list : List ℕ) → SoFar bytes rest list → rest ≡ [] → AreIntegers bytes list
so_far_end bytes rest list s end = subst (AreIntegers bytes) (append-nil list) (s.forth [] end)
