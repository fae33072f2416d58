-- How the words of a line come off it one by one.
use Rattle.std.proofs.Common.{suc, ◌≡◌, ℕ, ◌≤◌, Bool, true, false, not, List, [], ◌∷◌, length, take, drop, Option, Some, None, filter, position, unwrap_or, refl, sym, ap, subst, ◌∙◌, arith, inl, inr, get_or}
use Rattle.std.specs.List.{slice_split, before_first, position_or_len}
use Rattle.std.proofs.Math.Numerals.{one-add}
use Rattle.std.proofs.Math.Seq.{drop-cons}
use Rattle.std.proofs.lemmas.List.{drop_all}
use Rattle.std.proofs.lemmas.List.Quantifiers.{position-Some}
use Rattle.std.proofs.lemmas.Bool.{cases_Bool, not-true}
use Rattle.av_text.proofs.PositionLemmas.{position-found, position-none, unwrap_or-position}
use Rattle.av_text.specs.Words.{is_blank, is_word, words_of}

-- the pieces with a byte in them, at any test for what parts them
abbrev words_by : (ℕ → Bool) → List ℕ → List (List ℕ)
words_by p line = filter is_word (slice_split p line)

-- a list that is cut begins with the piece before its first cut
record FirstPiece (p : ℕ → Bool) (xs : List ℕ) : Type 0 where
  others : List (List ℕ)
  cut : slice_split p xs ≡ before_first p xs ∷ others
  same : filter is_word others ≡ words_by p (drop (position_or_len p xs) xs)

-- its first cut is at its first byte
first_piece_here : (p : ℕ → Bool) (x : ℕ) (xs : List ℕ) → p x ≡ true → FirstPiece p (x ∷ xs)
first_piece_here p x xs e = record { others = slice_split p xs; cut = rw e refl; same = rw e (rw e refl) }

-- one more byte in the first piece
first_piece_more : (p : ℕ → Bool) (x : ℕ) (xs : List ℕ) → p x ≡ false → FirstPiece p xs → FirstPiece p (x ∷ xs)
first_piece_more p x xs e piece = record { others = piece.others; cut = rw (e, piece.cut, one-add) refl; same = rw (e, one-add) piece.same }

-- each list has a first piece
first_piece : (p : ℕ → Bool) (xs : List ℕ) → FirstPiece p xs
first_piece p [] = record { others = []; cut = refl; same = refl }
first_piece p (x ∷ xs) =
    elim (cases_Bool (p x)) [ inl e ↦ first_piece_here p x xs e | inr e ↦ first_piece_more p x xs e (first_piece p xs) ]

-- a piece with a byte in it is kept
kept : (piece : List ℕ) (others : List (List ℕ)) → is_word piece ≡ true → filter is_word (piece ∷ others) ≡ piece ∷ filter is_word others
kept piece others e = rw e refl

-- a list that begins within a word begins with that word
word_here : (p : ℕ → Bool) (x : ℕ) (xs : List ℕ) → p x ≡ false → words_by p (x ∷ xs) ≡ before_first p (x ∷ xs) ∷ words_by p (drop (position_or_len p (x ∷ xs)) (x ∷ xs))
word_here p x xs e =
    let piece : FirstPiece p (x ∷ xs) = first_piece p (x ∷ xs) in
    let full : is_word (before_first p (x ∷ xs)) ≡ true = rw (e, one-add) refl in
    ap (filter is_word) piece.cut ∙ kept (before_first p (x ∷ xs)) piece.others full ∙ ap (λ (ws : List (List ℕ)). before_first p (x ∷ xs) ∷ ws) piece.same

-- what parts words can go from the front
words_by-drop : (p : ℕ → Bool) (xs : List ℕ) → words_by p (drop (position_or_len (λ x. not (p x)) xs) xs) ≡ words_by p xs
words_by-drop p [] = refl
words_by-drop p (x ∷ xs) =
    elim (cases_Bool (p x)) [
      | inl e ↦ rw (e, one-add) (words_by-drop p xs)
      | inr e ↦
          let none : position_or_len (λ y. not (p y)) (x ∷ xs) ≡ 0 = rw e refl in
          ap (λ (n : ℕ). words_by p (drop n (x ∷ xs))) none
    ]

-- what parts words alone has no word
words_by-none : (p : ℕ → Bool) (xs : List ℕ) → position (λ x. not (p x)) xs ≡ None → words_by p xs ≡ []
words_by-none p xs e =
    let n : ℕ = position_or_len (λ x. not (p x)) xs in
    let past : length xs ≤ n = position-none (λ x. not (p x)) xs e in
    sym (words_by-drop p xs) ∙ ap (words_by p) (drop_all n xs past)

-- the first word begins at the first byte that parts no words
words_by-some : (p : ℕ → Bool) (xs : List ℕ) (i : ℕ) → position (λ x. not (p x)) xs ≡ Some i →
    words_by p xs ≡ before_first p (drop i xs) ∷ words_by p (drop (position_or_len p (drop i xs)) (drop i xs))
words_by-some p xs i e =
    let q : ℕ → Bool = λ x. not (p x) in
    let place : position_or_len q xs ≡ i = position-found q xs i e in
    let found = position-Some q xs i 0 e in
    let front = drop-cons xs i 0 found.0 in
    let P : List ℕ → Type 0 = λ line. words_by p line ≡ before_first p line ∷ words_by p (drop (position_or_len p line) line) in
    sym (words_by-drop p xs) ∙ ap (λ (n : ℕ). words_by p (drop n xs)) place
    ∙ subst P (sym front) (word_here p (get_or xs i 0) (drop (suc i) xs) (not-true _ found.1))

-- a line of blanks alone has no word
pub words_of-none : (line : List ℕ) → position (λ byte. not (is_blank byte)) line ≡ None → words_of line ≡ []
words_of-none line e = words_by-none is_blank line e

-- the first word goes from the first byte that is no blank up to the next blank, or to the end
pub words_of-some : (whole line word rest : List ℕ) (blank_at : Option ℕ) (start end : ℕ) →
    position (λ byte. not (is_blank byte)) whole ≡ Some start → line ≡ drop start whole →
    blank_at ≡ position is_blank line → end ≡ unwrap_or blank_at (length line) →
    word ≡ take end line → rest ≡ drop end line →
    words_of whole ≡ word ∷ words_of rest
words_of-some whole line word rest blank_at start end found cut at_blank ends front back =
    let place : position_or_len is_blank line ≡ end = sym (ends ∙ ap (λ o. unwrap_or o (length line)) at_blank ∙ unwrap_or-position is_blank line) in
    let P : List ℕ → Type 0 = λ l. words_of whole ≡ before_first is_blank l ∷ words_of (drop (position_or_len is_blank l) l) in
    let first : P line = subst P (sym cut) (words_by-some is_blank whole start found) in
    first ∙ ap (λ (n : ℕ). take n line ∷ words_of (drop n line)) place ∙ ap (λ w. w ∷ words_of (drop end line)) (sym front) ∙ ap (λ (l : List ℕ). word ∷ words_of l) (sym back)

-- a piece more is no word less
length-filter_others : (piece : List ℕ) (others : List (List ℕ)) → length (filter is_word others) ≤ length (filter is_word (piece ∷ others))
length-filter_others [] others = omega arith
length-filter_others (byte ∷ bytes) others = omega arith

-- a list has no more words than elements: where its first parts words,
within_here : (p : ℕ → Bool) (x : ℕ) (xs : List ℕ) → p x ≡ true → length (words_by p xs) ≤ length xs → length (words_by p (x ∷ xs)) ≤ length (x ∷ xs)
within_here p x xs e shorter = rw e (omega arith)

-- where its first is in a word,
within_more : (p : ℕ → Bool) (x : ℕ) (xs : List ℕ) → p x ≡ false → length (words_by p xs) ≤ length xs → length (words_by p (x ∷ xs)) ≤ length (x ∷ xs)
within_more p x xs e shorter =
    let piece : FirstPiece p xs = first_piece p xs in
    let fewer = length-filter_others (before_first p xs) piece.others in
    let whole : length (words_by p xs) ≡ length (filter is_word (before_first p xs ∷ piece.others)) = ap (λ ps. length (filter is_word ps)) piece.cut in
    rw (e, piece.cut) (omega arith)

-- and so each
words_by-within : (p : ℕ → Bool) (xs : List ℕ) → length (words_by p xs) ≤ length xs
words_by-within p [] = omega arith
words_by-within p (x ∷ xs) =
    elim (cases_Bool (p x)) [
      | inl e ↦ within_here p x xs e (words_by-within p xs)
      | inr e ↦ within_more p x xs e (words_by-within p xs)
    ]

-- a line has no more words than bytes
pub length-words_of : (line : List ℕ) → length (words_of line) ≤ length line
length-words_of line = words_by-within is_blank line
