-- The words of a line: its longest pieces without space and tab, in order.
use Rattle.std.specs.Prelude.{ℕ, Bool, true, false, ◌==◌, ◌||◌, List, [], ◌∷◌, filter}
use Rattle.std.specs.List.{slice_split}
use Rattle.av_text.specs.declared.pieces.Words.{Words}

-- a space or a tab
abbrev pub is_blank : ℕ → Bool
is_blank byte = (byte == 32) || (byte == 9)

-- a piece with a byte in it
abbrev pub is_word : List ℕ → Bool
is_word [] = false
is_word (byte ∷ bytes) = true

-- the line is cut at each blank, and the empty pieces are left out
abbrev pub words_of : List ℕ → List (List ℕ)
words_of line = filter is_word (slice_split is_blank line)

-- the words that are still to come
abbrev pub words_left : Words → List (List ℕ)
words_left words = words_of words.rest.now
