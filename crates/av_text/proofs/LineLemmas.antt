-- How the lines of a text come off it one by one.
use Rattle.std.proofs.Common.{◌≡◌, ◌≢◌, ℕ, ◌+◌, ◌<◌, ◌≤◌, Bool, true, false, cond, ◌==◌, List, [], ◌∷◌, ◌++◌, ◌⊎◌, All, length, take, drop, map, Some, None, position, inl, inr, refl, sym, ap, ◌∙◌, subst, arith, append_assoc, append-nil}
use Rattle.std.specs.List.{slice_split, onto_first, position_or_len}
use Rattle.std.specs.Str.Lines.{lines_of_parts, strip_carriage_return}
use Rattle.std.proofs.lemmas.List.Quantifiers.{position-Some}
use Rattle.std.proofs.lemmas.List.Splits.{slice_split_first, slice_split_none}
use Rattle.std.proofs.lemmas.List.Sums.{fails_before_first}
use Rattle.std.proofs.lemmas.List.Elements.{All-from_get_or, All-head, All-tail, All-weaker}
use Rattle.std.proofs.lemmas.Bool.{ne_eqb}
use Rattle.std.proofs.lemmas.Bool.Decides.{nat_tests}
use Rattle.av_text.proofs.PositionLemmas.{position-found, position-none}
use Rattle.av_text.specs.Lines.{AreWhole, IsPart, is_lf, lines_in, without_last}

-- a text with a LF is cut at the first one
split_found : (text : List ℕ) (end : ℕ) → position is_lf text ≡ Some end → slice_split is_lf text ≡ take end text ∷ slice_split is_lf (drop (end + 1) text)
split_found text end found =
    let place : position_or_len is_lf text ≡ end = position-found is_lf text end found in
    let within = position-Some is_lf text end 0 found in
    let inside : position_or_len is_lf text < length text = omega (arith, within.0) in
    let P : ℕ → Type 0 = λ n. slice_split is_lf text ≡ take n text ∷ slice_split is_lf (drop (n + 1) text) in
    subst P place (slice_split_first is_lf text 0 inside)

-- a text without LF is one part
split_none : (text : List ℕ) → position is_lf text ≡ None → slice_split is_lf text ≡ text ∷ []
split_none text none =
    let past : length text ≤ position_or_len is_lf text = position-none is_lf text none in
    slice_split_none is_lf text (All-from_get_or (λ byte. is_lf byte ≡ false) text 0 (λ k below. fails_before_first is_lf text k 0 (omega arith)))

-- some parts, of which there is one at least
record SomeParts (parts : List (List ℕ)) : Type 0 where
  first : List ℕ
  more : List (List ℕ)
  parts_are : parts ≡ first ∷ more

some_onto : (byte : ℕ) (parts : List (List ℕ)) → SomeParts (onto_first byte parts)
some_onto byte [] = record { first = byte ∷ []; more = []; parts_are = refl }
some_onto byte (part ∷ parts) = record { first = byte ∷ part; more = parts; parts_are = refl }

some_either : (b : Bool) (byte : ℕ) (parts : List (List ℕ)) → SomeParts (cond b ([] ∷ parts) (onto_first byte parts))
some_either true byte parts = record { first = []; more = parts; parts_are = refl }
some_either false byte parts = some_onto byte parts

some_parts : (text : List ℕ) → SomeParts (slice_split is_lf text)
some_parts [] = record { first = []; more = []; parts_are = refl }
some_parts (byte ∷ bytes) = some_either (is_lf byte) byte (slice_split is_lf bytes)

-- the lines in some parts, where the last is a line or isn't
abbrev in_parts : Bool → List (List ℕ) → List (List ℕ)
in_parts true parts = lines_of_parts parts
in_parts false parts = map strip_carriage_return (without_last parts)

in_parts-lines_in : (whole : Bool) (text : List ℕ) → lines_in whole text ≡ in_parts whole (slice_split is_lf text)
in_parts-lines_in true text = refl
in_parts-lines_in false text = refl

in_parts-first : (whole : Bool) (part : List ℕ) (parts : List (List ℕ)) → SomeParts parts → in_parts whole (part ∷ parts) ≡ strip_carriage_return part ∷ in_parts whole parts
in_parts-first true part parts some = rw some.parts_are refl
in_parts-first false part parts some = rw some.parts_are refl

-- the first line of a text with a LF ends there
pub lines_in-found : (whole : Bool) (text : List ℕ) (end : ℕ) → position is_lf text ≡ Some end → lines_in whole text ≡ strip_carriage_return (take end text) ∷ lines_in whole (drop (end + 1) text)
lines_in-found whole text end found =
    in_parts-lines_in whole text
    ∙ ap (in_parts whole) (split_found text end found)
    ∙ in_parts-first whole (take end text) (slice_split is_lf (drop (end + 1) text)) (some_parts (drop (end + 1) text))
    ∙ ap (λ (ls : List (List ℕ)). strip_carriage_return (take end text) ∷ ls) (sym (in_parts-lines_in whole (drop (end + 1) text)))

last_line : (text : List ℕ) → 0 < length text → lines_of_parts (text ∷ []) ≡ text ∷ []
last_line [] some = absurd (omega arith)
last_line (byte ∷ bytes) some = let full : (length (byte ∷ bytes) == 0) ≡ false = grind (arith, nat_tests) in rw full refl

-- a text without LF is a line of a whole script
pub lines_in-last : (text : List ℕ) → position is_lf text ≡ None → 0 < length text → lines_in true text ≡ text ∷ lines_in true []
lines_in-last text none some = ap lines_of_parts (split_none text none) ∙ last_line text some

-- and no line of the front of one
pub lines_in-unended : (text : List ℕ) → position is_lf text ≡ None → lines_in false text ≡ []
lines_in-unended text none = ap (λ parts. map strip_carriage_return (without_last parts)) (split_none text none)

no_bytes : (text : List ℕ) → (length text == 0) ≡ true → lines_in true text ≡ []
no_bytes [] empty = refl
no_bytes (byte ∷ bytes) empty = let full : (length (byte ∷ bytes) == 0) ≡ false = grind (arith, nat_tests) in absurd (let no : ⊥ = cc in no)

-- a text without LF has no line, unless it is the last part of a whole script and has a byte
pub lines_in-none : (whole : Bool) (text : List ℕ) → position is_lf text ≡ None → (whole ≡ true → (length text == 0) ≡ true) → lines_in whole text ≡ []
lines_in-none true text none empty = no_bytes text (empty refl)
lines_in-none false text none empty = lines_in-unended text none

-- ---- whole lines, and what comes after them

some_after : (parts more : List (List ℕ)) → SomeParts more → SomeParts (parts ++ more)
some_after [] more some = some
some_after (part ∷ parts) more some = record { first = part; more = parts ++ more; parts_are = refl }

onto-append : (byte : ℕ) (parts more : List (List ℕ)) → SomeParts parts → onto_first byte (parts ++ more) ≡ onto_first byte parts ++ more
onto-append byte parts more some = rw some.parts_are refl

either-append : (b : Bool) (byte : ℕ) (parts more : List (List ℕ)) → SomeParts parts
    → cond b ([] ∷ (parts ++ more)) (onto_first byte (parts ++ more)) ≡ cond b ([] ∷ parts) (onto_first byte parts) ++ more
either-append true byte parts more some = refl
either-append false byte parts more some = onto-append byte parts more some

-- a LF ends a part
parts-append : (line bytes : List ℕ) → slice_split is_lf (line ++ 10 ∷ bytes) ≡ slice_split is_lf line ++ slice_split is_lf bytes
parts-append [] bytes = refl
parts-append (byte ∷ line) bytes =
    ap (λ (parts : List (List ℕ)). cond (is_lf byte) ([] ∷ parts) (onto_first byte parts)) (parts-append line bytes)
    ∙ either-append (is_lf byte) byte (slice_split is_lf line) (slice_split is_lf bytes) (some_parts line)

in_parts-append : (whole : Bool) (parts more : List (List ℕ)) → SomeParts more → in_parts whole (parts ++ more) ≡ map strip_carriage_return parts ++ in_parts whole more
in_parts-append whole [] more some = refl
in_parts-append whole (part ∷ parts) more some =
    in_parts-first whole part (parts ++ more) (some_after parts more some)
    ∙ ap (λ (ls : List (List ℕ)). strip_carriage_return part ∷ ls) (in_parts-append whole parts more some)

lines-append : (whole : Bool) (line bytes : List ℕ) → lines_in whole (line ++ 10 ∷ bytes) ≡ map strip_carriage_return (slice_split is_lf line) ++ lines_in whole bytes
lines-append whole line bytes =
    in_parts-lines_in whole (line ++ 10 ∷ bytes)
    ∙ ap (in_parts whole) (parts-append line bytes)
    ∙ in_parts-append whole (slice_split is_lf line) (slice_split is_lf bytes) (some_parts bytes)
    ∙ ap (λ (ls : List (List ℕ)). map strip_carriage_return (slice_split is_lf line) ++ ls) (sym (in_parts-lines_in whole bytes))

line_splits : (whole : Bool) (line bytes : List ℕ) → lines_in whole ((line ++ 10 ∷ []) ++ bytes) ≡ lines_in false (line ++ 10 ∷ []) ++ lines_in whole bytes
line_splits whole line bytes =
    let alone : lines_in false (line ++ 10 ∷ []) ≡ map strip_carriage_return (slice_split is_lf line) = lines-append false line [] ∙ append-nil (map strip_carriage_return (slice_split is_lf line)) in
    ap (lines_in whole) (append_assoc line (10 ∷ []) bytes) ∙ lines-append whole line bytes ∙ ap (λ (ls : List (List ℕ)). ls ++ lines_in whole bytes) (sym alone)

-- the lines of whole lines and what comes after them are those of either
pub lines_split : (whole : Bool) (front bytes : List ℕ) → AreWhole front → lines_in whole (front ++ bytes) ≡ lines_in false front ++ lines_in whole bytes
lines_split whole front bytes are = elim are [
  | inl none ↦ rw none refl
  | inr lines ↦ subst (λ (f : List ℕ). lines_in whole (f ++ bytes) ≡ lines_in false f ++ lines_in whole bytes) (sym lines.1) (line_splits whole lines.0 bytes)
]

-- whole lines after others
pub whole-append : (front more : List ℕ) → AreWhole front → AreWhole more → AreWhole (front ++ more)
whole-append front more are after = elim after [
  | inl none ↦ subst AreWhole (sym (ap (λ (l : List ℕ). front ++ l) none ∙ append-nil front)) are
  | inr lines ↦ inr (front ++ lines.0, ap (λ (l : List ℕ). front ++ l) lines.1 ∙ sym (append_assoc front lines.0 (10 ∷ [])))
]

-- ---- a part of a line, and what comes after it

lacks_lf : (bytes : List ℕ) → IsPart bytes → All (λ byte. is_lf byte ≡ false) bytes
lacks_lf bytes part = All-weaker (λ byte. byte ≢ 10) (λ byte. is_lf byte ≡ false) (λ byte. ne_eqb byte 10) bytes part

-- a part of a line has none
pub part_lines : (bytes : List ℕ) → IsPart bytes → lines_in false bytes ≡ []
part_lines bytes part = ap (λ (parts : List (List ℕ)). map strip_carriage_return (without_last parts)) (slice_split_none is_lf bytes (lacks_lf bytes part))

-- of whole lines and a part of one the lines are the former
pub lines_read : (front part : List ℕ) → AreWhole front → IsPart part → lines_in false (front ++ part) ≡ lines_in false front
lines_read front part are is =
    lines_split false front part are ∙ ap (λ (ls : List (List ℕ)). lines_in false front ++ ls) (part_lines part is) ∙ append-nil (lines_in false front)

-- it stands in front of the first part of what comes after it
parts_onto : (part bytes first : List ℕ) (more : List (List ℕ)) → All (λ byte. is_lf byte ≡ false) part → slice_split is_lf bytes ≡ first ∷ more
    → slice_split is_lf (part ++ bytes) ≡ (part ++ first) ∷ more
parts_onto [] bytes first more lacks are = are
parts_onto (byte ∷ part) bytes first more lacks are =
    let other : is_lf byte ≡ false = All-head (λ (b : ℕ). is_lf b ≡ false) byte part lacks in
    let rest = parts_onto part bytes first more (All-tail (λ (b : ℕ). is_lf b ≡ false) byte part lacks) are in
    rw (other, rest) refl

-- a line as it stands, or without a CR at its end where a LF comes after it
abbrev pub line_of : Bool → List ℕ → List ℕ
line_of true bytes = strip_carriage_return bytes
line_of false bytes = bytes

-- What comes after a part of a line has no line, or its first line goes on from the part. So it is with another part in its place.
pub record OntoLines (whole : Bool) (part other bytes : List ℕ) : Type 0 where
  pub ended : Bool
  pub first : List ℕ
  pub more : List (List ℕ)
  pub part_is : lines_in whole (part ++ bytes) ≡ line_of ended (part ++ first) ∷ more
  pub other_is : lines_in whole (other ++ bytes) ≡ line_of ended (other ++ first) ∷ more

abbrev pub NoLines : Bool → List ℕ → List ℕ → List ℕ → Type 0
NoLines whole part other bytes = (lines_in whole (part ++ bytes) ≡ []) × (lines_in whole (other ++ bytes) ≡ [])

some_last : (part first : List ℕ) → 0 < length part → lines_of_parts ((part ++ first) ∷ []) ≡ (part ++ first) ∷ []
some_last [] first some = absurd (omega (arith, some))
some_last (byte ∷ part) first some = last_line (byte ∷ (part ++ first)) (omega arith)

pub lines_onto : (whole : Bool) (part other bytes : List ℕ) → IsPart part → IsPart other → 0 < length part → 0 < length other
    → NoLines whole part other bytes ⊎ OntoLines whole part other bytes
lines_onto whole part other bytes is_part is_other some some_other =
    let parts = some_parts bytes in
    by whole parts.first parts.more
    (in_parts-lines_in whole (part ++ bytes) ∙ ap (in_parts whole) (parts_onto part bytes parts.first parts.more (lacks_lf part is_part) parts.parts_are))
    (in_parts-lines_in whole (other ++ bytes) ∙ ap (in_parts whole) (parts_onto other bytes parts.first parts.more (lacks_lf other is_other) parts.parts_are))
  where
    by : (w : Bool) (first : List ℕ) (more : List (List ℕ)) → lines_in w (part ++ bytes) ≡ in_parts w ((part ++ first) ∷ more) → lines_in w (other ++ bytes) ≡ in_parts w ((other ++ first) ∷ more)
        → NoLines w part other bytes ⊎ OntoLines w part other bytes
    by true first [] a b = inr (record { ended = false; first = first; more = []; part_is = a ∙ some_last part first some; other_is = b ∙ some_last other first some_other })
    by false first [] a b = inl (a, b)
    by true first (next ∷ more) a b = inr (record { ended = true; first = first; more = lines_of_parts (next ∷ more); part_is = a; other_is = b })
    by false first (next ∷ more) a b =
        inr (record { ended = true; first = first; more = map strip_carriage_return (without_last (next ∷ more)); part_is = a; other_is = b })
