-- Lines that are added to a text, and how many of them say that a place wasn't to be had.
use Rattle.std.proofs.Common.{◌≡◌, ◌≢◌, ℕ, ◌+◌, ◌-◌, ◌^◌, ◌<◌, ◌≤◌, min, ◌⊎◌, inl, inr, ⊎_elim, Bool, true, false, cond, nat_eq, nat_le, add-zero, List, [], ◌∷◌, ◌++◌, length, take, reverse, codes, decimal, Some, refl, sym, ap, subst, ◌∙◌, append_assoc, append-nil, arith}
use Rattle.std.specs.Io.KnownBytes.{append_known}
use Rattle.std.specs.List.{All, count_by, slice_split, starts_with, ends_with}
use Rattle.std.specs.declared.option.Option.{Option}
use Rattle.std.proofs.lemmas.Bool.{and_left, and_right, cases_Bool, eq-eqb, false_from_ne_true, leb-false, leb-true, ne_eqb}
use Rattle.std.proofs.lemmas.Bool.Decides.{Decides-eqb}
use Rattle.std.proofs.lemmas.List.{append_cancel_left, reverse-append}
use Rattle.std.proofs.lemmas.List.Elements.{All-append, All-cons, All-head, All-nil, All-tail, All-weaker}
use Rattle.std.proofs.lemmas.List.Splits.{length-slice_split, slice_split_at, slice_split_none}
use Rattle.std.proofs.lemmas.List.Sums.{sum_by-append, sum_by-cons}
use Rattle.std.proofs.lemmas.Slice.Eq.{ends_is}
use Rattle.av_base.specs.Told.{Rose, AppendsBefore, AppendsFront, Grows}
use Rattle.av_base.proofs.ToldLemmas.{append_known-append, append_known-nil, AppendsBefore-start, AppendsFront-trans}
use Rattle.av_base.proofs.PouringLemmas.{written_front}
use Rattle.av_text.specs.Lines.{is_lf, without_last}
use Rattle.av_text.specs.Spellings.{IsInLine}
use Rattle.report_text.specs.declared.feed.FeedEnd.{FeedEnd}
use Rattle.report_text.specs.declared.feed.FeedEnd.TheVariants.{Unreachable, Lost, Short}
use Rattle.report_text.specs.Feeds.{end_word, feed_line, feed_text}
use Rattle.report_text.specs.Laws.{IsPlaceInLine, IsAnswerLine}
use Rattle.report_text.specs.declared.cause.Cause.{Cause}
use Rattle.report_text.specs.Causes.{number_of, word_of}
use Rattle.report_text.specs.Refusals.{AnyPlace, place_text, refusal_line, refusal_text}
use Rattle.report_text.specs.Reported.{is_unreachable, unreachables_in, IsWithinRise, lines_text, AddsLines, AddsFront, AddsQuiet}
use Rattle.report_text.proofs.CauseLemmas.{clashes, ends_otherwise, word_passes}
use Rattle.report_text.proofs.RefusalLemmas.{refusal_is_one_line, feed_end_is_one_line}

-- ---- so many within a rise

within_none : (before now : ℕ) → before ≤ now → IsWithinRise 0 before now
within_none before now later = inl (omega arith)

within_more : (many more a b c : ℕ) → IsWithinRise many a b → IsWithinRise more b c → IsWithinRise (many + more) a c
within_more many more a b c (inl first) (inl next) = inl (omega arith)
within_more many more a b c (inr first) (inl next) = inr (omega arith)
within_more many more a b c first (inr next) = inr next

within_fewer : (few many a b : ℕ) → few ≤ many → IsWithinRise many a b → IsWithinRise few a b
within_fewer few many a b fewer (inl rise) = inl (omega arith)
within_fewer few many a b fewer (inr last) = inr last

within_later : (many a b c : ℕ) → IsWithinRise many a b → b ≤ c → IsWithinRise many a c
within_later many a b c (inl rise) later = inl (omega arith)
within_later many a b c (inr last) later = inr (omega arith)

-- the lesser of two is one of them
lesser : (one other now : ℕ) → min one other ≤ now → (one ≤ now) ⊎ (other ≤ now)
lesser one other now least = ⊎_elim (λ yes. inl (omega (arith, leb-true one other yes))) (λ no. inr (omega (arith, leb-false one other no))) (cases_Bool (nat_le one other))

-- one is no more than a count rose by
within_rose : (before now : ℕ) → Rose before now → IsWithinRise 1 before now
within_rose before now rose = ⊎_elim (λ more. inl (omega arith)) (λ last. inr last) (lesser (before + 1) (2 ^ 64 - 1) now rose)

-- ---- pieces one after another

lines_text-append : (lines more : List (List ℕ)) → lines_text (lines ++ more) ≡ lines_text lines ++ lines_text more
lines_text-append [] more = refl
lines_text-append (line ∷ lines) more =
    ap (λ (t : List ℕ). (line ++ 10 ∷ []) ++ t) (lines_text-append lines more) ∙ sym (append_assoc (line ++ 10 ∷ []) (lines_text lines) (lines_text more))

-- the lines of both pieces are within the whole rise
both_within : (lines more : List (List ℕ)) (a b c : ℕ) → IsWithinRise (count_by is_unreachable lines) a b → IsWithinRise (count_by is_unreachable more) b c
    → IsWithinRise (count_by is_unreachable (lines ++ more)) a c
both_within lines more a b c first next =
    subst (λ (n : ℕ). IsWithinRise n a c) (sym (sum_by-append (λ l. cond (is_unreachable l) 1 0) lines more))
    (within_more (count_by is_unreachable lines) (count_by is_unreachable more) a b c first next)

pub adds_none : (all : Option (List ℕ)) (before now : ℕ) → before ≤ now → AddsLines all all before now
adds_none all before now later = record { lines = []; each = All-nil IsInLine; added = sym (append_known-nil all); within = within_none before now later }

pub adds_quiet_none : (all : Option (List ℕ)) → AddsQuiet all all
adds_quiet_none all = λ faults. adds_none all faults faults (omega arith)

pub adds_more : (old mid new : Option (List ℕ)) (a b c : ℕ) → AddsLines old mid a b → AddsLines mid new b c → AddsLines old new a c
adds_more old mid new a b c first next = record {
  lines = first.lines ++ next.lines;
  each = All-append IsInLine first.lines next.lines first.each next.each;
  added = next.added ∙ ap (λ (m : Option (List ℕ)). append_known m (lines_text next.lines)) first.added
      ∙ append_known-append old (lines_text first.lines) (lines_text next.lines) ∙ ap (append_known old) (sym (lines_text-append first.lines next.lines));
  within = both_within first.lines next.lines a b c first.within next.within;
}

pub quiet_more : (old mid new : Option (List ℕ)) → AddsQuiet old mid → AddsQuiet mid new → AddsQuiet old new
quiet_more old mid new first next = λ faults. adds_more old mid new faults faults faults (first faults) (next faults)

pub adds_later : (old new : Option (List ℕ)) (a b c : ℕ) → AddsLines old new a b → b ≤ c → AddsLines old new a c
adds_later old new a b c adds later = record {
  lines = adds.lines;
  each = adds.each;
  added = adds.added;
  within = within_later (count_by is_unreachable adds.lines) a b c adds.within later;
}

-- ---- fronts

-- what was appended is a front of what it is the first part of
first_part : (old new : Option (List ℕ)) (text front rest : List ℕ) → AppendsFront old new front → text ≡ front ++ rest → AppendsFront old new text
first_part old new text front rest part whole = AppendsFront-trans rest (subst (λ (t : List ℕ). AppendsBefore old old text t) whole (AppendsBefore-start old text)) part

pub adds_front : (old new : Option (List ℕ)) (a b : ℕ) → AddsLines old new a b → AddsFront old new a b
adds_front old new a b adds = record {
  lines = adds.lines;
  each = adds.each;
  front = record { rest = []; before = record { front = lines_text adds.lines; whole = sym (append-nil (lines_text adds.lines)); told = adds.added } };
  within = adds.within;
}

pub adds_more_front : (old mid new : Option (List ℕ)) (a b c : ℕ) → AddsLines old mid a b → AddsFront mid new b c → AddsFront old new a c
adds_more_front old mid new a b c first next = record {
  lines = first.lines ++ next.lines;
  each = All-append IsInLine first.lines next.lines first.each next.each;
  front = AppendsFront-trans [] (record {
    front = lines_text first.lines;
    whole = lines_text-append first.lines next.lines ∙ ap (λ (t : List ℕ). lines_text first.lines ++ t) (sym (append-nil (lines_text next.lines)));
    told = first.added;
  }) next.front;
  within = both_within first.lines next.lines a b c first.within next.within;
}

pub front_later : (old new : Option (List ℕ)) (a b c : ℕ) → AddsFront old new a b → b ≤ c → AddsFront old new a c
front_later old new a b c adds later = record {
  lines = adds.lines;
  each = adds.each;
  front = adds.front;
  within = within_later (count_by is_unreachable adds.lines) a b c adds.within later;
}

-- what is held is left out
pub written_lines : (old new : Option (List ℕ)) (held : List ℕ) (a b : ℕ) → Grows old new → AddsFront old (append_known new held) a b → AddsFront old new a b
written_lines old new held a b grows adds =
    let before = adds.front.before in
    record {
      lines = adds.lines;
      each = adds.each;
      front = first_part old new (lines_text adds.lines) before.front adds.front.rest (written_front old new held before.front grows before.told) before.whole;
      within = adds.within;
    }

-- ---- how a line ends

-- whatever stands behind them, they aren't the same
clash : (xs ys s t : List ℕ) → clashes xs ys ≡ true → xs ++ s ≢ ys ++ t
clash [] ys s t differ = absurd cc
clash (x ∷ xs) [] s t differ = absurd cc
clash (x ∷ xs) (y ∷ ys) s t differ = λ same.
    let heads : x ≡ y = cc in
    let tails : xs ++ s ≡ ys ++ t = cc in
    clash xs ys s t (ap (λ (b : Bool). cond b (clashes xs ys) true) (sym (eq-eqb x y heads)) ∙ differ) tails

ends_other : (front word : List ℕ) → ends_otherwise word ≡ true → ends_with nat_eq (front ++ word) (codes " unreachable") ≡ false
ends_other front word other =
    let line = front ++ word in
    let needle = codes " unreachable" in
    let rest = take (length line - length needle) line in
    false_from_ne_true (ends_with nat_eq line needle) (λ ends.
    let is : line ≡ rest ++ needle = (ends_is Decides-eqb line needle (ends_with nat_eq line needle) refl).0 ends in
    clash (reverse word) (reverse needle) (reverse front) (reverse rest) other (sym (reverse-append front word) ∙ ap reverse is ∙ reverse-append rest needle))

-- ---- one line more

adds_line : (old new : Option (List ℕ)) (line : List ℕ) (a b : ℕ) → IsInLine line → IsWithinRise (cond (is_unreachable line) 1 0) a b → new ≡ append_known old (line ++ 10 ∷ [])
    → AddsLines old new a b
adds_line old new line a b in_line within told = record {
  lines = line ∷ [];
  each = All-cons IsInLine line [] in_line (All-nil IsInLine);
  added = told ∙ ap (append_known old) (sym (append-nil (line ++ 10 ∷ [])));
  within = subst (λ (n : ℕ). IsWithinRise n a b) (sym (sum_by-cons (λ l. cond (is_unreachable l) 1 0) line [] ∙ add-zero (cond (is_unreachable line) 1 0))) within;
}

adds_quiet_line : (old new : Option (List ℕ)) (line : List ℕ) → IsInLine line → is_unreachable line ≡ false → new ≡ append_known old (line ++ 10 ∷ []) → AddsQuiet old new
adds_quiet_line old new line in_line quiet told = λ faults.
    adds_line old new line faults faults in_line
    (subst (λ (b : Bool). IsWithinRise (cond b 1 0) faults faults) (sym quiet) (within_none faults faults (omega arith))) told

pub adds_refusal : (old new : Option (List ℕ)) (number : ℕ) (place : AnyPlace) (cause : Cause) → IsPlaceInLine place → new ≡ append_known old (refusal_text number place cause) → AddsQuiet old new
adds_refusal old new number place cause in_line told =
    let line = refusal_line number place cause in
    let front = codes "! line " ++ decimal number ++ place_text place ++ codes " cause " ++ decimal (number_of cause) in
    let word = (word_passes cause).1 in
    adds_quiet_line old new line (refusal_is_one_line number place cause in_line).in_line
    (and_right (starts_with nat_eq line (codes "! ")) (ends_with nat_eq line (codes " unreachable")) (ends_other front (32 ∷ word_of cause) word)) told

pub adds_answer : (old new : Option (List ℕ)) (line : List ℕ) → IsAnswerLine line → new ≡ append_known old (line ++ 10 ∷ []) → AddsQuiet old new
adds_answer old new line answer told =
    adds_quiet_line old new line answer.in_line (and_left (starts_with nat_eq line (codes "! ")) (ends_with nat_eq line (codes " unreachable")) answer.unmarked) told

one_at_most : (b : Bool) → cond b 1 0 ≤ 1
one_at_most true = omega arith
one_at_most false = omega arith

-- an end with another word says nothing of a place
end_quiet : (number : ℕ) (name : List ℕ) (end : FeedEnd) (before now : ℕ) → before ≤ now → ends_otherwise (end_word end) ≡ true
    → IsWithinRise (cond (is_unreachable (feed_line number name end)) 1 0) before now
end_quiet number name end before now later other =
    let line = feed_line number name end in
    let front = codes "! line " ++ decimal number ++ codes " " ++ name ++ codes " " in
    let quiet : is_unreachable line ≡ false = and_right (starts_with nat_eq line (codes "! ")) (ends_with nat_eq line (codes " unreachable")) (ends_other front (end_word end) other) in
    subst (λ (b : Bool). IsWithinRise (cond b 1 0) before now) (sym quiet) (within_none before now later)

end_within : (number : ℕ) (name : List ℕ) (end : FeedEnd) (before now : ℕ) → before ≤ now → (end ≡ Unreachable → Rose before now)
    → IsWithinRise (cond (is_unreachable (feed_line number name end)) 1 0) before now
end_within number name Unreachable before now later rose =
    let says = is_unreachable (feed_line number name Unreachable) in
    within_fewer (cond says 1 0) 1 before now (one_at_most says) (within_rose before now (rose refl))
end_within number name Lost before now later rose = end_quiet number name Lost before now later refl
end_within number name Short before now later rose = end_quiet number name Short before now later refl

pub adds_end : (old new : Option (List ℕ)) (number : ℕ) (name : List ℕ) (end : FeedEnd) (before now : ℕ) → IsInLine name → before ≤ now → (end ≡ Unreachable → Rose before now)
    → new ≡ append_known old (feed_text number name end) → AddsLines old new before now
adds_end old new number name end before now in_line later rose told =
    adds_line old new (feed_line number name end) before now (feed_end_is_one_line number name end in_line).in_line (end_within number name end before now later rose) told

-- ---- several answers

-- lines of which none says that a place wasn't to be had
none_unreachable : (lines : List (List ℕ)) → All (λ line. is_unreachable line ≡ false) lines → count_by is_unreachable lines ≡ 0
none_unreachable [] quiet = refl
none_unreachable (line ∷ lines) quiet =
    let P : List ℕ → Type 0 = λ l. is_unreachable l ≡ false in
    let one : Bool → ℕ = λ b. cond b 1 0 in
    let first : one (is_unreachable line) ≡ 0 = ap one (All-head P line lines quiet) in
    omega (arith, sum_by-cons (λ l. cond (is_unreachable l) 1 0) line lines, first, none_unreachable lines (All-tail P line lines quiet))

answers_quiet : (lines : List (List ℕ)) (faults : ℕ) → All IsAnswerLine lines → IsWithinRise (count_by is_unreachable lines) faults faults
answers_quiet lines faults answers =
    let quiet : count_by is_unreachable lines ≡ 0 = none_unreachable lines (All-weaker IsAnswerLine (λ line. is_unreachable line ≡ false)
    (λ line answer. and_left (starts_with nat_eq line (codes "! ")) (ends_with nat_eq line (codes " unreachable")) answer.unmarked) lines answers) in
    subst (λ (n : ℕ). IsWithinRise n faults faults) (sym quiet) (within_none faults faults (omega arith))

pub adds_answers : (old new : Option (List ℕ)) (lines : List (List ℕ)) → All IsAnswerLine lines → new ≡ append_known old (lines_text lines) → AddsQuiet old new
adds_answers old new lines answers told = λ faults. record {
  lines = lines;
  each = All-weaker IsAnswerLine IsInLine (λ line answer. answer.in_line) lines answers;
  added = told;
  within = answers_quiet lines faults answers;
}

pub adds_answers_front : (old new : Option (List ℕ)) (lines : List (List ℕ)) (faults : ℕ) → All IsAnswerLine lines → AppendsFront old new (lines_text lines)
    → AddsFront old new faults faults
adds_answers_front old new lines faults answers front = record {
  lines = lines;
  each = All-weaker IsAnswerLine IsInLine (λ line answer. answer.in_line) lines answers;
  front = front;
  within = answers_quiet lines faults answers;
}

-- ---- the lines of a text that is a front

-- no byte is a line feed, by test
abbrev pub lacks_lf : List ℕ → Type 0
lacks_lf text = All (λ byte. is_lf byte ≡ false) text

pub lacks : (text : List ℕ) → IsInLine text → lacks_lf text
lacks text in_line = All-weaker (λ byte. byte ≢ 10) (λ byte. is_lf byte ≡ false) (λ byte. ne_eqb byte 10) text in_line

-- a front of a text whose first line ends has that line whole, or no line
cut : (line after text rest : List ℕ) → lacks_lf line → (line ++ 10 ∷ []) ++ after ≡ text ++ rest
    → ((more : List ℕ) × (text ≡ (line ++ 10 ∷ []) ++ more) × (after ≡ more ++ rest)) ⊎ lacks_lf text
cut line after [] rest in_line same = inr (All-nil (λ byte. is_lf byte ≡ false))
cut [] after (byte ∷ text) rest in_line same =
    let head : 10 ≡ byte = cc in
    let tail : after ≡ text ++ rest = cc in
    inl (text, ap (λ (b : ℕ). b ∷ text) (sym head), tail)
cut (first ∷ line) after (byte ∷ text) rest in_line same =
    let P : ℕ → Type 0 = λ b. is_lf b ≡ false in
    let head : first ≡ byte = cc in
    let tail : (line ++ 10 ∷ []) ++ after ≡ text ++ rest = cc in
    ⊎_elim
    (λ whole. inl (whole.0, ap (λ (b : ℕ). b ∷ text) (sym head) ∙ ap (λ (t : List ℕ). first ∷ t) whole.1, whole.2))
    (λ none. inr (All-cons P byte text (subst P head (All-head P first line in_line)) none))
    (cut line after text rest (All-tail P first line in_line) tail)

without_last-cons : (part : List ℕ) (parts : List (List ℕ)) → 0 < length parts → without_last (part ∷ parts) ≡ part ∷ without_last parts
without_last-cons part [] some = absurd (omega arith)
without_last-cons part (next ∷ more) some = refl

-- a text whose first line ends has that line and the others
unreachables_in-line : (line rest : List ℕ) → lacks_lf line → unreachables_in ((line ++ 10 ∷ []) ++ rest) ≡ cond (is_unreachable line) 1 0 + unreachables_in rest
unreachables_in-line line rest lacks =
    let parts = slice_split is_lf rest in
    ap (λ (t : List ℕ). unreachables_in t) (append_assoc line (10 ∷ []) rest)
    ∙ ap (λ (l : List (List ℕ)). count_by is_unreachable (without_last l)) (slice_split_at is_lf line 10 rest lacks refl)
    ∙ ap (count_by is_unreachable) (without_last-cons line parts (omega (arith, length-slice_split is_lf rest)))
    ∙ sum_by-cons (λ l. cond (is_unreachable l) 1 0) line (without_last parts)

-- a text without a line feed has no line that ends
unreachables_in-none : (text : List ℕ) → lacks_lf text → unreachables_in text ≡ 0
unreachables_in-none text lacks = ap (λ (l : List (List ℕ)). count_by is_unreachable (without_last l)) (slice_split_none is_lf text lacks)

-- a front has no more than the whole
front_fewer : (lines : List (List ℕ)) (text rest : List ℕ) → All IsInLine lines → lines_text lines ≡ text ++ rest → unreachables_in text ≤ count_by is_unreachable lines
front_fewer [] [] rest each same = omega arith
front_fewer [] (byte ∷ text) rest each same = absurd cc
front_fewer (line ∷ lines) text rest each same =
    let in_line = lacks line (All-head IsInLine line lines each) in
    let all : count_by is_unreachable (line ∷ lines) ≡ cond (is_unreachable line) 1 0 + count_by is_unreachable lines = sum_by-cons (λ l. cond (is_unreachable l) 1 0) line lines in
    ⊎_elim
    (λ whole.
    let fewer = front_fewer lines whole.0 rest (All-tail IsInLine line lines each) whole.2 in
    let has : unreachables_in text ≡ cond (is_unreachable line) 1 0 + unreachables_in whole.0 = ap (λ (t : List ℕ). unreachables_in t) whole.1 ∙ unreachables_in-line line whole.0 in_line in
    omega (arith, fewer, has, all))
    (λ none. omega (arith, unreachables_in-none text none))
    (cut line (lines_text lines) text rest in_line same)

pub few_unreachable : (before text : List ℕ) (new : Option (List ℕ)) (a b : ℕ) → AddsFront (Some before) new a b → new ≡ Some (before ++ text) → IsWithinRise (unreachables_in text) a b
few_unreachable before text new a b adds is =
    let added = adds.front.before in
    let both : append_known (Some before) added.front ≡ append_known (Some before) text = sym added.told ∙ is in
    let lists : before ++ added.front ≡ before ++ text = cc in
    let front : added.front ≡ text = append_cancel_left before added.front text lists in
    within_fewer (unreachables_in text) (count_by is_unreachable adds.lines) a b
    (front_fewer adds.lines text adds.front.rest adds.each (added.whole ∙ ap (λ (t : List ℕ). t ++ adds.front.rest) front)) adds.within
