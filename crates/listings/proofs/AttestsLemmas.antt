-- The lines of `attests`, one after another: how a row is put into groups, that it has one list of them, and that no line reads as a refusal.
use Rattle.std.proofs.Common.{◌≡◌, ◌≢◌, ℕ, zero, suc, ◌+◌, ◌-◌, ◌<◌, ◌≤◌, nat_le, Bool, true, false, if◌then◌else◌, List, [], ◌∷◌, ◌++◌, length, take, drop, map, flat_map, decimal, refl, sym, ap, subst, ◌∙◌, inl, inr, arith}
use Rattle.std.specs.Prelude.{⊤}
use Rattle.std.specs.FinMap as fin
use Rattle.std.specs.List.{All, AllByRecursion, concat, onto_first}
use Rattle.std.specs.List.Sorted.{IsStrictlySortedBy}
use Rattle.std.specs.Cmp.{nat_cmp_total}
use Rattle.std.specs.Ordering.{nat_cmp}
use Rattle.std.specs.Map.{keys_of}
use Rattle.std.specs.declared.result.Result.{Result}
use Rattle.std.proofs.Math.Seq.{drop-append_seam, take-append_seam, take-length}
use Rattle.std.proofs.lemmas.Bool.Decides.{leb_tells}
use Rattle.std.proofs.lemmas.List.{append-nil, length-append, length-drop}
use Rattle.std.proofs.lemmas.List.Elements.{All-from_recursion, All-head, All-map, All-tail}
use Rattle.av_base.specs.One.{HasOne}
use Rattle.av_base.specs.declared.stop.Stop.{Stop}
use Rattle.attestations.specs.CurrentTable.{IsCurrentTable, Parts}
use Rattle.vap_table.specs.Entries.{rows_of}
use Rattle.report_text.specs.Assertions.{IsFilled, assertion_line, assertion_text, most_bytes}
use Rattle.report_text.specs.Details.{ases_text}
use Rattle.report_text.specs.Laws.{IsAnswerLine}
use Rattle.report_text.specs.Reported.{lines_text}
use Rattle.report_text.proofs.AsesLemmas.{line_size as size_of_line, prefix}
use Rattle.report_text.proofs.AttestedLemmas.{assertion_is_one_line}
use Rattle.listings.specs.Attests.{AreAttested, AreFilled, AreFull, AreGroups, HaveRoom, attested_row, rows_under}
use Rattle.listings.specs.EachAttested.{grouped, groups_of, pieces, rows_for, rows_of_rest, size_of, whole_room, with_groups}
use Rattle.listings.specs.Listing.{Adds, Listed, Lists, Pouring}
use Rattle.listings.proofs.EntriesLemmas.{entries_whole}
use Rattle.listings.proofs.ListingLemmas.{all_listed}

abbrev Groups : Type 0
Groups = List (List ℕ)

-- ---- sizes

size_first : (provider : ℕ) (more : List ℕ) → length (ases_text (provider ∷ more)) ≡ size_of provider + length (ases_text more)
size_first provider more = length-append (32 ∷ decimal provider) (ases_text more)

line_size : (customer p : ℕ) (ps : List ℕ) → length (assertion_line customer (p ∷ ps)) ≡ prefix customer + length (ases_text (p ∷ ps))
line_size customer p ps = size_of_line customer (p ∷ ps) (omega arith)

-- ---- the first of the groups, by how many providers are on it

-- the groups of the providers behind a line
abbrev rest_of : ℕ → List ℕ → Groups
rest_of whole [] = []
rest_of whole (p ∷ ps) = onto_first p (grouped whole (whole - size_of p) ps)

fitting : (b : Bool) (one other : Groups) → b ≡ true → (if b then one else other) ≡ one
fitting true one other is = refl
fitting false one other is = absurd cc

not_fitting : (b : Bool) (one other : Groups) → b ≡ false → (if b then one else other) ≡ other
not_fitting true one other is = absurd cc
not_fitting false one other is = refl

first_group : (whole room : ℕ) (row : List ℕ) (n : ℕ) → n ≤ length row → length (ases_text (take n row)) ≤ room → (n < length row → room < length (ases_text (take (suc n) row)))
    → grouped whole room row ≡ take n row ∷ rest_of whole (drop n row)
first_group whole room [] zero within fits full = refl
first_group whole room [] (suc n) within fits full = absurd (omega (arith, within))
first_group whole room (p ∷ ps) zero within fits full = elim (leb_tells (size_of p) room) [
  | inl small ↦ let above : room < length (ases_text (p ∷ [])) = full (omega arith) in absurd (omega (arith, small.1, above, size_first p []))
  | inr large ↦ not_fitting (nat_le (size_of p) room) _ _ large.0
]
first_group whole room (p ∷ ps) (suc n) within fits full = elim (leb_tells (size_of p) room) [
  | inr large ↦ absurd (omega (arith, large.1, size_first p (take n ps), fits))
  | inl small ↦
      fitting (nat_le (size_of p) room) _ _ small.0
      ∙ ap (onto_first p) (first_group whole (room - size_of p) ps n (omega (arith, within)) (omega (arith, size_first p (take n ps), fits))
      (λ more. let above : room < length (ases_text (p ∷ take (suc n) ps)) = full (omega (arith, more)) in
      omega (arith, above, size_first p (take (suc n) ps), small.1)))
]

-- ---- that the groups are as they are to be

-- the providers of a group of two or more have room
abbrev Has : ℕ → List ℕ → Type 0
Has whole group = 1 < length group → length (ases_text group) ≤ whole

-- the first group has so much room, and the others all
abbrev Fulls : ℕ → ℕ → List ℕ → Groups → Type 0
Fulls whole room first [] = ⊤
Fulls whole room first (next ∷ more) = (room < length (ases_text (first ++ take 1 next))) × Fulls whole whole next more

record Good (whole room : ℕ) (row : List ℕ) (groups : Groups) : Type 0 where
  first : List ℕ
  others : Groups
  are : groups ≡ first ∷ others
  joined : first ++ concat others ≡ row
  fits : length (ases_text first) ≤ room
  some : AllByRecursion (λ group. group ≢ []) others
  rooms : AllByRecursion (Has whole) others
  full : Fulls whole room first others

put_first : (whole room p : ℕ) (first : List ℕ) (others : Groups) → Fulls whole (room - size_of p) first others → Fulls whole room (p ∷ first) others
put_first whole room p first [] full = tt
put_first whole room p first (next ∷ more) full = (omega (arith, full.0, size_first p (first ++ take 1 next)), full.1)

room_of : (whole p : ℕ) (first : List ℕ) → length (ases_text first) ≤ whole - size_of p → Has whole (p ∷ first)
room_of whole p [] fits = λ more. absurd (omega (arith, more))
room_of whole p (q ∷ qs) fits = λ more. omega (arith, fits, size_first p (q ∷ qs), size_first q qs)

good : (whole room : ℕ) (row : List ℕ) → Good whole room row (grouped whole room row)
good whole room [] = record { first = []; others = []; are = refl; joined = refl; fits = omega arith; some = tt; rooms = tt; full = tt }
good whole room (p ∷ ps) = elim (leb_tells (size_of p) room) [
  | inl small ↦
      let rest = good whole (room - size_of p) ps in
      record {
        first = p ∷ rest.first;
        others = rest.others;
        are = fitting (nat_le (size_of p) room) _ _ small.0 ∙ ap (onto_first p) rest.are;
        joined = ap (λ (xs : List ℕ). p ∷ xs) rest.joined;
        fits = omega (arith, size_first p rest.first, rest.fits, small.1);
        some = rest.some;
        rooms = rest.rooms;
        full = put_first whole room p rest.first rest.others rest.full;
      }
  | inr large ↦
      let rest = good whole (whole - size_of p) ps in
      record {
        first = [];
        others = (p ∷ rest.first) ∷ rest.others;
        are = not_fitting (nat_le (size_of p) room) _ _ large.0 ∙ ap (λ (gs : Groups). [] ∷ onto_first p gs) rest.are;
        joined = ap (λ (xs : List ℕ). p ∷ xs) rest.joined;
        fits = omega arith;
        some = (λ none. cc, rest.some);
        rooms = (room_of whole p rest.first rest.fits, rest.rooms);
        full = (omega (arith, large.1, size_first p []), put_first whole whole p rest.first rest.others rest.full);
      }
]

have_room : (customer : ℕ) (group : List ℕ) → Has (whole_room customer) group → HaveRoom customer group
have_room customer [] has = λ more. absurd (omega (arith, more))
have_room customer (q ∷ qs) has = λ more. omega (arith, has more, line_size customer q qs, size_first q qs)

all_rooms : (customer : ℕ) (groups : Groups) → AllByRecursion (Has (whole_room customer)) groups → AllByRecursion (HaveRoom customer) groups
all_rooms customer [] each = tt
all_rooms customer (group ∷ groups) each = (have_room customer group each.0, all_rooms customer groups each.1)

are_full : (customer : ℕ) (first : List ℕ) (others : Groups) → AllByRecursion (λ group. group ≢ []) (first ∷ others) → Fulls (whole_room customer) (whole_room customer) first others
    → AreFull customer (first ∷ others)
are_full customer first [] some full = tt
are_full customer [] (next ∷ more) some full = absurd (some.0 refl)
are_full customer (q ∷ qs) (next ∷ more) some full =
    (omega (arith, full.0, line_size customer q (qs ++ take 1 next)), are_full customer next more some.1 full.1)

pub groups_are : (customer : ℕ) (row : List ℕ) → AreGroups customer row (groups_of customer row)
groups_are customer [] = refl
groups_are customer (p ∷ ps) =
    let whole = whole_room customer in
    let rest = good whole (whole - size_of p) ps in
    let some : AllByRecursion (λ group. group ≢ []) ((p ∷ rest.first) ∷ rest.others) = (λ none. cc, rest.some) in
    let filled : AreFilled customer (p ∷ ps) ((p ∷ rest.first) ∷ rest.others) = record {
      whole = ap (λ (xs : List ℕ). p ∷ xs) rest.joined;
      some = All-from_recursion (λ group. group ≢ []) ((p ∷ rest.first) ∷ rest.others) some;
      room = All-from_recursion (HaveRoom customer) ((p ∷ rest.first) ∷ rest.others) (all_rooms customer ((p ∷ rest.first) ∷ rest.others) (room_of whole p rest.first rest.fits, rest.rooms));
      full = are_full customer (p ∷ rest.first) rest.others some (put_first whole whole p rest.first rest.others rest.full);
    } in
    subst (AreFilled customer (p ∷ ps)) (sym (ap (onto_first p) rest.are)) filled

-- ---- that there are no others

one_further : (group : List ℕ) (x : ℕ) (more : List ℕ) → take (suc (length group)) (group ++ x ∷ more) ≡ group ++ x ∷ []
one_further [] x more = refl
one_further (q ∷ qs) x more = ap (λ (xs : List ℕ). q ∷ xs) (one_further qs x more)

-- with one provider at its end a group has some bytes
some_bytes : (group : List ℕ) (x : ℕ) → 0 < length (ases_text (group ++ x ∷ []))
some_bytes [] x = omega (arith, size_first x [])
some_bytes (q ∷ qs) x = omega (arith, size_first q (qs ++ x ∷ []))

only_fits : (customer q : ℕ) (group : List ℕ) → HaveRoom customer (q ∷ group) → length (ases_text group) ≤ whole_room customer - size_of q
only_fits customer q [] room = omega arith
only_fits customer q (x ∷ xs) room = omega (arith, room (omega arith), line_size customer q (x ∷ xs), size_first q (x ∷ xs))

only_full : (customer q : ℕ) (group : List ℕ) (more : Groups) → All (λ g. g ≢ []) more → AreFull customer ((q ∷ group) ∷ more) → length group < length (group ++ concat more)
    → whole_room customer - size_of q < length (ases_text (take (suc (length group)) (group ++ concat more)))
only_full customer q group [] some full more = absurd (omega (arith, more, ap length (append-nil group)))
only_full customer q group ([] ∷ gs) some full more = absurd (All-head (λ g. g ≢ []) [] gs some refl)
only_full customer q group ((x ∷ xs) ∷ gs) some full more =
    let taken = ap (λ (ys : List ℕ). length (ases_text ys)) (one_further group x (xs ++ concat gs)) in
    let above : most_bytes < length (assertion_line customer (q ∷ (group ++ x ∷ []))) = full.0 in
    omega (arith, taken, above, line_size customer q (group ++ x ∷ []), size_first q (group ++ x ∷ []), some_bytes group x)

later_full : (customer : ℕ) (group : List ℕ) (more : Groups) → AreFull customer (group ∷ more) → AreFull customer more
later_full customer group [] full = tt
later_full customer group (next ∷ more) full = full.1

only_groups : (customer : ℕ) (groups : Groups) → All (λ g. g ≢ []) groups → All (HaveRoom customer) groups → AreFull customer groups
    → rest_of (whole_room customer) (concat groups) ≡ groups
only_groups customer [] some room full = refl
only_groups customer ([] ∷ gs) some room full = absurd (All-head (λ g. g ≢ []) [] gs some refl)
only_groups customer ((q ∷ group) ∷ gs) some room full =
    let whole = whole_room customer in
    let later = All-tail (λ g. g ≢ []) (q ∷ group) gs some in
    let first : grouped whole (whole - size_of q) (group ++ concat gs) ≡ take (length group) (group ++ concat gs) ∷ rest_of whole (drop (length group) (group ++ concat gs)) =
    first_group whole (whole - size_of q) (group ++ concat gs) (length group) (omega (arith, length-append group (concat gs)))
    (subst (λ (ys : List ℕ). length (ases_text ys) ≤ whole - size_of q) (sym (take-append_seam group (concat gs))) (only_fits customer q group (All-head (HaveRoom customer) (q ∷ group) gs room)))
    (only_full customer q group gs later full) in
    let rest : rest_of whole (drop (length group) (group ++ concat gs)) ≡ gs =
    ap (rest_of whole) (drop-append_seam group (concat gs))
    ∙ only_groups customer gs later (All-tail (HaveRoom customer) (q ∷ group) gs room) (later_full customer (q ∷ group) gs full) in
    ap (onto_first q) (first ∙ (λ i. take-append_seam group (concat gs) i ∷ rest i))

only_one : (customer : ℕ) (row : List ℕ) (groups : Groups) → AreGroups customer row groups → groups ≡ groups_of customer row
only_one customer [] groups are = are
only_one customer (p ∷ ps) groups are =
    sym (only_groups customer groups are.some are.room are.full) ∙ ap (rest_of (whole_room customer)) are.whole

pub one_list_of_groups : (customer : ℕ) (row : List ℕ) → HasOne (AreGroups customer row)
one_list_of_groups customer row = record { one = groups_of customer row; is = groups_are customer row; only = only_one customer row }

-- ---- line by line

-- the groups behind the first one
rest_are : (customer : ℕ) (row : List ℕ) → map {B = ℕ × List ℕ} (λ group. (customer, group)) (rest_of (whole_room customer) row) ≡ rows_of_rest customer row
rest_are customer [] = refl
rest_are customer (p ∷ ps) = refl

taken_bytes : (n : ℕ) (ps : List ℕ) → n < length ps → 0 < length (ases_text (take (suc n) ps))
taken_bytes n [] more = absurd (omega (arith, more))
taken_bytes n (p ∷ ps) more = omega (arith, size_first p (take n ps))

line_first : (customer : ℕ) (row : List ℕ) (n : ℕ) → IsFilled customer row n → groups_of customer row ≡ take n row ∷ rest_of (whole_room customer) (drop n row)
line_first customer [] zero filled = refl
line_first customer [] (suc n) filled = absurd (omega (arith, filled.within))
line_first customer (p ∷ ps) zero filled = absurd (omega (arith, filled.some (omega arith)))
line_first customer (p ∷ ps) (suc n) filled =
    let whole = whole_room customer in
    ap (onto_first p) (first_group whole (whole - size_of p) ps n (omega (arith, filled.within))
    (omega (arith, filled.fits, line_size customer p (take n ps), size_first p (take n ps)))
    (λ more.
    let next : suc n + 1 ≡ suc (suc n) = omega arith in
    let above : most_bytes < length (assertion_line customer (take (suc (suc n)) (p ∷ ps))) =
    subst (λ (m : ℕ). most_bytes < length (assertion_line customer (take m (p ∷ ps)))) next (filled.full (omega (arith, more))) in
    omega (arith, above, line_size customer p (take (suc n) ps), size_first p (take (suc n) ps), taken_bytes n ps more)))

-- a line was taken of a customer's providers
pub line_taken : (customer : ℕ) (row : List ℕ) (entries : List (ℕ × List ℕ)) (n : ℕ) → IsFilled customer row n
    → map attested_row (rows_for (customer, row) ++ flat_map rows_for entries) ≡ attested_row (customer, take n row) ∷ pieces customer (drop n row) entries
line_taken customer row entries n filled =
    ap (λ (gs : Groups). map attested_row (map {B = ℕ × List ℕ} (λ group. (customer, group)) gs ++ flat_map rows_for entries)) (line_first customer row n filled)
    ∙ ap (λ (rows : List (ℕ × List ℕ)). attested_row (customer, take n row) ∷ map attested_row (rows ++ flat_map rows_for entries)) (rest_are customer (drop n row))

-- of those that are left
pub pieces_left : (customer : ℕ) (left : List ℕ) (entries : List (ℕ × List ℕ)) → 0 < length left → pieces customer left entries ≡ map attested_row (rows_for (customer, left) ++ flat_map rows_for entries)
pieces_left customer [] entries some = absurd (omega (arith, some))
pieces_left customer (p ∷ ps) entries some = refl

-- and of the next customer
pub pieces_next : (customer : ℕ) (left : List ℕ) (entries more : List (ℕ × List ℕ)) (next : ℕ × List ℕ) → left ≡ [] → entries ≡ next ∷ more
    → pieces customer left entries ≡ map attested_row (rows_for next ++ flat_map rows_for more)
pieces_next customer left entries more next none is = λ i. pieces customer (none i) (is i)

whole_rest : (n : ℕ) (xs : List ℕ) → take (length xs - n) (drop n xs) ≡ drop n xs
whole_rest n xs = ap (λ (m : ℕ). take m (drop n xs)) (sym (length-drop n xs)) ∙ take-length (drop n xs)

added : (customer : ℕ) (left : List ℕ) (entries : List (ℕ × List ℕ)) (n : ℕ) (before : Groups) (text_old text_new : List ℕ)
    → before ≡ map attested_row (rows_for (customer, left) ++ flat_map rows_for entries) → IsFilled customer left n → text_new ≡ text_old ++ assertion_text customer (take n left)
    → Adds before (pieces customer (take (length left - n) (drop n left)) entries) text_old text_new
added customer left entries n before text_old text_new is filled text = record {
  piece = attested_row (customer, take n left);
  first = is ∙ line_taken customer left entries n filled ∙ ap (λ (xs : List ℕ). attested_row (customer, take n left) ∷ pieces customer xs entries) (sym (whole_rest n left));
  added = text;
}

no_items : (xs : List ℕ) → length xs ≡ 0 → xs ≡ []
no_items [] none = refl
no_items (x ∷ xs) none = absurd (omega (arith, none))

-- the step of a line, of the next customer and of the one whose providers are left
pub next_added : (customer first next : ℕ) (left rest row : List ℕ) (entries all more : List (ℕ × List ℕ)) (n : ℕ) (text_old text_new : List ℕ)
    → length rest ≡ 0 → all ≡ (next, row) ∷ more → customer ≡ next → left ≡ row → entries ≡ more
    → IsFilled customer left n → text_new ≡ text_old ++ assertion_text customer (take n left)
    → Adds (pieces first rest all) (pieces customer (take (length left - n) (drop n left)) entries) text_old text_new
next_added customer first next left rest row entries all more n text_old text_new none is same_customer same_left same_entries filled text =
    added customer left entries n (pieces first rest all) text_old text_new
    (pieces_next first rest all more (next, row) (no_items rest none) is
    ∙ sym (λ i. map attested_row (rows_for (same_customer i, same_left i) ++ flat_map rows_for (same_entries i)))) filled text

pub left_added : (customer first : ℕ) (left rest : List ℕ) (entries all : List (ℕ × List ℕ)) (n : ℕ) (text_old text_new : List ℕ)
    → 0 < length rest → customer ≡ first → left ≡ rest → entries ≡ all → IsFilled customer left n → text_new ≡ text_old ++ assertion_text customer (take n left)
    → Adds (pieces first rest all) (pieces customer (take (length left - n) (drop n left)) entries) text_old text_new
left_added customer first left rest entries all n text_old text_new some same_customer same_left same_entries filled text =
    added customer left entries n (pieces first rest all) text_old text_new
    (pieces_left first rest all some ∙ sym (λ i. map attested_row (rows_for (same_customer i, same_left i) ++ flat_map rows_for (same_entries i)))) filled text

firsts : (entries : List (ℕ × List ℕ)) → map (λ g. g.0) (map with_groups entries) ≡ entries
firsts [] = refl
firsts (e ∷ es) = ap (λ (more : List (ℕ × List ℕ)). e ∷ more) (firsts es)

rows_under_all : (entries : List (ℕ × List ℕ)) → flat_map rows_for entries ≡ flat_map rows_under (map with_groups entries)
rows_under_all [] = refl
rows_under_all (e ∷ es) = ap (λ (more : List (ℕ × List ℕ)). rows_for e ++ more) (rows_under_all es)

pub attests_listed : {T : Type 0} (parts : Parts) (entries : List (ℕ × List ℕ)) (old new : Pouring) (result : Result T Stop)
    → IsCurrentTable parts (λ x. fin.get (rows_of entries) x) → IsStrictlySortedBy nat_cmp (keys_of entries)
    → Listed (concat (pieces 0 [] entries)) old new result → Lists (AreAttested parts) attested_row old new result
attests_listed {T} parts entries old new result current rising listed =
    all_listed (AreAttested parts) attested_row (flat_map rows_for entries) old new result
    record {
      table = rows_of entries;
      current = current;
      grouped = map with_groups entries;
      entries = firsts entries ∙ sym (entries_whole nat_cmp_total entries rising);
      groups = All-map (λ g. AreGroups g.0.0 g.0.1 g.1) with_groups entries (λ k e within. groups_are _ _);
      listed = rows_under_all entries;
    } listed

-- ---- lines

abbrev pub line_of_row : ℕ × List ℕ → List ℕ
line_of_row row = assertion_line row.0 row.1

pub attests_are_lines : (rows : List (ℕ × List ℕ)) → flat_map attested_row rows ≡ lines_text (map line_of_row rows)
attests_are_lines [] = refl
attests_are_lines (row ∷ rows) = ap (λ (t : List ℕ). attested_row row ++ t) (attests_are_lines rows)

pub attests_answer : (rows : List (ℕ × List ℕ)) → All IsAnswerLine (map line_of_row rows)
attests_answer rows = All-map IsAnswerLine line_of_row rows (λ k row within. assertion_is_one_line _ _)
