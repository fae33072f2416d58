-- Rows of sources that are counted in place of others.
use Rattle.std.proofs.Common.{◌≡◌, ℕ, nat_eq, ◌+◌, ◌<◌, ◌≤◌, Bool, true, false, not, ◌&&◌, cond, List, [], ◌∷◌, ◌++◌, length, length-append, get_or, filter, map, Some, None, is_some, true≢false, refl, sym, ap, subst, ◌∙◌, arith}
use Rattle.std.specs.declared.option.Option.{Option}
use Rattle.std.specs.FinMap as finite
use Rattle.std.specs.List.Sorted.{IsPermutation, IsStrictlyIncreasing}
use Rattle.std.specs.Cmp.Lexicographic.{pointwise}
use Rattle.std.proofs.lemmas.List.{nil_from_length}
use Rattle.std.proofs.lemmas.List.Sorted.{sum_by-IsPermutation}
use Rattle.std.proofs.lemmas.List.Sums.{sum_by-append}
use Rattle.std.proofs.lemmas.Map.Keys.{sorted_from_strictly_increasing}
use Rattle.path_model.specs.Authority.{has}
use Rattle.attestations.specs.declared.term.Term.{Term}
use Rattle.attestations.specs.ComputedTable.{attested}
use Rattle.attestations.specs.Terms.{TermMap, alive_among, alive_of, lasting}
use Rattle.vap_table.specs.declared.tally.Tally.{Tally}
use Rattle.vap_table.specs.declared.stepping.Step.TheVariants.{SourceMore, SourceLess}
use Rattle.vap_table.specs.declared.tallied.Side.TheVariants.{Sources}
use Rattle.vap_table.specs.Change.{with_source, terms_in}
use Rattle.vap_table.specs.Counting.{IsGrownBy, IsOrdered, IsTallyBySide}
use Rattle.vap_table.specs.Sources.{list_of}
use Rattle.vap_table.specs.Stepping.{one, times, AreStepsTaken}
use Rattle.vap_table.specs.Tally.{holding, IsTallyOfRows}
use Rattle.vap_table.specs.Turning.{is_counted, row_if, rows_at, rows_left, AreGathered, AreGatheredToo, AreGrown, IsTurned}
use Rattle.vap_table.proofs.CountingLemmas.{sources_added, sources_removed}
use Rattle.vap_table.proofs.SourcesLemmas.{none_of_empty}
use Rattle.vap_table.proofs.SteppingLemmas.{times_once}

-- ---- rows among others

filter_appended : (p : List ℕ → Bool) (rows more : List (List ℕ)) → filter p (rows ++ more) ≡ filter p rows ++ filter p more
filter_appended p [] more = refl
filter_appended p (row ∷ rows) more = by_test (p row) (filter_appended p rows more) where
  by_test : (b : Bool) → filter p (rows ++ more) ≡ filter p rows ++ filter p more → cond b (row ∷ filter p (rows ++ more)) (filter p (rows ++ more)) ≡ cond b (row ∷ filter p rows) (filter p rows) ++ filter p more
  by_test true e = ap (λ (l : List (List ℕ)). row ∷ l) e
  by_test false e = e

holding_appended : (y : ℕ) (rows more : List (List ℕ)) → holding y (rows ++ more) ≡ holding y rows + holding y more
holding_appended y rows more = ap (λ (l : List (List ℕ)). length l) (filter_appended (λ row. has row y) rows more) ∙ length-append (filter (λ row. has row y) rows) (filter (λ row. has row y) more)

length_appended : (rows more : List (List ℕ)) → length (rows ++ more) ≡ length rows + length more
length_appended rows more = length-append rows more

pub grown_front : (more rows : List (List ℕ)) → AreGrown more rows (more ++ rows)
grown_front more rows = record { number = length_appended more rows; held = λ y. holding_appended y more rows }

add_between : (a b c d e : ℕ) → a ≡ b + c → d ≡ e + c → e + a ≡ b + d
add_between a b c d e p q = omega (arith, p, q)

pub grown_behind : (front more rows grown : List (List ℕ)) → AreGrown more rows grown → AreGrown more (front ++ rows) (front ++ grown)
grown_behind front more rows grown g = record {
  number = length_appended front grown ∙ add_between (length grown) (length more) (length rows) (length (front ++ rows)) (length front) g.number (length_appended front rows);
  held = λ y. holding_appended y front grown ∙ add_between (holding y grown) (holding y more) (holding y rows) (holding y (front ++ rows)) (holding y front) (g.held y) (holding_appended y front rows);
}

add_both : (a b c d e f : ℕ) → a ≡ b + c → b ≡ d + e → f ≡ e + c → a ≡ d + f
add_both a b c d e f p q r = omega (arith, p, q, r)

-- those in front of the rest go with the rest
grown_first : (more others rows grown : List (List ℕ)) → AreGrown (more ++ others) rows grown → AreGrown more (others ++ rows) grown
grown_first more others rows grown g = record {
  number = add_both (length grown) (length (more ++ others)) (length rows) (length more) (length others) (length (others ++ rows)) g.number (length_appended more others) (length_appended others rows);
  held = λ y. add_both (holding y grown) (holding y (more ++ others)) (holding y rows) (holding y more) (holding y others) (holding y (others ++ rows)) (g.held y) (holding_appended y more others) (holding_appended y others rows);
}

add_other : (a b c d e f : ℕ) → a ≡ b + c → b ≡ e + d → f ≡ e + c → a ≡ d + f
add_other a b c d e f p q r = omega (arith, p, q, r)

grown_second : (others more rows grown : List (List ℕ)) → AreGrown (others ++ more) rows grown → AreGrown more (others ++ rows) grown
grown_second others more rows grown g = record {
  number = add_other (length grown) (length (others ++ more)) (length rows) (length more) (length others) (length (others ++ rows)) g.number (length_appended others more) (length_appended others rows);
  held = λ y. add_other (holding y grown) (holding y (others ++ more)) (holding y rows) (holding y more) (holding y others) (holding y (others ++ rows)) (g.held y) (holding_appended y others more) (holding_appended y others rows);
}

-- ---- a tally looks at no more than these counts

counts_alike : (rows other asserted : List (List ℕ)) (tally : Option Tally) → length other ≡ length rows → ((y : ℕ) → holding y other ≡ holding y rows) → IsTallyOfRows rows asserted tally → IsTallyOfRows other asserted tally
counts_alike rows other asserted None number held is = (nil_from_length other (number ∙ ap (λ (l : List (List ℕ)). length l) is.0), is.1)
counts_alike rows other asserted (Some tally) number held is = record {
  sources = is.sources ∙ sym number;
  assertions = is.assertions;
  some = is.some;
  given = record { rising = is.given.rising; exact = λ y. is.given.exact y ∙ (λ i. (sym (held y) i, holding y asserted)); each_held = is.given.each_held };
}

pub turned_same : (rows : List (List ℕ)) (tally : Option Tally) → IsTurned rows rows tally tally
turned_same rows tally before after other t is = counts_alike before after other tally (t.is.number ∙ sym t.was.number) (λ y. t.is.held y ∙ sym (t.was.held y)) is

pub turned_both : (gone come gone' come' : List (List ℕ)) (first mid last : Option Tally) → IsTurned gone come first mid → IsTurned gone' come' mid last → IsTurned (gone ++ gone') (come ++ come') first last
turned_both gone come gone' come' first mid last one two before after other t is =
    let between : List (List ℕ) = come ++ (gone' ++ t.rest) in
    two between after other
    (record {
      rest = come ++ t.rest;
      was = grown_behind come gone' t.rest (gone' ++ t.rest) (grown_front gone' t.rest);
      is = grown_second come come' t.rest after t.is;
    })
    (one before between other
    (record {
      rest = gone' ++ t.rest;
      was = grown_first gone gone' t.rest before t.was;
      is = grown_front come (gone' ++ t.rest);
    })
    is)

-- ---- one row

held_by_one : (b : Bool) (row : List ℕ) → length (cond b (row ∷ []) []) ≡ one b
held_by_one true row = refl
held_by_one false row = refl

one_more : (a b c d : ℕ) → a ≡ b + c → b ≡ d → a ≡ c + d
one_more a b c d p q = omega (arith, p, q)

grown_by : (row : List ℕ) (rows grown : List (List ℕ)) → AreGrown (row ∷ []) rows grown → IsGrownBy (Some row) rows grown
grown_by row rows grown g = record {
  number = one_more (length grown) (length (row ∷ [])) (length rows) (one true) g.number (omega arith);
  held = λ y. one_more (holding y grown) (holding y (row ∷ [])) (holding y rows) (one (has row y)) (g.held y) (held_by_one (has row y) row);
}

nothing_more : (a b c : ℕ) → a ≡ b + c → b ≡ 0 → a ≡ c
nothing_more a b c p q = omega (arith, p, q)

-- the counts of rows with nothing more
length_none : (rows grown : List (List ℕ)) → AreGrown [] rows grown → length grown ≡ length rows
length_none rows grown g = nothing_more (length grown) 0 (length rows) g.number refl

holding_none : (rows grown : List (List ℕ)) (y : ℕ) → AreGrown [] rows grown → holding y grown ≡ holding y rows
holding_none rows grown y g = nothing_more (holding y grown) 0 (holding y rows) (g.held y) refl

-- a row of sources is taken off,
pub row_gone : (row : List ℕ) (tally next : Option Tally)
    → ((rows grown other : List (List ℕ)) → IsGrownBy (Some row) rows grown → IsTallyBySide Sources grown other tally → IsTallyBySide Sources rows other next) → IsTurned (row ∷ []) [] tally next
row_gone row tally next takes before after other t is = counts_alike t.rest after other next (length_none t.rest after t.is) (λ y. holding_none t.rest after y t.is)
    (takes t.rest before other (grown_by row t.rest before t.was) is)

-- or is added
pub row_come : (row : List ℕ) (tally next : Option Tally)
    → ((rows grown other : List (List ℕ)) → IsGrownBy (Some row) rows grown → IsTallyBySide Sources rows other tally → IsTallyBySide Sources grown other next) → IsTurned [] (row ∷ []) tally next
row_come row tally next adds before after other t is = adds t.rest after other (grown_by row t.rest after t.is)
    (counts_alike before t.rest other tally (sym (length_none t.rest before t.was)) (λ y. sym (holding_none t.rest before y t.was)) is)

-- ---- several rows

no_length : (rows : List (List ℕ)) → length rows ≡ 0 → rows ≡ []
no_length rows e = nil_from_length rows e

-- no rows change nothing
pub none_gone : (rows : List (List ℕ)) (n : ℕ) (numbers : List ℕ) (tally : Option Tally) → n ≡ 0 → AreGathered rows n numbers → IsTurned rows [] tally tally
none_gone rows n numbers tally none g = subst (λ (gone : List (List ℕ)). IsTurned gone [] tally tally) (sym (no_length rows (sym g.count ∙ none))) (turned_same [] tally)

pub none_come : (rows : List (List ℕ)) (n : ℕ) (numbers : List ℕ) (tally : Option Tally) → n ≡ 0 → AreGathered rows n numbers → IsTurned [] rows tally tally
none_come rows n numbers tally none g = subst (λ (come : List (List ℕ)). IsTurned [] come tally tally) (sym (no_length rows (sym g.count ∙ none))) (turned_same [] tally)

other_way : (a b c k : ℕ) → a ≡ b + c → k ≡ b → a ≡ c + k
other_way a b c k p q = omega (arith, p, q)

grown_number : (rows rest grown : List (List ℕ)) (n : ℕ) (numbers : List ℕ) → AreGathered rows n numbers → AreGrown rows rest grown → length grown ≡ length rest + n
grown_number rows rest grown n numbers g grows = other_way (length grown) (length rows) (length rest) n grows.number g.count

grown_held : (rows rest grown : List (List ℕ)) (n : ℕ) (numbers : List ℕ) → AreGathered rows n numbers → AreGrown rows rest grown → (y : ℕ) → holding y grown ≡ holding y rest + times numbers y
grown_held rows rest grown n numbers g grows y = other_way (holding y grown) (holding y rows) (holding y rest) (times numbers y) (grows.held y) (g.each y)

-- rows of sources are taken off,
pub rows_gone : (rows : List (List ℕ)) (n : ℕ) (numbers : List ℕ) (tally next : Option Tally) → AreGathered rows n numbers → AreStepsTaken SourceLess n (times numbers) tally next → IsTurned rows [] tally next
rows_gone rows n numbers tally next g s before after other t is = counts_alike t.rest after other next (length_none t.rest after t.is) (λ y. holding_none t.rest after y t.is)
    (sources_removed n (times numbers) t.rest before other tally next s (grown_number rows t.rest before n numbers g t.was) (grown_held rows t.rest before n numbers g t.was) is)

-- or are added
pub rows_come : (rows : List (List ℕ)) (n : ℕ) (numbers : List ℕ) (tally next : Option Tally) → AreGathered rows n numbers → AreStepsTaken SourceMore n (times numbers) tally next → IsTurned [] rows tally next
rows_come rows n numbers tally next g s before after other t is =
    sources_added n (times numbers) t.rest after other tally next s (grown_number rows t.rest after n numbers g t.is) (grown_held rows t.rest after n numbers g t.is)
    (counts_alike before t.rest other tally (sym (length_none t.rest before t.was)) (λ y. sym (holding_none t.rest before y t.was)) is)

-- the rows of those that pass a test
abbrev rows_with : (Term → Bool) → List Term → List (List ℕ)
rows_with p terms = map {B = List ℕ} (λ (t : Term). t.providers) (filter p terms)

-- one row more in front of those that come
grown_more : (row : List ℕ) (more rows grown : List (List ℕ)) → AreGrown more rows grown → AreGrown (row ∷ more) rows (row ∷ grown)
grown_more row more rows grown g = record {
  number = add_front (length grown) (length more) (length rows) (length (row ∷ [])) (length (row ∷ more)) (length (row ∷ grown)) g.number (length_appended (row ∷ []) more) (length_appended (row ∷ []) grown);
  held = λ y. add_front (holding y grown) (holding y more) (holding y rows) (holding y (row ∷ [])) (holding y (row ∷ more)) (holding y (row ∷ grown)) (g.held y) (holding_appended y (row ∷ []) more) (holding_appended y (row ∷ []) grown);
} where
  add_front : (a b c d e f : ℕ) → a ≡ b + c → e ≡ d + b → f ≡ d + a → f ≡ e + c
  add_front a b c d e f p q r = omega (arith, p, q, r)

-- those that pass one test are those that pass the other one too, and those that don't
parted : (p q r : Term → Bool) → ((t : Term) → r t ≡ (p t && q t)) → (ts : List Term) → AreGrown (rows_with (λ (t : Term). p t && not (q t)) ts) (rows_with r ts) (rows_with p ts)
parted p q r is_both [] = grown_front [] []
parted p q r is_both (t ∷ ts) = by (p t) (q t) (r t) (is_both t) (parted p q r is_both ts) where
  by : (b c d : Bool) → d ≡ (b && c) → AreGrown (rows_with (λ (u : Term). p u && not (q u)) ts) (rows_with r ts) (rows_with p ts)
      → AreGrown (map {B = List ℕ} (λ (u : Term). u.providers) (cond (b && not c) (t ∷ filter (λ (u : Term). p u && not (q u)) ts) (filter (λ (u : Term). p u && not (q u)) ts)))
      (map {B = List ℕ} (λ (u : Term). u.providers) (cond d (t ∷ filter r ts) (filter r ts)))
      (map {B = List ℕ} (λ (u : Term). u.providers) (cond b (t ∷ filter p ts) (filter p ts)))
  by true true d e more = subst (λ (f : Bool). AreGrown (rows_with (λ (u : Term). p u && not (q u)) ts) (map {B = List ℕ} (λ (u : Term). u.providers) (cond f (t ∷ filter r ts) (filter r ts))) (t.providers ∷ rows_with p ts)) (sym e)
      (grown_behind (t.providers ∷ []) (rows_with (λ (u : Term). p u && not (q u)) ts) (rows_with r ts) (rows_with p ts) more)
  by true false d e more = subst (λ (f : Bool). AreGrown (t.providers ∷ rows_with (λ (u : Term). p u && not (q u)) ts) (map {B = List ℕ} (λ (u : Term). u.providers) (cond f (t ∷ filter r ts) (filter r ts))) (t.providers ∷ rows_with p ts)) (sym e)
      (grown_more t.providers (rows_with (λ (u : Term). p u && not (q u)) ts) (rows_with r ts) (rows_with p ts) more)
  by false c d e more = subst (λ (f : Bool). AreGrown (rows_with (λ (u : Term). p u && not (q u)) ts) (map {B = List ℕ} (λ (u : Term). u.providers) (cond f (t ∷ filter r ts) (filter r ts))) (rows_with p ts)) (sym e) more

either_order : (b c : Bool) → (b && c) ≡ (c && b)
either_order true true = refl
either_order true false = refl
either_order false true = refl
either_order false false = refl

-- a list with one item
pub one_item : (ts : List Term) (t : Term) → 1 ≤ length ts → length ts < 2 → t ≡ get_or ts 0 t → ts ≡ t ∷ []
one_item [] t least most is = absurd (omega (arith, least))
one_item (u ∷ []) t least most is = ap (λ (v : Term). v ∷ []) (sym is)
one_item (u ∷ v ∷ ts) t least most is = absurd (omega (arith, most))

-- those that are counted at the one moment alone go, and those at the other one alone come; the others stay
pub turned_parted : (from to : Option ℕ) (terms : List Term) (first mid last : Option Tally) → IsTurned (rows_left from to terms) [] first mid → IsTurned [] (rows_left to from terms) mid last
    → IsTurned (rows_at from terms) (rows_at to terms) first last
turned_parted from to terms first mid last off on before after other t is =
    let was : Term → Bool = λ (u : Term). is_counted from u.until in
    let will : Term → Bool = λ (u : Term). is_counted to u.until in
    let both : Term → Bool = λ (u : Term). was u && will u in
    let stay : List (List ℕ) = rows_with both terms in
    let went : AreGrown (rows_left from to terms) stay (rows_at from terms) = parted was will both (λ u. refl) terms in
    let came : AreGrown (rows_left to from terms) stay (rows_at to terms) = parted will was both (λ u. either_order (was u) (will u)) terms in
    let rest : List (List ℕ) = stay ++ t.rest in
    on rest after other (record { rest = rest; was = grown_front [] rest; is = grown_within (rows_left to from terms) stay (rows_at to terms) t.rest after came t.is })
    (off before rest other (record { rest = rest; was = grown_within (rows_left from to terms) stay (rows_at from terms) t.rest before went t.was; is = grown_front [] rest }) is) where
      within : (a b c d e f : ℕ) → a ≡ b + c → b ≡ d + e → f ≡ e + c → a ≡ d + f
      within a b c d e f p q r = omega (arith, p, q, r)

      grown_within : (more stay all rest grown : List (List ℕ)) → AreGrown more stay all → AreGrown all rest grown → AreGrown more (stay ++ rest) grown
      grown_within more stay all rest grown one two = record {
        number = within (length grown) (length all) (length rest) (length more) (length stay) (length (stay ++ rest)) two.number one.number (length_appended stay rest);
        held = λ y. within (holding y grown) (holding y all) (holding y rest) (holding y more) (holding y stay) (holding y (stay ++ rest)) (two.held y) (one.held y) (holding_appended y stay rest);
      }

-- ---- rows gathered

-- what is still to be gathered comes to all
pub record Gathering (all left : List (List ℕ)) (number : ℕ) (numbers : List ℕ) : Type 0 where
  pub count : length all ≡ number + length left
  pub each : (y : ℕ) → holding y all ≡ times numbers y + holding y left

pub gathering_start : (rows : List (List ℕ)) (numbers : List ℕ) → numbers ≡ [] → Gathering rows rows 0 numbers
gathering_start rows numbers none = record { count = none_before (length rows); each = λ y. none_before (holding y rows) ∙ ap (λ (ns : List ℕ). times ns y + holding y rows) (sym none) } where
  none_before : (n : ℕ) → n ≡ 0 + n
  none_before n = omega arith

pub gathering_next : (all more left : List (List ℕ)) (number : ℕ) (numbers : List ℕ) (number' : ℕ) (numbers' : List ℕ) → AreGatheredToo more number numbers number' numbers'
    → Gathering all (more ++ left) number numbers → Gathering all left number' numbers'
gathering_next all more left number numbers number' numbers' too so_far = record {
  count = further (length all) number (length (more ++ left)) number' (length more) (length left) so_far.count too.count (length_appended more left);
  each = λ y. further (holding y all) (times numbers y) (holding y (more ++ left)) (times numbers' y) (holding y more) (holding y left) (so_far.each y) (too.each y) (holding_appended y more left);
} where
  further : (a b c d e f : ℕ) → a ≡ b + c → d ≡ b + e → c ≡ e + f → a ≡ d + f
  further a b c d e f p q r = omega (arith, p, q, r)

pub gathering_end : (all : List (List ℕ)) (number : ℕ) (numbers sorted : List ℕ) → IsPermutation numbers sorted → Gathering all [] number numbers → AreGathered all number sorted
gathering_end all number numbers sorted moved so_far = record {
  count = nothing_left (length all) number so_far.count;
  each = λ y. sum_by-IsPermutation (λ (n : ℕ). cond (nat_eq n y) 1 0) numbers sorted moved ∙ nothing_left (holding y all) (times numbers y) (so_far.each y);
} where
  nothing_left : (a b : ℕ) → a ≡ b + 0 → b ≡ a
  nothing_left a b e = omega (arith, e)

pub left_next : (from to : Option ℕ) (t : Term) (ts : List Term) → rows_left from to (t ∷ ts) ≡ row_if (is_counted from t.until && not (is_counted to t.until)) t.providers ++ rows_left from to ts
left_next from to t ts = by (is_counted from t.until && not (is_counted to t.until)) where
  by : (b : Bool) → map {B = List ℕ} (λ (u : Term). u.providers) (cond b (t ∷ filter (λ (u : Term). is_counted from u.until && not (is_counted to u.until)) ts) (filter (λ (u : Term). is_counted from u.until && not (is_counted to u.until)) ts))
      ≡ row_if b t.providers ++ rows_left from to ts
  by true = refl
  by false = refl

one_long : (row : List ℕ) → 1 ≡ length (row ∷ [])
one_long row = omega arith

-- one row more is gathered, if it is one of them
pub one_gathered : (b : Bool) (row : List ℕ) (numbers numbers' : List ℕ) (number number' : ℕ) → b ≡ true → IsStrictlyIncreasing row → number' ≡ number + 1 → numbers' ≡ numbers ++ row
    → AreGatheredToo (row_if b row) number numbers number' numbers'
one_gathered false row numbers numbers' number number' is rising count whole = absurd (true≢false (sym is))
one_gathered true row numbers numbers' number number' is rising count whole = record {
  count = count ∙ ap (λ (k : ℕ). number + k) (one_long row);
  each = λ y. ap (λ (ns : List ℕ). times ns y) whole ∙ sum_by-append (λ (n : ℕ). cond (nat_eq n y) 1 0) numbers row
      ∙ ap (λ (k : ℕ). times numbers y + k) (times_once row y (sorted_from_strictly_increasing row rising) ∙ sym (held_by_one (has row y) row));
}

pub not_gathered : (b : Bool) (row : List ℕ) (numbers : List ℕ) (number : ℕ) → b ≡ false → AreGatheredToo (row_if b row) number numbers number numbers
not_gathered true row numbers number is = absurd (true≢false is)
not_gathered false row numbers number is = record { count = with_nothing number; each = λ y. with_nothing (times numbers y) } where
  with_nothing : (n : ℕ) → n ≡ n + 0
  with_nothing n = omega arith

-- ---- loops

-- what is still to be turned, turned, comes to all turned
pub record Turning (gone come gone' come' : List (List ℕ)) (first now : Option Tally) : Type 0 where
  pub ordered : IsOrdered now
  pub onward : (last : Option Tally) → IsTurned gone' come' now last → IsTurned gone come first last

pub turning_start : (gone come : List (List ℕ)) (first : Option Tally) → IsOrdered first → Turning gone come gone come first first
turning_start gone come first ordered = record { ordered = ordered; onward = λ last more. more }

pub turning_next : (gone come one_gone one_come gone' come' : List (List ℕ)) (first now next : Option Tally) → IsOrdered next → IsTurned one_gone one_come now next
    → Turning gone come (one_gone ++ gone') (one_come ++ come') first now → Turning gone come gone' come' first next
turning_next gone come one_gone one_come gone' come' first now next ordered turned so_far = record {
  ordered = ordered;
  onward = λ last more. so_far.onward last (turned_both one_gone one_come gone' come' now next last turned more);
}

pub turning_end : (gone come : List (List ℕ)) (first now : Option Tally) → Turning gone come [] [] first now → IsTurned gone come first now
turning_end gone come first now so_far = so_far.onward now (turned_same [] now)

-- ---- attestations

pub rows_of_one : (moment : Option ℕ) (t : Term) → rows_at moment (t ∷ []) ≡ row_if (is_counted moment t.until) t.providers
rows_of_one moment t = by (is_counted moment t.until) where
  by : (b : Bool) → map {B = List ℕ} (λ (u : Term). u.providers) (cond b (t ∷ []) []) ≡ row_if b t.providers
  by true = refl
  by false = refl

-- without a moment nothing is counted
pub rows_never : (ts : List Term) → rows_at None ts ≡ []
rows_never [] = refl
rows_never (t ∷ ts) = rows_never ts

-- one that never ends is counted where there is a moment
pub rows_of_lasting : (moment : Option ℕ) (row : List ℕ) → rows_at moment (lasting row ∷ []) ≡ row_if (is_some moment) row
rows_of_lasting None row = refl
rows_of_lasting (Some m) row = refl

-- ---- the attestations of one source

abbrev Named : Type 0
Named = List (List ℕ × TermMap)

-- the rows that the other sources have of a customer
abbrev pub by_others : ℕ → Named → List ℕ → ℕ → List (List ℕ)
by_others moment [] name x = []
by_others moment (s ∷ ss) name x = cond (pointwise nat_eq name s.0) (attested moment ss x) (alive_of moment (finite.get s.1 x) ++ by_others moment ss name x)

put_grown : (moment : ℕ) (sources : Named) (name : List ℕ) (terms : TermMap) (x : ℕ) → AreGrown (alive_among moment (list_of terms x)) (by_others moment sources name x) (attested moment (with_source sources name terms) x)
put_grown moment [] name terms x = grown_front (alive_among moment (list_of terms x)) []
put_grown moment (s ∷ ss) name terms x = by (pointwise nat_eq name s.0) (put_grown moment ss name terms x) where
  by : (b : Bool) → AreGrown (alive_among moment (list_of terms x)) (by_others moment ss name x) (attested moment (with_source ss name terms) x)
      → AreGrown (alive_among moment (list_of terms x)) (cond b (attested moment ss x) (alive_of moment (finite.get s.1 x) ++ by_others moment ss name x)) (attested moment (cond b ((s.0, terms) ∷ ss) (s ∷ with_source ss name terms)) x)
  by true more = grown_front (alive_among moment (list_of terms x)) (attested moment ss x)
  by false more = grown_behind (alive_of moment (finite.get s.1 x)) (alive_among moment (list_of terms x)) (by_others moment ss name x) (attested moment (with_source ss name terms) x) more

held_grown : (moment : ℕ) (sources : Named) (name : List ℕ) (x : ℕ) → AreGrown (alive_among moment (list_of (terms_in sources name) x)) (by_others moment sources name x) (attested moment sources x)
held_grown moment [] name x = subst (λ (ts : List Term). AreGrown (alive_among moment ts) [] []) (sym (none_of_empty x)) (grown_front [] [])
held_grown moment (s ∷ ss) name x = by (pointwise nat_eq name s.0) (held_grown moment ss name x) where
  by : (b : Bool) → AreGrown (alive_among moment (list_of (terms_in ss name) x)) (by_others moment ss name x) (attested moment ss x)
      → AreGrown (alive_among moment (list_of (cond b s.1 (terms_in ss name)) x)) (cond b (attested moment ss x) (alive_of moment (finite.get s.1 x) ++ by_others moment ss name x)) (alive_of moment (finite.get s.1 x) ++ attested moment ss x)
  by true more = grown_front (alive_of moment (finite.get s.1 x)) (attested moment ss x)
  by false more = grown_behind (alive_of moment (finite.get s.1 x)) (alive_among moment (list_of (terms_in ss name) x)) (by_others moment ss name x) (attested moment ss x) more

pub source_put : (moment : ℕ) (sources : Named) (name : List ℕ) (x : ℕ) (held given : List Term) (asserted : List (List ℕ)) (before between after : Option Tally) → held ≡ list_of (terms_in sources name) x
    → IsTurned (rows_at (Some moment) held) (rows_at None held) before between → IsTurned (rows_at None given) (rows_at (Some moment) given) between after → IsTallyOfRows (attested moment sources x) asserted before
    → (terms : TermMap) → list_of terms x ≡ given → IsTallyOfRows (attested moment (with_source sources name terms) x) asserted after
source_put moment sources name x held given asserted before between after is_held off on is terms is_given =
    let others : List (List ℕ) = by_others moment sources name x in
    let went : IsTurned (alive_among moment held) [] before between = subst (λ (come : List (List ℕ)). IsTurned (alive_among moment held) come before between) (rows_never held) off in
    let came : IsTurned [] (alive_among moment given) between after = subst (λ (gone : List (List ℕ)). IsTurned gone (alive_among moment given) between after) (rows_never given) on in
    came others (attested moment (with_source sources name terms) x) asserted
    (record {
      rest = others;
      was = grown_front [] others;
      is = subst (λ (ts : List Term). AreGrown (alive_among moment ts) others (attested moment (with_source sources name terms) x)) is_given (put_grown moment sources name terms x);
    })
    (went (attested moment sources x) others asserted
    (record {
      rest = others;
      was = subst (λ (ts : List Term). AreGrown (alive_among moment ts) others (attested moment sources x)) (sym is_held) (held_grown moment sources name x);
      is = grown_front [] others;
    })
    is)

-- ---- another moment

pub moved_on : (from to : ℕ) (sources : Named) (x : ℕ) (asserted : List (List ℕ)) (before after : Option Tally) → IsTurned (attested from sources x) (attested to sources x) before after
    → IsTallyOfRows (attested from sources x) asserted before → IsTallyOfRows (attested to sources x) asserted after
moved_on from to sources x asserted before after turned is = turned (attested from sources x) (attested to sources x) asserted (record { rest = []; was = grown_all (attested from sources x); is = grown_all (attested to sources x) }) is where
  with_none : (n : ℕ) → n ≡ n + 0
  with_none n = omega arith

  grown_all : (rows : List (List ℕ)) → AreGrown rows [] rows
  grown_all rows = record { number = with_none (length rows); held = λ y. with_none (holding y rows) }
