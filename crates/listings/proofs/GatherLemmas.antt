-- The rows of the ASes beside an AS, gathered case by case.
use Rattle.std.proofs.Common.{◌≡◌, ℕ, nat_eq, ◌+◌, ◌<◌, ◌≤◌, Bool, true, false, cond, ◌||◌, drop, length, List, [], ◌∷◌, map, Some, None, refl, sym, ap, subst, ◌∙◌, arith}
use Rattle.std.specs.Prelude.{Contains, is_some, slice_index, ⊤}
use Rattle.std.specs.Cmp.{eq_by_cmp_equiv, nat_cmp_total, nat_eq_equiv, unsigned_tied}
use Rattle.std.specs.List.{list_any, sum_by}
use Rattle.std.specs.List.Sorted.{IsStrictlySortedBy}
use Rattle.std.specs.Map.{keys_of}
use Rattle.std.specs.Ordering.{is_eq, nat_cmp}
use Rattle.std.specs.declared.cmp.Ordering.TheVariants.{Less}
use Rattle.std.specs.declared.option.Option.{Option}
use Rattle.std.proofs.Math.Bool.{or-false, or-true}
use Rattle.std.proofs.lemmas.Bool.{le-ltb}
use Rattle.std.proofs.lemmas.Cmp.{ranked}
use Rattle.std.proofs.lemmas.List.{drop_all, drop_more}
use Rattle.std.proofs.lemmas.List.Sums.{sum_by-cons}
use Rattle.std.proofs.lemmas.Map.Keys.{IsDistinct-from_sorted, sorted_head, sorted_tail}
use Rattle.std.proofs.lemmas.Map.Views.{Contains-from_any, exact_unsigned_eq, lookup-from_Contains}
use Rattle.attestations.specs.ComputedTable.{table_of}
use Rattle.attestations.proofs.PartsLemmas.{table_is_current}
use Rattle.path_model.specs.Authority.{has}
use Rattle.path_model.specs.Trail.{Path}
use Rattle.hop_index.specs.Hops.{has_hop}
use Rattle.hop_index.specs.Index.{Entries, has as index_has}
use Rattle.hop_index.specs.Numbers.{has_number}
use Rattle.hop_index.proofs.HopLemmas.{hops_are_told}
use Rattle.rib_store.specs.Sharing.{AreCasesOf, CountTheirRoutes}
use Rattle.rib_store.specs.Stored.{Stored}
use Rattle.shared_cases.specs.declared.case.StoredCase.{StoredCase}
use Rattle.shared_cases.specs.Cases.{Slots, at, hops_of, IsIndexOf, IsStoredAs}
use Rattle.listings.specs.declared.went.Count.{Count}
use Rattle.listings.specs.declared.went.Went.{Went}
use Rattle.listings.specs.EachNeighbour.{counted, counted_by, row_of, users_by, went_at, went_or, with_case, with_ways}
use Rattle.listings.specs.Neighbours.{AreBeside, AreNeighboursOf, goes, neighbour_of, routes_over}
use Rattle.listings.proofs.BesideLemmas.{goes_either, gone_from, gone_to}
use Rattle.listings.proofs.OverLemmas.{over_counted, went_so}
use Rattle.listings.proofs.TallyCountLemmas.{any_member, in_head, in_tail, member_any}
use Rattle.listings.proofs.WentLemmas.{anew}

-- ---- one case more

-- those from this number on are the first that aren't counted
abbrev AreNew : ℕ → List ℕ → Type 0
AreNew next [] = ⊤
AreNew next (n ∷ ns) = next ≤ n

new_at_first : (ns : List ℕ) → AreNew 0 ns
new_at_first [] = tt
new_at_first (n ∷ ns) = omega arith

new_behind : (n next : ℕ) (ns : List ℕ) → IsStrictlySortedBy nat_cmp (n ∷ ns) → next ≤ n + 1 → AreNew next ns
new_behind n next [] rising most = tt
new_behind n next (m ∷ ms) rising most =
    let above : n < m = ranked n m Less (sym (sorted_head nat_cmp n (m ∷ ms) rising).0) in
    omega (arith, above, most)

counted_routes : (b : Bool) (n u : ℕ) (count : Count) → count.next ≤ n → (cond b (with_case n u count) count).routes ≡ count.routes + cond b u 0
counted_routes true n u count new = ap (λ (c : Count). c.routes) (anew n u count (le-ltb n count.next new))
counted_routes false n u count new = omega arith

counted_next : (b : Bool) (n u : ℕ) (count : Count) → count.next ≤ n → (cond b (with_case n u count) count).next ≤ n + 1
counted_next true n u count new = omega (arith, ap (λ (c : Count). c.next) (anew n u count (le-ltb n count.next new)))
counted_next false n u count new = omega (arith, new)

ways_of : (t f : Bool) (n u : ℕ) (went : Option Went) → went_or (counted t f n u went) ≡ with_ways t f n u (went_or went)
ways_of true f n u went = refl
ways_of false true n u went = refl
ways_of false false n u went = refl

some_of : (t f : Bool) (n u : ℕ) (went : Option Went) → is_some (counted t f n u went) ≡ (is_some went || (t || f))
some_of true f n u went = sym (or-true (is_some went))
some_of false true n u went = sym (or-true (is_some went))
some_of false false n u went = sym (or-false (is_some went))

or_moved : (a b c : Bool) → ((a || b) || c) ≡ (a || (b || c))
or_moved true b c = refl
or_moved false b c = refl

module _ (cases : Slots) (asn y : ℕ) where
  abbrev users_to : ℕ → ℕ
  users_to n = users_by (λ chain. goes chain asn y) (at cases n)

  abbrev users_from : ℕ → ℕ
  users_from n = users_by (λ chain. goes chain y asn) (at cases n)

  abbrev is_beside : ℕ → Bool
  is_beside n = hops_of (at cases n) asn y

  -- What is counted at y comes to all cases, with what those that are left add; none of these is counted.
  pub record Counting (all rest : List ℕ) (went : Option Went) : Type 0 where
    pub rising : IsStrictlySortedBy nat_cmp rest
    pub to : (went_or went).to.routes + sum_by users_to rest ≡ sum_by users_to all
    pub from : (went_or went).from.routes + sum_by users_from rest ≡ sum_by users_from all
    pub there : (is_some went || list_any is_beside rest) ≡ list_any is_beside all
    pub to_new : AreNew (went_or went).to.next rest
    pub from_new : AreNew (went_or went).from.next rest

  counting_none : (all : List ℕ) → IsStrictlySortedBy nat_cmp all → Counting all all None
  counting_none all rising = record {
    rising = rising;
    to = omega arith;
    from = omega arith;
    there = refl;
    to_new = new_at_first all;
    from_new = new_at_first all;
  }

  pub counting_start : (all : List ℕ) (found : List (ℕ × Went)) → IsStrictlySortedBy nat_cmp all → found ≡ [] → Counting all all (went_at found y)
  counting_start all found rising none = subst (λ (rows : List (ℕ × Went)). Counting all all (went_at rows y)) (sym none) (counting_none all rising)

  module _ (all rest : List ℕ) (n : ℕ) (was : Option Went) (counting : Counting all (n ∷ rest) was) where
    rising : IsStrictlySortedBy nat_cmp (n ∷ rest)
    rising = counting.rising

    abbrev here : Went
    here = went_or was

    counted_case : (c : Option StoredCase) → at cases n ≡ c → Counting all rest (counted_by asn y n c was)
    counted_case None is = record {
      rising = sorted_tail nat_cmp n rest rising;
      to = omega (arith, counting.to, sum_by-cons users_to n rest, ap (users_by (λ chain. goes chain asn y)) is);
      from = omega (arith, counting.from, sum_by-cons users_from n rest, ap (users_by (λ chain. goes chain y asn)) is);
      there = ap (λ (c : Option StoredCase). is_some was || (hops_of c asn y || list_any is_beside rest)) (sym is) ∙ counting.there;
      to_new = new_behind n here.to.next rest rising (omega (arith, counting.to_new));
      from_new = new_behind n here.from.next rest rising (omega (arith, counting.from_new));
    }
    counted_case (Some c) is =
        let t : Bool = goes c.trail.chain asn y in
        let f : Bool = goes c.trail.chain y asn in
        let now : Option Went = counted (goes c.trail.chain asn y) (goes c.trail.chain y asn) n c.users was in
        let ways : went_or (counted (goes c.trail.chain asn y) (goes c.trail.chain y asn) n c.users was)
        ≡ with_ways (goes c.trail.chain asn y) (goes c.trail.chain y asn) n c.users (went_or was) = ways_of t f n c.users was in
        record {
          rising = sorted_tail nat_cmp n rest rising;
          to = omega (
            arith,
            counting.to,
            sum_by-cons users_to n rest,
            ap (users_by (λ chain. goes chain asn y)) is,
            ap (λ (w : Went). w.to.routes) ways,
            counted_routes t n c.users here.to counting.to_new,
          );
          from = omega (
            arith,
            counting.from,
            sum_by-cons users_from n rest,
            ap (users_by (λ chain. goes chain y asn)) is,
            ap (λ (w : Went). w.from.routes) ways,
            counted_routes f n c.users here.from counting.from_new,
          );
          there = ap (λ (b : Bool). b || list_any is_beside rest) (some_of t f n c.users was)
              ∙ or_moved (is_some was) (t || f) (list_any is_beside rest)
              ∙ ap (λ (b : Bool). is_some was || (b || list_any is_beside rest)) (sym (goes_either c.trail.chain asn y) ∙ ap (λ (o : Option StoredCase). hops_of o asn y) (sym is))
              ∙ counting.there;
          to_new = subst (λ (w : Went). AreNew w.to.next rest) (sym ways) (new_behind n (cond t (with_case n c.users here.to) here.to).next rest rising (counted_next t n c.users here.to counting.to_new));
          from_new = subst (λ (w : Went). AreNew w.from.next rest) (sym ways) (new_behind n (cond f (with_case n c.users here.from) here.from).next rest rising (counted_next f n c.users here.from counting.from_new));
        }

    counting_next : (now : Option Went) → now ≡ counted_by asn y n (at cases n) was → Counting all rest now
    counting_next now is = subst (λ (w : Option Went). Counting all rest w) (sym is) (counted_case (at cases n) refl)

  -- the case of the number at this index was counted,
  pub counting_more : (numbers : List ℕ) (i : ℕ) (was now : Option Went) → i < length numbers
      → now ≡ counted_by asn y (slice_index numbers i) (at cases (slice_index numbers i)) was → Counting numbers (drop i numbers) was → Counting numbers (drop (i + 1) numbers) now
  counting_more numbers i was now within is counting = counting_next numbers (drop (i + 1) numbers) (slice_index numbers i) was
      (subst (λ (rest : List ℕ). Counting numbers rest was) (drop_more numbers i 0 within) counting) now is

  -- and then there are no more
  pub counting_over : (numbers : List ℕ) (i : ℕ) (went : Option Went) → length numbers ≤ i → Counting numbers (drop i numbers) went → Counting numbers [] went
  counting_over numbers i went over counting = subst (λ (rest : List ℕ). Counting numbers rest went) (drop_all i numbers over) counting

-- ---- the cases

-- one of these ASes is the other end of a hop of the case
pub asked_whole : (index : Entries) (asn : ℕ) (ys : List ℕ) (y n : ℕ) → has_number ys y ≡ true → index_has index asn y n ≡ true
    → list_any (λ z. index_has index asn z n) ys ≡ true
asked_whole index asn ys y n there hop = member_any (λ z. index_has index asn z n) ys y (Contains-from_any exact_unsigned_eq y ys there) hop

-- ---- the rows

-- the ASes at which something is counted
there_by : (found : List (ℕ × Went)) (y : ℕ) → has (keys_of found) y ≡ is_some (went_at found y)
there_by [] y = refl
there_by (row ∷ rows) y = by (is_eq (nat_cmp y row.0)) (unsigned_tied y row.0 ∙ nat_eq_equiv.symm y row.0) (there_by rows y) where
  by : (b : Bool) → b ≡ nat_eq row.0 y → has (keys_of rows) y ≡ is_some (went_at rows y)
      → (nat_eq row.0 y || has (keys_of rows) y) ≡ is_some (cond b (Some row.1) (went_at rows y))
  by true same more = ap (λ (b : Bool). b || has (keys_of rows) y) (sym same)
  by false other more = ap (λ (b : Bool). b || has (keys_of rows) y) (sym other) ∙ more

module _ (stored : Stored) (asn : ℕ) (are : AreCasesOf stored.state stored.cases) (routed : CountTheirRoutes stored.state.routes stored.cases)
    (index : Entries) (is_index : IsIndexOf stored.cases index) (numbers : List ℕ) (rising : IsStrictlySortedBy nat_cmp numbers)
    (whole : (y n : ℕ) → index_has index asn y n ≡ true → has_number numbers n ≡ true) where
  -- a case that went so between the AS and y is among the numbers
  listed : (way : List ℕ → Bool) (y : ℕ) → ((chain : List ℕ) → way chain ≡ true → has_hop chain asn y ≡ true) → (n : ℕ)
      → went_so way (at stored.cases n) ≡ true → has_number numbers n ≡ true
  listed way y joins n went = whole y n (is_index asn y n ∙ by (at stored.cases n) went) where
    by : (c : Option StoredCase) → went_so way c ≡ true → hops_of c asn y ≡ true
    by None h = let no : ⊥ = cc in absurd no
    by (Some c) h = joins c.trail.chain h

  sum_to : (y : ℕ) → sum_by (users_to stored.cases asn y) numbers ≡ routes_over stored.state.routes asn y
  sum_to y = over_counted stored.state stored.cases are routed (λ chain. goes chain asn y) numbers rising
      (listed (λ chain. goes chain asn y) y (λ chain. gone_to chain asn y))

  sum_from : (y : ℕ) → sum_by (users_from stored.cases asn y) numbers ≡ routes_over stored.state.routes y asn
  sum_from y = over_counted stored.state stored.cases are routed (λ chain. goes chain y asn) numbers rising
      (listed (λ chain. goes chain y asn) y (λ chain. gone_from chain asn y))

  hop_of_route : (c : Option StoredCase) (y : ℕ) → hops_of c asn y ≡ true → (path : Path) × (a : ℕ) × IsStoredAs c a path × (has_hop path.chain asn y ≡ true)
  hop_of_route None y h = let no : ⊥ = cc in absurd no
  hop_of_route (Some c) y h = (c.trail, c.asn, (refl, refl), h)

  hop_of_case : (c : Option StoredCase) (path : Path) (a y : ℕ) → IsStoredAs c a path → has_hop path.chain asn y ≡ true → hops_of c asn y ≡ true
  hop_of_case None path a y here h = absurd here
  hop_of_case (Some c) path a y here h = ap (λ (p : Path). has_hop p.chain asn y) here.1 ∙ h

  -- an AS beside it in some case is beside it on some route's path,
  beside_in_case : (y : ℕ) → list_any (is_beside stored.cases asn y) numbers ≡ true → AreBeside stored.state.routes asn y
  beside_in_case y there =
      let found : (n : ℕ) × Contains numbers n × (hops_of (at stored.cases n) asn y ≡ true) = any_member (is_beside stored.cases asn y) numbers there in
      let case = hop_of_route (at stored.cases found.0) y found.2 in
      let route = are.of_a_route found.0 case.1 case.0 case.2 in
      record { key = route.0; path = case.0; route = route.2; neighbours = (hops_are_told case.0.chain asn y).0 case.3 }

  -- and the other way round
  beside_on_path : (y : ℕ) → AreBeside stored.state.routes asn y → list_any (is_beside stored.cases asn y) numbers ≡ true
  beside_on_path y is =
      let number = are.of_each_route is.key is.path is.route in
      let hop : hops_of (at stored.cases number.0) asn y ≡ true =
      hop_of_case (at stored.cases number.0) is.path is.key.peer.asn y number.1 ((hops_are_told is.path.chain asn y).1 is.neighbours) in
      let there : Contains numbers number.0 = Contains-from_any exact_unsigned_eq number.0 numbers (whole y number.0 (is_index asn y number.0 ∙ hop)) in
      member_any (is_beside stored.cases asn y) numbers number.0 there hop

  module _ (found : List (ℕ × Went)) (sorted : IsStrictlySortedBy nat_cmp (keys_of found)) (counting : (y : ℕ) → Counting stored.cases asn y numbers [] (went_at found y)) where
    there : (y : ℕ) → has (keys_of found) y ≡ list_any (is_beside stored.cases asn y) numbers
    there y = there_by found y ∙ sym (or-false (is_some (went_at found y))) ∙ (counting y).there

    same_row : (row : ℕ × Went) → Contains found row → row_of (table_of stored.state.parts) asn row ≡ neighbour_of (table_of stored.state.parts) stored.state.routes asn row.0
    same_row row here =
        let at_row : went_at found row.0 ≡ Some row.1 =
        lookup-from_Contains (eq_by_cmp_equiv nat_cmp_total) row.0 row.1 found (IsDistinct-from_sorted nat_cmp (keys_of found) sorted) here in
        let whole_row : Counting stored.cases asn row.0 numbers [] (Some row.1) =
        subst (λ (went : Option Went). Counting stored.cases asn row.0 numbers [] went) at_row (counting row.0) in
        let to : row.1.to.routes ≡ routes_over stored.state.routes asn row.0 = omega (arith, whole_row.to, sum_to row.0) in
        let from : row.1.from.routes ≡ routes_over stored.state.routes row.0 asn = omega (arith, whole_row.from, sum_from row.0) in
        λ i. record (neighbour_of (table_of stored.state.parts) stored.state.routes asn row.0) { to = to i; from = from i }

    same_rows : (rows : List (ℕ × Went)) → ((row : ℕ × Went) → Contains rows row → Contains found row)
        → map (row_of (table_of stored.state.parts) asn) rows ≡ map (neighbour_of (table_of stored.state.parts) stored.state.routes asn) (keys_of rows)
    same_rows [] within = refl
    same_rows (row ∷ rows) within =
        let first = same_row row (within row (in_head row rows)) in
        let rest = same_rows rows (λ other here. within other (in_tail row rows other here)) in
        λ i. first i ∷ rest i

    pub are_neighbours : AreNeighboursOf stored.state asn (map (row_of (table_of stored.state.parts) asn) found)
    are_neighbours = record {
      table = table_of stored.state.parts;
      current = table_is_current stored.state.parts;
      ases = keys_of found;
      rising = sorted;
      exact = λ y. (λ h. beside_in_case y (sym (there y) ∙ h), λ is. there y ∙ beside_on_path y is);
      rows_are = same_rows found (λ row here. here);
    }
