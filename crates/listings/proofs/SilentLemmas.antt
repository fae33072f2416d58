-- The silent ASes of a state: what was gathered of all pairs, that each state has one list of them, and that none reads as a refusal.
use Rattle.std.proofs.Common.{◌≡◌, ℕ, Bool, true, List, [], ◌∷◌, ◌++◌, map, flat_map, Ok, Err, refl, ap, sym, subst, ◌∙◌}
use Rattle.std.specs.Prelude.{Contains}
use Rattle.std.specs.List.Sorted.{IsStrictlySortedBy}
use Rattle.std.specs.Map.{keys_of}
use Rattle.std.specs.Cmp.{nat_cmp_total}
use Rattle.std.specs.Ordering.{nat_cmp}
use Rattle.std.proofs.lemmas.Map.Keys.{sorted_from_strictly_increasing}
use Rattle.std.proofs.lemmas.Map.Lookups.{exact_unsigned}
use Rattle.std.specs.List.{All, concat}
use Rattle.std.specs.declared.result.Result.{Result}
use Rattle.std.proofs.lemmas.List.Elements.{All-map}
use Rattle.av_base.specs.One.{HasOne}
use Rattle.av_base.specs.declared.stop.Stop.{Stop}
use Rattle.av_base.specs.declared.stop.Stop.TheVariants.{NoMemory}
use Rattle.report_text.specs.Laws.{IsAnswerLine}
use Rattle.report_text.specs.Reported.{lines_text}
use Rattle.report_text.specs.Silent.{silent_line}
use Rattle.report_text.proofs.AnswerLemmas.{silent_is_one_line}
use Rattle.listings.specs.Listing.{Listed, Lists, Pouring}
use Rattle.path_model.specs.declared.role.Direction.{Direction}
use Rattle.path_model.specs.declared.verdict.Verdict.TheVariants.{Unknown}
use Rattle.path_model.specs.Authority.{Table}
use Rattle.path_model.specs.Sets.{IsSetOf}
use Rattle.path_model.specs.Labelling.{direction_of}
use Rattle.path_model.specs.Trail.{Path}
use Rattle.attestations.specs.ComputedTable.{table_of}
use Rattle.attestations.proofs.PartsLemmas.{table_is_current}
use Rattle.rib_store.specs.Pairs.{Paired}
use Rattle.rib_store.specs.State.{State}
use Rattle.listings.specs.declared.tally.Tally.{Tally}
use Rattle.listings.specs.SilentSteps.{IsNotedFor, asked_of, without_row}
use Rattle.listings.specs.Silent.{AreSilent, IsAskedBy, silent_of, silent_row}
use Rattle.listings.specs.Tallies.{AreTallied}
use Rattle.listings.specs.TallySteps.{AddsTo, HasRoomFor, IsAmong}
use Rattle.listings.proofs.ListingLemmas as listing
use Rattle.listings.proofs.SilentListLemmas.{silent_exact}
use Rattle.listings.proofs.SilentNotedLemmas.{asked_noted, decided_noted, noted_asked, silent_of_pair}
use Rattle.listings.proofs.TallyExistLemmas.{some_tallied}
use Rattle.listings.proofs.TallyAddLemmas.{adds_as, adds_none, room_as}
use Rattle.listings.proofs.TallyGatherLemmas.{Gathered, gathered_next, gathered_room}
use Rattle.listings.proofs.TallyHitLemmas.{same_table}
use Rattle.listings.proofs.TallyLemmas.{Tells, gathered_tallied}
use Rattle.listings.proofs.TallyTestLemmas.{among_in, holds, holds_so, in_among, so_holds}
use Rattle.listings.proofs.TallyUniqueLemmas.{tallied_unique}

-- whether a pair is noted for an AS
abbrev pub test : Table → ℕ → Paired → Bool
test table asn p = holds (decided_noted table p asn)

abbrev pub HasHere : State → ℕ → ℕ → Path → Type 0
HasHere state = IsAskedBy (table_of state.parts) state.roles

tells : (state : State) (asn : ℕ) → Tells state (HasHere state) asn (test (table_of state.parts) asn)
tells state asn p paired = (
  λ passes. noted_asked state p paired asn (holds_so (decided_noted (table_of state.parts) p asn) passes),
  λ asked. so_holds (decided_noted (table_of state.parts) p asn) (asked_noted state p paired asn asked),
)

-- ---- what the silent ASes of an unknown path add

-- the set that was made of those of its chain
pub set_of_pair : (table : Table) (p : Paired) (list asked chain set slice : List ℕ) (direction : Direction) → list ≡ without_row table asked
    → asked ≡ asked_of direction chain → direction ≡ direction_of p.standing.role → chain ≡ p.standing.path.chain → slice ≡ set → IsSetOf list set
    → IsSetOf (silent_of_pair table p) slice
set_of_pair table p list asked chain set slice direction rows ends role path same is_set =
    let ends_are : asked_of direction chain ≡ asked_of (direction_of p.standing.role) p.standing.path.chain = λ i. asked_of (role i) (path i) in
    let list_is : list ≡ silent_of_pair table p = rows ∙ ap (without_row table) (ends ∙ ends_are) in
    subst (λ (l : List ℕ). IsSetOf l slice) list_is (subst (λ (l : List ℕ). IsSetOf list l) (sym same) is_set)

module _ (table : Table) (p : Paired) (set : List ℕ) (routes : ℕ) (unknown : p.standing.verdict ≡ Unknown) (is_set : IsSetOf (silent_of_pair table p) set) where
  noted_of : (asn : ℕ) → IsAmong nat_cmp set asn → IsNotedFor table p asn
  noted_of asn among =
      let there = is_set.within asn (among_in nat_cmp_total exact_unsigned set asn among) in
      let both = (silent_exact table (direction_of p.standing.role) p.standing.path.chain asn).0 there in
      record { unknown = unknown; no_row = both.0; asked = both.1 }

  among_of : (asn : ℕ) → IsNotedFor table p asn → IsAmong nat_cmp set asn
  among_of asn noted = in_among nat_cmp_total exact_unsigned set asn
      (is_set.all asn ((silent_exact table (direction_of p.standing.role) p.standing.path.chain asn).1 (noted.no_row, noted.asked)))

  pub set_sorted : IsStrictlySortedBy nat_cmp set
  set_sorted = sorted_from_strictly_increasing set is_set.ascending

  pub silent_room : (rows : List (ℕ × Tally)) → HasRoomFor nat_cmp (IsNotedFor table p) routes rows → HasRoomFor nat_cmp (IsAmong nat_cmp set) routes rows
  silent_room rows room = room_as nat_cmp (IsNotedFor table p) (IsAmong nat_cmp set) routes rows room noted_of

  pub silent_add : (old new : List (ℕ × Tally)) → AddsTo nat_cmp (IsAmong nat_cmp set) routes old new → AddsTo nat_cmp (IsNotedFor table p) routes old new
  silent_add old new adds = adds_as nat_cmp (IsAmong nat_cmp set) (IsNotedFor table p) routes old new adds among_of noted_of

-- and of another one nothing is added
pub none_unknown : (table : Table) (p : Paired) (routes : ℕ) (rows : List (ℕ × Tally)) → (p.standing.verdict ≡ Unknown → ⊥)
    → AddsTo nat_cmp (IsNotedFor table p) routes rows rows
none_unknown table p routes rows other = adds_none nat_cmp (IsNotedFor table p) routes rows (λ asn noted. other noted.unknown)

-- ---- pair by pair

-- there is room for what the next pair adds, and so many are gathered with it
module _ (state : State) (p : Paired) (rest : List Paired) (now : List (ℕ × Tally))
    (gathered : Gathered nat_cmp (test (table_of state.parts)) state (p ∷ rest) now) where
  abbrev here : Table
  here = table_of state.parts

  abbrev Passes : ℕ → Type 0
  Passes asn = test here asn p ≡ true

  pub noted_room : HasRoomFor nat_cmp (IsNotedFor here p) p.routes now
  noted_room = room_as nat_cmp Passes (IsNotedFor here p) p.routes now (gathered_room state p rest now gathered) (λ asn noted. so_holds (decided_noted here p asn) noted)

  pub noted_next : (next : List (ℕ × Tally)) → AddsTo nat_cmp (IsNotedFor here p) p.routes now next → Gathered nat_cmp (test here) state rest next
  noted_next next adds = gathered_next state p rest now gathered next
      (adds_as nat_cmp (IsNotedFor here p) Passes p.routes now next adds (λ asn passes. holds_so (decided_noted here p asn) passes) (λ asn noted. so_holds (decided_noted here p asn) noted))

silent_by : (state : State) (rows : List (ℕ × Tally)) → AreTallied nat_cmp (HasHere state) state rows → AreSilent state rows
silent_by state rows are = record { table = table_of state.parts; current = table_is_current state.parts; tallied = are }

-- what was gathered of all pairs
pub are_silent : (state : State) (now : List (ℕ × Tally)) → Gathered nat_cmp (test (table_of state.parts)) state [] now
    → IsStrictlySortedBy nat_cmp (keys_of now) → AreSilent state now
are_silent state now gathered sorted = silent_by state now
    (gathered_tallied nat_cmp_total exact_unsigned (HasHere state) (test (table_of state.parts)) state (tells state) now gathered sorted)

named : (table : Table) (p : Paired) (asn : ℕ) → test table asn p ≡ true → Contains (silent_of_pair table p) asn
named table p asn passes =
    let noted = holds_so (decided_noted table p asn) passes in
    (silent_exact table (direction_of p.standing.role) p.standing.path.chain asn).1 (noted.no_row, noted.asked)

pub some_silent : (state : State) → (rows : List (ℕ × Tally)) × AreSilent state rows
some_silent state =
    let here = table_of state.parts in
    let some = some_tallied nat_cmp_total exact_unsigned (HasHere state) (test here) state (tells state) (silent_of_pair here) (named here) in
    (some.0, silent_by state some.0 some.1)

here_tallied : (state : State) (rows : List (ℕ × Tally)) → AreSilent state rows → AreTallied nat_cmp (HasHere state) state rows
here_tallied state rows are =
    subst (λ (t : Table). AreTallied nat_cmp (IsAskedBy t state.roles) state rows) (same_table state.parts are.table are.current) are.tallied

-- each state has one list of them
pub one_list_of_silent_ases : (state : State) → HasOne (AreSilent state)
one_list_of_silent_ases state =
    let some = some_silent state in
    record {
      one = some.0;
      is = some.1;
      only = λ other are. tallied_unique nat_cmp_total (HasHere state) state other some.0 (here_tallied state other are) (here_tallied state some.0 some.1);
    }

-- ---- line by line

pub silent_listed : {T : Type 0} (state : State) (rows : List (ℕ × Tally)) (old new : Pouring) (result : Result T Stop) → AreSilent state rows
    → Listed (concat (map silent_row rows)) old new result → Lists (AreSilent state) silent_row old new result
silent_listed state = listing.all_listed (AreSilent state) silent_row

-- memory ran out before the first line
pub none_listed : {T : Type 0} (state : State) (old : Pouring) (result : Result T Stop) → result ≡ Err NoMemory → Lists (AreSilent state) silent_row old old result
none_listed state old result = let some = some_silent state in listing.none_listed (AreSilent state) silent_row some.0 old result some.1

-- ---- lines

abbrev pub silent_line_of : ℕ × Tally → List ℕ
silent_line_of row = silent_line (silent_of row)

pub silent_are_lines : (rows : List (ℕ × Tally)) → flat_map silent_row rows ≡ lines_text (map silent_line_of rows)
silent_are_lines [] = refl
silent_are_lines (row ∷ rows) = ap (λ (t : List ℕ). silent_row row ++ t) (silent_are_lines rows)

pub silent_answer : (rows : List (ℕ × Tally)) → All IsAnswerLine (map silent_line_of rows)
silent_answer rows = All-map IsAnswerLine silent_line_of rows (λ k row within. silent_is_one_line _)
