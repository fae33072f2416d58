-- The suspects of a state: what was gathered of all pairs, and that each state has one list of them.
use Rattle.std.proofs.Common.{◌≡◌, ◌↔◌, ℕ, Bool, true, List, [], ◌∷◌, sym, subst}
use Rattle.std.specs.Prelude.{Contains}
use Rattle.std.specs.List.Sorted.{IsStrictlySortedBy}
use Rattle.std.specs.Map.{keys_of}
use Rattle.av_base.specs.One.{HasOne}
use Rattle.std.specs.declared.option.Option.{Option}
use Rattle.path_model.specs.declared.witness.Witness.{Witness}
use Rattle.path_model.specs.declared.witness.Witness.TheVariants.{Blocked}
use Rattle.path_model.specs.Authority.{Table}
use Rattle.path_model.specs.Labelling.{direction_of}
use Rattle.path_model.specs.Trail.{Path}
use Rattle.attestations.specs.ComputedTable.{table_of}
use Rattle.attestations.proofs.PartsLemmas.{table_is_current}
use Rattle.rib_store.specs.Pairs.{Paired}
use Rattle.rib_store.specs.State.{State}
use Rattle.valleys.specs.declared.valley.Valley.{Valley}
use Rattle.valleys.specs.Order.{valley_cmp, valley_total}
use Rattle.valleys.specs.Valleys.{HasValley}
use Rattle.valleys.proofs.OrderLemmas.{valley_exact}
use Rattle.listings.specs.declared.tally.Tally.{Tally}
use Rattle.listings.specs.SuspectSteps.{IsBlocked, IsNoted}
use Rattle.listings.specs.Suspects.{AreSuspects, IsBlockedWith}
use Rattle.listings.specs.Tallies.{AreTallied}
use Rattle.listings.specs.TallySteps.{AddsTo, HasRoomFor, IsAmong}
use Rattle.listings.proofs.SuspectNotedLemmas.{blocked_noted, noted_blocked}
use Rattle.listings.proofs.SuspectTestLemmas.{decided_noted, valleys_listed}
use Rattle.listings.proofs.TallyExistLemmas.{some_tallied}
use Rattle.listings.proofs.TallyAddLemmas.{adds_as, adds_none, room_as}
use Rattle.listings.proofs.TallyGatherLemmas.{Gathered, gathered_next, gathered_room}
use Rattle.listings.proofs.TallyHitLemmas.{same_table}
use Rattle.listings.proofs.TallyLemmas.{Tells, gathered_tallied}
use Rattle.listings.proofs.TallyTestLemmas.{among_in, holds, holds_so, in_among, so_holds}
use Rattle.listings.proofs.TallyUniqueLemmas.{tallied_unique}

-- whether a pair is noted for a valley
abbrev pub test : Table → Valley → Paired → Bool
test table v p = holds (decided_noted table p v)

abbrev pub HasHere : State → Valley → ℕ → Path → Type 0
HasHere state = IsBlockedWith (table_of state.parts) state.roles

tells : (state : State) (v : Valley) → Tells state (HasHere state) v (test (table_of state.parts) v)
tells state v p paired = (
  λ passes. noted_blocked state p paired v (holds_so (decided_noted (table_of state.parts) p v) passes),
  λ blocked. so_holds (decided_noted (table_of state.parts) p v) (blocked_noted state p paired v blocked),
)

-- ---- what the valleys of a blocked path add

module _ (table : Table) (p : Paired) (vs : List Valley) (routes : ℕ) (blocked : IsBlocked p.standing.witness)
    (exact : (v : Valley) → Contains vs v ↔ HasValley table (direction_of p.standing.role) p.standing.path.chain v) where
  noted_of : (v : Valley) → IsAmong valley_cmp vs v → IsNoted table p v
  noted_of v among = record { blocked = blocked; has = (exact v).0 (among_in valley_total valley_exact vs v among) }

  among_of : (v : Valley) → IsNoted table p v → IsAmong valley_cmp vs v
  among_of v noted = in_among valley_total valley_exact vs v ((exact v).1 noted.has)

  pub valleys_room : (rows : List (Valley × Tally)) → HasRoomFor valley_cmp (IsNoted table p) routes rows
      → HasRoomFor valley_cmp (IsAmong valley_cmp vs) routes rows
  valleys_room rows room = room_as valley_cmp (IsNoted table p) (IsAmong valley_cmp vs) routes rows room noted_of

  pub valleys_add : (old new : List (Valley × Tally)) → AddsTo valley_cmp (IsAmong valley_cmp vs) routes old new
      → AddsTo valley_cmp (IsNoted table p) routes old new
  valleys_add old new adds = adds_as valley_cmp (IsAmong valley_cmp vs) (IsNoted table p) routes old new adds among_of noted_of

-- the valleys that were found of its chain
pub exact_at : (table : Table) (p : Paired) (found slice : List Valley) (chain : List ℕ) → chain ≡ p.standing.path.chain → slice ≡ found
    → ((v : Valley) → Contains found v ↔ HasValley table (direction_of p.standing.role) chain v)
    → (v : Valley) → Contains slice v ↔ HasValley table (direction_of p.standing.role) p.standing.path.chain v
exact_at table p found slice chain here same exact v =
    subst (λ (c : List ℕ). Contains slice v ↔ HasValley table (direction_of p.standing.role) c v) here
    (subst (λ (vs : List Valley). Contains vs v ↔ HasValley table (direction_of p.standing.role) chain v) (sym same) (exact v))

pub is_blocked : (witness : Witness) (first : ℕ) (last : Option ℕ) → witness ≡ Blocked first last → IsBlocked witness
is_blocked witness first last is = subst IsBlocked (sym is) tt

-- and of another one nothing is added
pub none_blocked : (table : Table) (p : Paired) (routes : ℕ) (rows : List (Valley × Tally)) → (IsBlocked p.standing.witness → ⊥)
    → AddsTo valley_cmp (IsNoted table p) routes rows rows
none_blocked table p routes rows other = adds_none valley_cmp (IsNoted table p) routes rows (λ v noted. other noted.blocked)

-- ---- pair by pair

-- there is room for what the next pair adds, and so many are gathered with it
module _ (state : State) (p : Paired) (rest : List Paired) (now : List (Valley × Tally))
    (gathered : Gathered valley_cmp (test (table_of state.parts)) state (p ∷ rest) now) where
  abbrev here : Table
  here = table_of state.parts

  abbrev Passes : Valley → Type 0
  Passes v = test here v p ≡ true

  pub noted_room : HasRoomFor valley_cmp (IsNoted here p) p.routes now
  noted_room = room_as valley_cmp Passes (IsNoted here p) p.routes now (gathered_room state p rest now gathered) (λ v noted. so_holds (decided_noted here p v) noted)

  pub noted_next : (next : List (Valley × Tally)) → AddsTo valley_cmp (IsNoted here p) p.routes now next → Gathered valley_cmp (test here) state rest next
  noted_next next adds = gathered_next state p rest now gathered next
      (adds_as valley_cmp (IsNoted here p) Passes p.routes now next adds (λ v passes. holds_so (decided_noted here p v) passes) (λ v noted. so_holds (decided_noted here p v) noted))

suspects_by : (state : State) (rows : List (Valley × Tally)) → AreTallied valley_cmp (HasHere state) state rows → AreSuspects state rows
suspects_by state rows are = record { table = table_of state.parts; current = table_is_current state.parts; tallied = are }

-- what was gathered of all pairs
pub are_suspects : (state : State) (now : List (Valley × Tally)) → Gathered valley_cmp (test (table_of state.parts)) state [] now
    → IsStrictlySortedBy valley_cmp (keys_of now) → AreSuspects state now
are_suspects state now gathered sorted = suspects_by state now
    (gathered_tallied valley_total valley_exact (HasHere state) (test (table_of state.parts)) state (tells state) now gathered sorted)

abbrev valleys_in : Table → Paired → List Valley
valleys_in table p = (valleys_listed table (direction_of p.standing.role) p.standing.path.chain).0

named : (table : Table) (p : Paired) (v : Valley) → test table v p ≡ true → Contains (valleys_in table p) v
named table p v passes =
    ((valleys_listed table (direction_of p.standing.role) p.standing.path.chain).1 v).1 (holds_so (decided_noted table p v) passes).has

pub some_suspects : (state : State) → (rows : List (Valley × Tally)) × AreSuspects state rows
some_suspects state =
    let here = table_of state.parts in
    let some = some_tallied valley_total valley_exact (HasHere state) (test here) state (tells state) (valleys_in here) (named here) in
    (some.0, suspects_by state some.0 some.1)

here_tallied : (state : State) (rows : List (Valley × Tally)) → AreSuspects state rows → AreTallied valley_cmp (HasHere state) state rows
here_tallied state rows are =
    subst (λ (t : Table). AreTallied valley_cmp (IsBlockedWith t state.roles) state rows) (same_table state.parts are.table are.current) are.tallied

-- each state has one list of them
pub one_list_of_suspects : (state : State) → HasOne (AreSuspects state)
one_list_of_suspects state =
    let some = some_suspects state in
    record {
      one = some.0;
      is = some.1;
      only = λ other are. tallied_unique valley_total (HasHere state) state other some.0 (here_tallied state other are) (here_tallied state some.0 some.1);
    }
