-- Laws of the definitions, each the contract of a public function of the module `laws`.
use Rattle.std.specs.Prelude.{◌≡◌, ℕ, List, [], ◌∷◌, Contains, Some}
use Rattle.std.specs.FinMap as fin
use Rattle.std.specs.Map.{keys_of}
use Rattle.std.specs.declared.option.Option.{Option}
use Rattle.av_base.specs.One.{HasOne}
use Rattle.listings.specs.Summary.{IsSummary}
use Rattle.path_model.specs.PrintedWitness.{IsPrinted}
use Rattle.path_model.specs.Roles.{role_of}
use Rattle.path_model.specs.Trail.{Path}
use Rattle.path_model.specs.declared.key.Key.{Key}
use Rattle.path_model.specs.declared.verdict.Verdict.TheVariants.{Invalid}
use Rattle.path_model.specs.declared.witness.Witness.TheVariants.{Blocked}
use Rattle.path_model.specs.Authority.{Table}
use Rattle.report_text.specs.Assertions.{named}
use Rattle.rib_store.specs.State.{State}
use Rattle.vap_table.specs.Change.{Alters}
use Rattle.vap_table.specs.declared.change.TableChange.TheVariants.{Assert}
use Rattle.attestations.specs.CurrentTable.{IsCurrentTable, Parts, no_parts}
use Rattle.listings.specs.Attests.{AreAttested, AreGroups}
use Rattle.listings.specs.Peers.{ArePeers}
use Rattle.conditions.specs.declared.asked.Conditions.{Conditions}
use Rattle.listings.specs.Details.{AreDetails}
use Rattle.listings.specs.Silent.{AreSilent}
use Rattle.listings.specs.Suspects.{AreSuspects, IsBlockedWith}
use Rattle.listings.specs.Tallies.{IsRouteWith}
use Rattle.path_model.specs.declared.role.Role.{Role}
use Rattle.listings.specs.Neighbours.{AreNeighboursOf}
use Rattle.listings.specs.Sent.{AreSent}
use Rattle.listings.specs.declared.tally.Tally.{Tally}
use Rattle.valleys.specs.declared.valley.Valley.{Valley}

-- a state, with these two numbers, has one summary
abbrev pub EachStateHasOneSummary : Type 0
EachStateHasOneSummary = (state : State) (passed refused : ℕ) → HasOne (IsSummary state passed refused)

-- a state has one list of peers
abbrev pub EachStateHasOneListOfPeers : Type 0
EachStateHasOneListOfPeers = (state : State) → HasOne (ArePeers state)

-- a state has one list of the routes that are sent, in a role and behind some ASes
abbrev pub EachStateHasOneListOfSent : Type 0
EachStateHasOneListOfSent = (state : State) (role : Role) (ases : List ℕ) → HasOne (AreSent state role ases)

-- a state has one list of the ASes beside an AS
abbrev pub EachStateHasOneListOfNeighbours : Type 0
EachStateHasOneListOfNeighbours = (state : State) (asn : ℕ) → HasOne (AreNeighboursOf state asn)

-- a state has one list of suspects
abbrev pub EachStateHasOneListOfSuspects : Type 0
EachStateHasOneListOfSuspects = (state : State) → HasOne (AreSuspects state)

-- a state has one list of silent ASes
abbrev pub EachStateHasOneListOfSilentAses : Type 0
EachStateHasOneListOfSilentAses = (state : State) → HasOne (AreSilent state)

-- a state has one list of details for any conditions
abbrev pub EachStateHasOneListOfDetails : Type 0
EachStateHasOneListOfDetails = (state : State) (conditions : Conditions) → HasOne (AreDetails state conditions)

-- each route whose printed witness is `Blocked` has a valley among the suspects
abbrev pub BlockedRoutesAreSuspected : Type 0
BlockedRoutesAreSuspected = (state : State) (rows : List (Valley × Tally)) (are : AreSuspects state rows) (key : Key) (path : Path) (first : ℕ) (last : Option ℕ)
    → fin.get state.routes key ≡ Some path
    → IsPrinted are.table (role_of state.roles key.peer.asn) key.peer.asn path Invalid (Blocked first last)
    → (valley : Valley) × Contains (keys_of rows) valley × IsRouteWith (IsBlockedWith are.table state.roles) state valley key

-- the row of a customer has one list of groups
abbrev pub EachRowHasOneListOfGroups : Type 0
EachRowHasOneListOfGroups = (customer : ℕ) (row : List ℕ) → HasOne (AreGroups customer row)

-- these are asserted by hand, one after another; an empty row as the line of it says, by 0
abbrev pub Performs : Parts → List (ℕ × List ℕ) → Parts → Type 0
Performs old [] new = new ≡ old
Performs old (row ∷ rows) new = (next : Parts) × Alters old (Assert row.0 (named row.1)) next × Performs next rows new

-- Performed from the start these rows come to parts that have the same current table.
pub record Restores (parts : Parts) (rows : List (ℕ × List ℕ)) : Type 0 where
  pub done : (after : Parts) × Performs no_parts rows after
  pub same : (after : Parts) → Performs no_parts rows after → (table : Table) → IsCurrentTable parts table → IsCurrentTable after table

-- so it is with the rows of `attests`
abbrev pub AttestsRestore : Type 0
AttestsRestore = (parts : Parts) (rows : List (ℕ × List ℕ)) → AreAttested parts rows → Restores parts rows
