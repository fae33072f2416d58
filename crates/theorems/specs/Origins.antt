-- Origins of routes by all payloads that are held (RFC 6811), over all lines of a script.
use Rattle.std.specs.Prelude.{◌≡◌, ◌↔◌, ◌⊎◌, ℕ, Bool, true, false, List, [], ◌∷◌, Some, Ok}
use Rattle.std.specs.FinMap as fin
use Rattle.std.specs.Cmp.Lexicographic.{slice_cmp}
use Rattle.std.specs.List.{AllZip}
use Rattle.std.specs.List.Sorted.{IsStrictlySortedBy}
use Rattle.std.specs.Map.{keys_of}
use Rattle.std.specs.Ordering.{nat_cmp}
use Rattle.av_base.specs.One.{HasOne}
use Rattle.path_model.specs.declared.key.Key.{Key}
use Rattle.path_model.specs.Trail.{Path}
use Rattle.origin_model.specs.declared.origin_state.OriginState.{OriginState}
use Rattle.origin_model.specs.declared.prefix_filter.PrefixFilter.{PrefixFilter}
use Rattle.origin_model.specs.Current.{Parts, no_parts}
use Rattle.origin_model.specs.OriginState.{HasState, origin_of}
use Rattle.origin_model.specs.PrefixFilter.{IsHit}
use Rattle.origin_model.specs.Vrp.{Payload}
use Rattle.origin_model.specs.VrpSet.{has}
use Rattle.origin_validation.specs.Records.{PatchesSource, source_of, with_source}
use Rattle.listings.specs.Origins.{origin_row}
use Rattle.rtr_client.specs.Feeds.{Feed}
use Rattle.rtr_client.specs.Lines.{same_name}
use Rattle.rtr_session.specs.declared.act.Phase.TheVariants.{Ready}
use Rattle.script_lines.specs.declared.commands.Command.TheVariants.{Origins as OriginsLine}
use Rattle.script_lines.specs.Grammar.{IsReading}
use Rattle.aspa_top.specs.Answers.{Shows}
use Rattle.aspa_top.specs.Evaluation.{Evaluates, Performs}
use Rattle.aspa_top.specs.State.{State, start}
use Rattle.aspa_top.specs.World.{World}

-- ---- the union of all that is held

-- the source is one of these
abbrev pub IsAmong : List (List ℕ × List Payload) → List ℕ × List Payload → Type 0
IsAmong [] source = ⊥
IsAmong (other ∷ more) source = (other ≡ source) ⊎ IsAmong more source

-- some source has the payload
pub record IsOfSource (parts : Parts) (v : Payload) : Type 0 where
  pub source : List ℕ × List Payload
  pub there : IsAmong parts.sources source
  pub among : has source.1 v ≡ true

-- The payload is one of those by which routes are validated: a source has it and no filter of the SLURM file hits it, or the file asserts it.
abbrev pub IsInUnion : Parts → Payload → Type 0
IsInUnion parts v = (IsOfSource parts v × (¬ IsHit parts.filters v)) ⊎ (has parts.assertions v ≡ true)

-- the row of a route: its key, and the state of its prefix and its origin by these payloads
pub record IsRowByUnion (parts : Parts) (route : Key × Path) (row : Key × OriginState) : Type 0 where
  pub key : row.0 ≡ route.0
  pub state : HasState (IsInUnion parts) route.0.prefix (origin_of route.1) row.1

-- one row for each route, in key order
abbrev pub AreRowsByUnion : State → List (Key × OriginState) → Type 0
AreRowsByUnion state rows = AllZip (IsRowByUnion state.origins) (fin.entries state.analysis.routes) rows

-- ---- where they come from

-- The records change: a source gets other payloads, or what changes make of those that it has, as a feed's answer and a good file give them; or
-- a SLURM file's filters and assertions stand in place of those before.
pub data Change : Type 0 where
  Put : (name : List ℕ) (payloads : List Payload) → Change
  Patch : (name : List ℕ) (changes : List (Payload × Bool)) → Change
  Slurm : (filters : List PrefixFilter) (assertions : List Payload) → Change

abbrev pub Makes : Change → Parts → Parts → Type 0
Makes (Put name payloads) old new = new ≡ with_source old name payloads
Makes (Patch name changes) old new = PatchesSource old name changes new
Makes (Slurm filters assertions) old new = new ≡ record old { filters = filters; assertions = assertions }

-- these changes, one after another
abbrev pub AllMake : List Change → Parts → Parts → Type 0
AllMake [] old new = new ≡ old
AllMake (change ∷ more) old new = (mid : Parts) × Makes change old mid × AllMake more mid new

-- Each source stands under a name of its own: what a name has is all that its source has, and no source is without a name.
pub record AreNamed (parts : Parts) : Type 0 where
  pub sorted : IsStrictlySortedBy (slice_cmp nat_cmp) (keys_of parts.sources)
  pub each : (v : Payload) → IsOfSource parts v ↔ ((name : List ℕ) × (payloads : List Payload) × (source_of parts.sources name ≡ Some payloads) × (has payloads v ≡ true))

-- what is put stands under its name from now on, and nothing else changes
pub record IsPut (name : List ℕ) (payloads : List Payload) (old new : Parts) : Type 0 where
  pub its : source_of new.sources name ≡ Some payloads
  pub others : (other : List ℕ) → same_name name other ≡ false → source_of new.sources other ≡ source_of old.sources other
  pub filters : new.filters ≡ old.filters
  pub assertions : new.assertions ≡ old.assertions

-- ---- the law

-- Behind some lines: a route has exactly one row, with its one state by the union; a line `origins` lists these; and a feed whose session is ready
-- has exactly its session's payloads there.
pub record AreValidated (state : State) : Type 0 where
  pub rows : HasOne (AreRowsByUnion state)
  pub lists : (world : World) (line text : List ℕ) (next : State) → Performs world state line text next → IsReading line (Ok OriginsLine)
      → Shows (AreRowsByUnion state) origin_row text
  pub feeds : (name : List ℕ) (feed : Feed) → state.feeds name ≡ Some (Some feed) → feed.session.phase ≡ Ready → source_of state.origins.sources name ≡ Some feed.session.payloads
  pub of_feeds : (name : List ℕ) (feed : Feed) (v : Payload) → state.feeds name ≡ Some (Some feed) → feed.session.phase ≡ Ready → has feed.session.payloads v ≡ true
      → IsOfSource state.origins v

pub record OriginsAreByTheUnion : Type 0 where
  -- behind any lines of a script
  pub behind : (world : World) (lines : List (List ℕ)) (text : List ℕ) (end : State) → Evaluates world (start world) lines text end → AreValidated end
  -- behind any changes of the records, from the start on
  pub named : (changes : List Change) (parts : Parts) → AllMake changes no_parts parts → AreNamed parts
  -- and what is put, by a feed or by a file, is all that its source has
  pub puts : (name : List ℕ) (payloads : List Payload) (old : Parts) → IsPut name payloads old (with_source old name payloads)
