-- How the steps of a line stand for the definitions; only private contracts cite this.
use Rattle.std.specs.Prelude.{◌≡◌, ◌≢◌, ℕ, ◌≤◌, ◌⊎◌, Bool, true, false, cond, List, [], ◌∷◌, Some, OnOk}
use Rattle.std.specs.Option.{option_to_list}
use Rattle.std.specs.declared.option.Option.{Option}
use Rattle.std.specs.declared.option.Option.TheVariants.{None}
use Rattle.std.specs.declared.result.Result.{Result}
use Rattle.av_base.specs.Connections.{Link, IsUsable}
use Rattle.av_base.specs.declared.standing.Standing.{Standing}
use Rattle.rtr_session.specs.declared.act.Act.{Act}
use Rattle.rtr_session.specs.declared.act.Act.TheVariants.{Nothing, Send, Apply, End}
use Rattle.rtr_session.specs.declared.act.Phase.{Phase}
use Rattle.rtr_session.specs.declared.act.Phase.TheVariants.{Over}
use Rattle.analyser.specs.declared.progress.Progress.{Progress}
use Rattle.origin_model.specs.Current.{Parts}
use Rattle.rib_store.specs.State.{State as Analysis}
use Rattle.rtr_client.specs.declared.changing.SourceChange.{SourceChange}
use Rattle.rtr_client.specs.declared.feed.OpenFeed.{OpenFeed}
use Rattle.rtr_client.specs.declared.taking.Outcome.{Outcome}
use Rattle.rtr_client.specs.declared.taking.Outcome.TheVariants.{Open as GoesOn, Ended}
use Rattle.rtr_client.specs.declared.taking.Wanted.{Wanted}
use Rattle.rtr_client.specs.declared.telling.Telling.{Telling}
use Rattle.rtr_client.specs.declared.telling.Telling.TheVariants.{End as FeedEnds}
use Rattle.rtr_client.specs.declared.working.Work.{Work}
use Rattle.rtr_client.specs.declared.working.Work.TheVariants.{Take, Sync}
use Rattle.report_text.specs.declared.feed.FeedEnd.TheVariants.{Short, Unreachable}
use Rattle.connection_calls.specs.Connection.{IsOpenWith, Now}
use Rattle.connection_calls.specs.Moves.{Ever}
use Rattle.rtr_client.specs.Feeds.{Feed, Taking, Follows, is_enough_at}
use Rattle.rtr_client.specs.Holding.{AreWithin, StandsFor}

-- the feed's connection may be used, and its session isn't over
pub record IsFit (stands : List Standing) (feed : OpenFeed) : Type 0 where
  pub usable : IsUsable stands feed.link
  pub phase : feed.session.phase ≢ Over

-- a feed that goes on is fit, on the same connection, and has taken at most so many PDUs; one that is over had a connection
abbrev pub OutcomeFits : List Standing → ℕ → ℕ → Outcome → Type 0
OutcomeFits stands link most (GoesOn feed) = IsFit stands feed × (feed.link ≡ link) × (feed.taken ≤ most)
OutcomeFits stands link most (Ended telling) = telling ≢ FeedEnds Unreachable

abbrev pub SlotFits : List Standing → ℕ → ℕ → Option OpenFeed → Type 0
SlotFits stands link most None = Unit {0}
SlotFits stands link most (Some feed) = IsFit stands feed × (feed.link ≡ link) × (feed.taken ≤ most)

-- what was done to the feed, whatever becomes of its connection: it goes on and nothing is reported, or it is over
abbrev pub MovedAs : Option (List Link) → ℕ → (Link → List Telling → Option Feed → Type 0) → Outcome → Type 0
MovedAs wire link does (GoesOn kept) =
    (feed : Feed) × StandsFor wire kept feed × (feed.link ≡ link) × Ever wire link (λ t. does t [] (Some feed))
MovedAs wire link does (Ended telling) = Ever wire link (λ t. does t (telling ∷ []) None)

-- this is done wherever the change that is due follows
abbrev pub Before : Option SourceChange → (Taking → List Telling → Taking → Type 0) → List Telling → Option Feed → Type 0
Before change takes tells slot = (old new : Taking) → new.feed ≡ slot → Follows change old new → takes old tells new

-- the session goes on after this act
abbrev pub IsNoEnd : Act → Type 0
IsNoEnd Nothing = Unit {0}
IsNoEnd (Send query) = Unit {0}
IsNoEnd (Apply delta) = Unit {0}
IsNoEnd (End ending) = ⊥

-- what the lines so far have made of the analysis and of the origin records
pub record Made : Type 0 where
  pub analysis : Analysis
  pub parts : Parts

abbrev pub made : Analysis → Parts → Made
made analysis parts = record { analysis = analysis; parts = parts }

abbrev pub made_in : Progress → Made
made_in progress = made progress.analyser progress.origins

-- all but the analysis and the origin records stays as it was
abbrev pub StaysBeside : Progress → Progress → Type 0
StaysBeside old new = new ≡ record old { analyser = new.analyser; origins = new.origins }

-- a feed that goes on, or none where its session is over, with these and what is counted so far
abbrev pub taking : Option Feed → Made → ℕ → Taking
taking slot state judgements = record { feed = slot; state = state.analysis; parts = state.parts; judgements = judgements }

abbrev pub going : Feed → Made → ℕ → Taking
going feed state judgements = taking (Some feed) state judgements

abbrev pub over : Made → ℕ → Taking
over state judgements = taking None state judgements

-- The analysis and the origin records went on so from those that were held, whether or not there was memory for the next ones, and no more
-- steps were taken than judgements were counted.
pub record Passes {E : Type 0} (result : Result (Unit {0}) E) (next : Made) (steps_old steps_new : ℕ) (old : Taking) (does : Taking → Type 0) (slot : Option Feed) : Type 0 where
  pub state : Made
  pub judgements : ℕ
  pub is : OnOk result (next ≡ state)
  pub within : AreWithin steps_old steps_new old.judgements judgements
  pub done : does (taking slot state judgements)

-- The feed goes on and nothing is reported, or it is over. This was done, whatever becomes of the connection, and so many judgements are
-- counted then.
abbrev pub TookAs : Option (List Link) → ℕ → (ℕ → Type 0) → (Link → List Telling → Taking → Type 0) → Outcome → Made → Type 0
TookAs wire link within does (GoesOn kept) state =
    (feed : Feed) × (judgements : ℕ) × StandsFor wire kept feed × (feed.link ≡ link) × within judgements × Ever wire link (λ t. does t [] (going feed state judgements))
TookAs wire link within does (Ended telling) state =
    (judgements : ℕ) × within judgements × Ever wire link (λ t. does t (telling ∷ []) (over state judgements))

abbrev pub StandsSlot : Option (List Link) → Option OpenFeed → Option Feed → Type 0
StandsSlot wire None None = Unit {0}
StandsSlot wire (Some kept) (Some feed) = StandsFor wire kept feed
StandsSlot wire slot feed = ⊥

-- the same of a feed that may be over, where something may be reported in either case
pub record LeftAs (wire : Option (List Link)) (link : ℕ) (does : Link → List Telling → Option Feed → Type 0) (slot : Option OpenFeed) (told : Option Telling) : Type 0 where
  pub feed : Option Feed
  pub stands : StandsSlot wire slot feed
  pub done : Ever wire link (λ t. does t (option_to_list told) feed)

-- with what was made
pub record WorkedAs (wire : Option (List Link)) (link : ℕ) (within : ℕ → Type 0) (does : Link → List Telling → Taking → Type 0)
    (slot : Option OpenFeed) (told : Option Telling) (state : Made) : Type 0 where
  pub feed : Option Feed
  pub judgements : ℕ
  pub few : within judgements
  pub stands : StandsSlot wire slot feed
  pub done : Ever wire link (λ t. does t (option_to_list told) (taking feed state judgements))

-- a feed that goes on has sent what its connection has, which is neither closed nor broken
abbrev pub HasSentAll : Option (List Link) → ℕ → Option Feed → Type 0
HasSentAll wire link None = Unit {0}
HasSentAll wire link (Some feed) = (feed.link ≡ link) × Now wire link (IsOpenWith feed.sent)

-- there was no memory: some first moves were made, and the feed sent what they ask for
pub record Halted (wire : Option (List Link)) (link : ℕ) (within : ℕ → Type 0) (begins : Link → Taking → Type 0) : Type 0 where
  pub end : Taking
  pub few : within end.judgements
  pub done : Ever wire link (λ t. begins t end)
  pub sent : HasSentAll wire link end.feed

-- this was done, or nothing
abbrev pub MayDo : (List Telling → Taking → Type 0) → Taking → Taking → Type 0
MayDo does old new = (new ≡ old) ⊎ ((tells : List Telling) × does tells new)

-- ---- what is wanted of a feed

-- the work of a line that wants so many PDUs, or at most so many until the session is ready
abbrev pub work_at : Bool → ℕ → Work
work_at false count = Take count
work_at true count = Sync count

abbrev pub work_of : Wanted → Work
work_of wanted = work_at wanted.until_ready wanted.count

-- what is reported of a feed that goes on: too few PDUs came where it was to be ready
abbrev pub told_at : Bool → Phase → Option Telling
told_at false phase = None
told_at true phase = cond (is_enough_at true phase) None (Some (FeedEnds Short))
