-- What a line that only asks is answered: a text that is read off what the lines before have left, of which nothing changes.
use Rattle.std.specs.Prelude.{◌≡◌, List, ℕ, flat_map}
use Rattle.std.specs.FinMap as fin
use Rattle.std.specs.declared.option.Option.{Option}
use Rattle.std.specs.declared.option.Option.TheVariants.{Some, None}
use Rattle.path_model.specs.declared.key.Key.{Key}
use Rattle.path_model.specs.declared.verdict.Verdict.{Verdict}
use Rattle.path_model.specs.declared.witness.Witness.{Witness}
use Rattle.path_model.specs.Trail.{Path}
use Rattle.origin_validation.specs.Rows.{AreOriginRows}
use Rattle.listings.specs.Origins.{origin_row}
use Rattle.report_text.specs.declared.cause.Cause.{Cause}
use Rattle.report_text.specs.declared.cause.Cause.TheVariants.{NoRoute}
use Rattle.report_text.specs.declared.summary.Summary.{Summary}
use Rattle.report_text.specs.Refusals.{of_line}
use Rattle.report_text.specs.Summary.{summary_text}
use Rattle.report_text.specs.Why.{why_text}
use Rattle.rib_store.specs.Shown.{IsExplained}
use Rattle.rib_store.specs.State.{AreRows}
use Rattle.listings.specs.Attests.{AreAttested, attested_row}
use Rattle.listings.specs.AttestsOf.{AreAttestsOf}
use Rattle.listings.specs.Hops.{explained_text}
use Rattle.listings.specs.Neighbours.{AreNeighboursOf, neighbour_row}
use Rattle.listings.specs.Silent.{AreSilent, silent_row}
use Rattle.report_text.specs.Attested.{with_lf}
use Rattle.listings.specs.Leaks.{AreLeaks, leak_row}
use Rattle.listings.specs.Rows.{row_of}
use Rattle.listings.specs.Summary.{IsSummary}
use Rattle.listings.specs.Suspects.{AreSuspects}
use Rattle.listings.specs.Details.{AreDetails, detail_row}
use Rattle.listings.specs.Peers.{ArePeers, peer_row}
use Rattle.listings.specs.Suspected.{suspect_row}
use Rattle.aspa_top.specs.declared.task.Question.{Question}
use Rattle.aspa_top.specs.declared.task.Question.TheVariants.{Report, Origins, Leaks, Suspects, Peers, Summary as SumUp, Routes, Why, Explain, Attests, Neighbours, Silent}
use Rattle.aspa_top.specs.State.{State, Refuses}

-- a listing: some rows, which are as they are to be, and their lines
pub record Shows {Row : Type 0} (Are : List Row → Type 0) (line_of : Row → List ℕ) (text : List ℕ) : Type 0 where
  pub rows : List Row
  pub are : Are rows
  pub text_is : text ≡ flat_map line_of rows

-- `summary`: how many routes there are by their current verdicts, the customers of the current table, and what was passed over or refused
pub record SumsUp (state : State) (text : List ℕ) : Type 0 where
  pub summary : Summary
  pub is : IsSummary state.analysis state.passed state.refused summary
  pub text_is : text ≡ summary_text summary

-- `why ADDRESS AS PREFIX`: the current verdict of the key's route, and its printed witness, whose facts hold
pub record Explains (state : State) (key : Key) (text : List ℕ) : Type 0 where
  pub verdict : Verdict
  pub witness : Witness
  pub explained : IsExplained state.analysis key verdict witness
  pub text_is : text ≡ why_text verdict witness

-- `explain ADDRESS AS PREFIX`: the same line, and one for each hop of the route's path, with what the current table has of it
pub record ExplainsHops (state : State) (key : Key) (text : List ℕ) : Type 0 where
  pub verdict : Verdict
  pub witness : Witness
  pub explained : IsExplained state.analysis key verdict witness
  pub text_is : text ≡ explained_text explained.table explained.path verdict witness

-- the text answers the question
abbrev pub Answers : State → Question → List ℕ → Type 0
-- `report`: one line for each route in key order, with its current verdict
Answers state Report text = Shows (AreRows state.analysis) row_of text
-- `origins`: one line for each route in key order, with the state of its origin by the records that are current
Answers state Origins text = Shows (AreOriginRows state.analysis.routes state.origins) origin_row text
-- `leaks`: one line for each route whose attribute Only-to-Customer makes it a leak, in key order, by the present roles
Answers state Leaks text = Shows (AreLeaks state.analysis.roles state.marks) leak_row text
-- `suspects`: one line for each valley of the routes that no completion makes valid, in ascending order, with how many have it
Answers state Suspects text = Shows (AreSuspects state.analysis) suspect_row text
-- `peers`: one line for each peer that has routes, in key order, and then one for each AS that has a role of its own and none
Answers state Peers text = Shows (ArePeers state.analysis) peer_row text
Answers state SumUp text = SumsUp state text
-- `details` and `routes`: one line for each route that meets the conditions, in key order, with its current verdict, its printed witness and its path
Answers state (Routes conditions) text = Shows (AreDetails state.analysis conditions) detail_row text
Answers state (Why key) text = Explains state key text
Answers state (Explain key) text = ExplainsHops state key text
-- `attests`: the lines of a script that asserts the current table
Answers state (Attests None) text = Shows (AreAttested state.analysis.parts) attested_row text
-- `attests AS`: one line for each attestation of the customer, for its assertions and filters, and for its current row
Answers state (Attests (Some customer)) text = Shows (AreAttestsOf state.analysis.parts customer) with_lf text
-- `neighbours AS`: one line for each AS beside it on some route's path, rising
Answers state (Neighbours asn) text = Shows (AreNeighboursOf state.analysis asn) neighbour_row text
-- `silent`: one line for each AS without a row about which some route of unknown verdict asks, rising
Answers state Silent text = Shows (AreSilent state.analysis) silent_row text

-- why is asked of a route that there is
abbrev pub no_route : Option Path → Option Cause
no_route None = Some NoRoute
no_route (Some path) = None

-- the cause for which a question is refused, if it is
abbrev pub refused_for : State → Question → Option Cause
refused_for state (Why key) = no_route (fin.get state.analysis.routes key)
refused_for state (Explain key) = no_route (fin.get state.analysis.routes key)
refused_for state question = None

-- a question is refused, or answered, and then nothing changes
abbrev pub AnswersUnless : Option Cause → State → Question → List ℕ → State → Type 0
AnswersUnless (Some cause) state question text next = Refuses state of_line cause text next
AnswersUnless None state question text next = Answers state question text × (next ≡ state)

abbrev pub Replies : State → Question → List ℕ → State → Type 0
Replies state question text next = AnswersUnless (refused_for state question) state question text next
