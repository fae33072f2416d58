-- What is reported of routers, and counted.
use Rattle.std.specs.Prelude.{◌≡◌, ℕ, ◌+◌, Bool, true, false, List, [], ◌∷◌, ◌++◌, length, codes}
use Rattle.std.specs.declared.option.Option.{Option}
use Rattle.std.specs.declared.option.Option.TheVariants.{Some, None}
use Rattle.report_text.specs.Feeds.{feed_text}
use Rattle.report_text.specs.Refusals.{of_unit, refusal_text}
use Rattle.report_text.specs.declared.feed.FeedEnd.{FeedEnd}
use Rattle.report_text.specs.declared.feed.FeedEnd.TheVariants.{Unreachable, Lost as FeedLost, Short as FeedShort}
use Rattle.rtr_server.specs.declared.outcome.Refusal.{Refusal}
use Rattle.rtr_server.specs.declared.outcome.RouterEnd.{RouterEnd}
use Rattle.rtr_server.specs.declared.outcome.RouterEnd.TheVariants.{Lost, Short}
use Rattle.rtr_server.specs.declared.outcome.Outcome.{Outcome}
use Rattle.rtr_server.specs.declared.routers.Served.{Served}

-- the name under which routers are reported
abbrev pub serve_name : List ℕ
serve_name = codes "serve"

-- ---- one router, in the line of the script with this number

-- the unit line of a refused PDU
abbrev pub refused_text : ℕ → Option Refusal → List ℕ
refused_text line None = []
refused_text line (Some refusal) = refusal_text line (of_unit serve_name refusal.number) refusal.cause

-- an end reads as a feed's
abbrev pub feed_end : RouterEnd → FeedEnd
feed_end Lost = FeedLost
feed_end Short = FeedShort

-- the line of an end
abbrev pub end_text : ℕ → Option RouterEnd → List ℕ
end_text line None = []
end_text line (Some end) = feed_text line serve_name (feed_end end)

abbrev pub outcome_text : ℕ → Outcome → List ℕ
outcome_text line out = refused_text line out.refused ++ end_text line out.end

-- how many lines of text that is
abbrev pub one_if : {A : Type 0} → Option A → ℕ
one_if None = 0
one_if (Some x) = 1

abbrev pub lines_in : Outcome → ℕ
lines_in out = one_if out.refused + one_if out.end

-- ---- several

abbrev pub outcomes_text : ℕ → List Outcome → List ℕ
outcomes_text line [] = []
outcomes_text line (out ∷ more) = outcome_text line out ++ outcomes_text line more

abbrev pub all_lines : List Outcome → ℕ
all_lines [] = 0
all_lines (out ∷ more) = lines_in out + all_lines more

abbrev pub all_answers : List Outcome → ℕ
all_answers [] = 0
all_answers (out ∷ more) = out.answers + all_answers more

-- and of an attempt to accept that failed
abbrev pub reached_text : ℕ → Bool → List ℕ
reached_text line true = []
reached_text line false = feed_text line serve_name Unreachable

abbrev pub reached_lines : Bool → ℕ
reached_lines true = 0
reached_lines false = 1

abbrev pub routers_text : ℕ → List Outcome → Bool → List ℕ
routers_text line outcomes reached = outcomes_text line outcomes ++ reached_text line reached

-- what a line reports and counts of them
pub record Reports (line : ℕ) (outcomes : List Outcome) (served : Served) (text : List ℕ) : Type 0 where
  pub text_is : text ≡ routers_text line outcomes served.reached
  pub accepted : served.accepted ≡ length outcomes
  pub answers : served.answers ≡ all_answers outcomes
  pub refused : served.refused ≡ all_lines outcomes + reached_lines served.reached
