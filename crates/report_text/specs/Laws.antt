-- Laws of the definitions, each the contract of a public function of the module `laws`.
use Rattle.std.specs.Prelude.{◌≡◌, ℕ, nat_eq, Bool, true, false, List, codes}
use Rattle.std.specs.declared.option.Option.{Option}
use Rattle.std.specs.List.{starts_with}
use Rattle.path_model.specs.declared.key.Key.{Key}
use Rattle.path_model.specs.declared.verdict.Verdict.{Verdict}
use Rattle.path_model.specs.declared.witness.Witness.{Witness}
use Rattle.path_model.specs.Name.{IsName}
use Rattle.path_model.specs.Trail.{Path}
use Rattle.origin_model.specs.declared.origin_state.OriginState.{OriginState}
use Rattle.path_model.specs.declared.leak.Leak.{Leak}
use Rattle.av_text.specs.Spellings.{IsInLine}
use Rattle.report_text.specs.declared.attested.LocalPart.{LocalPart}
use Rattle.report_text.specs.declared.hop.Hop.{Hop}
use Rattle.report_text.specs.declared.peer_summary.PeerSummary.{PeerSummary}
use Rattle.report_text.specs.declared.summary.Summary.{Summary}
use Rattle.report_text.specs.declared.cause.Cause.{Cause}
use Rattle.report_text.specs.Assertions.{assertion_line}
use Rattle.report_text.specs.Attested.{asserted_line, current_line, filtered_line, source_line}
use Rattle.report_text.specs.Change.{change_line, changed_line}
use Rattle.report_text.specs.Details.{detail_line}
use Rattle.report_text.specs.declared.feed.FeedEnd.{FeedEnd}
use Rattle.report_text.specs.Feeds.{feed_line}
use Rattle.report_text.specs.Hops.{hop_line}
use Rattle.report_text.specs.Leaks.{leak_line}
use Rattle.report_text.specs.declared.neighbour.Neighbour.{Neighbour}
use Rattle.report_text.specs.Neighbours.{neighbour_line}
use Rattle.report_text.specs.Origins.{origin_line}
use Rattle.report_text.specs.Own.{own_line}
use Rattle.report_text.specs.PeerSummaries.{peer_summary_line}
use Rattle.report_text.specs.Refusals.{AnyPlace, of_line, of_unit, refusal_line}
use Rattle.report_text.specs.Rows.{row_line}
use Rattle.report_text.specs.Sayings.{said_line}
use Rattle.report_text.specs.Served.{served_line}
use Rattle.report_text.specs.Silent.{silent_line}
use Rattle.report_text.specs.Summary.{summary_line}
use Rattle.report_text.specs.declared.silent.SilentAs.{SilentAs}
use Rattle.report_text.specs.declared.suspect.Suspect.{Suspect}
use Rattle.report_text.specs.Suspects.{suspect_line}
use Rattle.report_text.specs.Why.{why_line}

-- a place whose name has no line feed
abbrev pub IsPlaceInLine : AnyPlace → Type 0
IsPlaceInLine of_line = Unit {0}
IsPlaceInLine (of_unit name unit) = IsInLine name

-- a line, without its line feed, that begins with `! `
pub record IsRefusalLine (line : List ℕ) : Type 0 where
  pub in_line : IsInLine line
  pub marked : starts_with nat_eq line (codes "! ") ≡ true

abbrev pub EachRefusalIsOneLine : Type 0
EachRefusalIsOneLine =
    (number : ℕ) (place : AnyPlace) (cause : Cause) → IsPlaceInLine place → IsRefusalLine (refusal_line number place cause)

abbrev pub EachFeedEndIsOneLine : Type 0
EachFeedEndIsOneLine = (number : ℕ) (name : List ℕ) (end : FeedEnd) → IsInLine name → IsRefusalLine (feed_line number name end)

-- a line, without its line feed, that doesn't begin so
pub record IsAnswerLine (line : List ℕ) : Type 0 where
  pub in_line : IsInLine line
  pub unmarked : starts_with nat_eq line (codes "! ") ≡ false

abbrev pub EachRowIsOneLine : Type 0
EachRowIsOneLine = (key : Key) (verdict : Verdict) → IsAnswerLine (row_line key verdict)

abbrev pub EachOriginIsOneLine : Type 0
EachOriginIsOneLine = (key : Key) (state : OriginState) → IsAnswerLine (origin_line key state)

abbrev pub EachLeakIsOneLine : Type 0
EachLeakIsOneLine = (key : Key) (leak : Leak) → IsAnswerLine (leak_line key leak)

abbrev pub EachChangeIsOneLine : Type 0
EachChangeIsOneLine = (key : Key) (before after : Option Verdict) → IsAnswerLine (change_line key before after)

abbrev pub EachCountOfChangesIsOneLine : Type 0
EachCountOfChangesIsOneLine = (changes : ℕ) → IsAnswerLine (changed_line changes)

abbrev pub EachSummaryIsOneLine : Type 0
EachSummaryIsOneLine = (summary : Summary) → IsAnswerLine (summary_line summary)

abbrev pub EachPeerSummaryIsOneLine : Type 0
EachPeerSummaryIsOneLine = (peer : PeerSummary) → IsAnswerLine (peer_summary_line peer)

abbrev pub EachOwnIsOneLine : Type 0
EachOwnIsOneLine = (verdict : Verdict) → IsAnswerLine (own_line verdict)

abbrev pub EachNeighbourIsOneLine : Type 0
EachNeighbourIsOneLine = (neighbour : Neighbour) → IsAnswerLine (neighbour_line neighbour)

abbrev pub EachServedIsOneLine : Type 0
EachServedIsOneLine = (accepted answers : ℕ) → IsAnswerLine (served_line accepted answers)

abbrev pub EachReasonIsOneLine : Type 0
EachReasonIsOneLine = (verdict : Verdict) (witness : Witness) → IsAnswerLine (why_line verdict witness)

abbrev pub EachDetailIsOneLine : Type 0
EachDetailIsOneLine =
    (key : Key) (verdict : Verdict) (witness : Witness) (path : Path) → IsAnswerLine (detail_line key verdict witness path)

abbrev pub EachSuspectIsOneLine : Type 0
EachSuspectIsOneLine = (suspect : Suspect) → IsAnswerLine (suspect_line suspect)

abbrev pub EachSilentAsIsOneLine : Type 0
EachSilentAsIsOneLine = (silent : SilentAs) → IsAnswerLine (silent_line silent)

abbrev pub EachSayingIsOneLine : Type 0
EachSayingIsOneLine = (text : List ℕ) → IsInLine text → IsAnswerLine (said_line text)

abbrev pub EachHopIsOneLine : Type 0
EachHopIsOneLine = (hop : Hop) → IsAnswerLine (hop_line hop)

abbrev pub EachAssertionIsOneLine : Type 0
EachAssertionIsOneLine = (customer : ℕ) (providers : List ℕ) → IsAnswerLine (assertion_line customer providers)

-- of what a source attests whose name is one
abbrev pub EachSourceIsOneLine : Type 0
EachSourceIsOneLine =
    (name : List ℕ) (until : Option ℕ) (providers : List ℕ) (ended : Bool) → IsName name → IsAnswerLine (source_line name until providers ended)

abbrev pub EachAssertedIsOneLine : Type 0
EachAssertedIsOneLine = (part : LocalPart) (providers : List ℕ) → IsAnswerLine (asserted_line part providers)

abbrev pub EachFilteredIsOneLine : Type 0
EachFilteredIsOneLine = (part : LocalPart) → IsAnswerLine (filtered_line part)

abbrev pub EachCurrentRowIsOneLine : Type 0
EachCurrentRowIsOneLine = (row : Option (List ℕ)) → IsAnswerLine (current_line row)
