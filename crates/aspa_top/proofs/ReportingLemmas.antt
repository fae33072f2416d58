-- What lines add to the text, whatever the world tells.
use Rattle.std.proofs.Common.{◌≡◌, ◌≢◌, ℕ, ◌≤◌, List, [], ◌++◌, refl, sym, ap, subst, ◌∙◌, arith}
use Rattle.std.proofs.lemmas.List.{append-nil}
use Rattle.std.specs.Io.KnownBytes.{append_known}
use Rattle.std.specs.List.{All}
use Rattle.std.specs.Option.{option_to_list}
use Rattle.std.specs.declared.option.Option.{Option}
use Rattle.std.specs.declared.option.Option.TheVariants.{Some, None}
use Rattle.std.proofs.lemmas.List.Elements.{All-weaker}
use Rattle.av_base.specs.Told.{Rose}
use Rattle.av_base.proofs.ToldLemmas.{append_known-nil}
use Rattle.path_model.specs.declared.role.Role.{Role}
use Rattle.path_model.specs.declared.verdict.Verdict.{Verdict}
use Rattle.path_model.specs.declared.verdict.Verdict.TheVariants.{Valid, Unknown, Invalid}
use Rattle.attestations.specs.CurrentTable.{Parts}
use Rattle.path_model.specs.Name.{IsName}
use Rattle.av_text.specs.Spellings.{IsInLine}
use Rattle.av_text.specs.VerdictText.{verdict_text}
use Rattle.av_text.proofs.AnySpellingLemmas.{names_in_line, verdicts_in_line}
use Rattle.report_text.specs.declared.cause.Cause.{Cause}
use Rattle.report_text.specs.declared.cause.Cause.TheVariants as causes
use Rattle.report_text.specs.declared.feed.FeedEnd.TheVariants.{Unreachable}
use Rattle.report_text.specs.Laws.{IsAnswerLine, IsPlaceInLine}
use Rattle.report_text.specs.Refusals.{AnyPlace, of_line, of_unit, refusal_text}
use Rattle.report_text.specs.Reported.{AddsFront, AddsLines}
use Rattle.report_text.proofs.ReportedLemmas.{adds_answer, adds_end, adds_front, adds_later, adds_none, adds_quiet_none, adds_refusal}
use Rattle.rtr_client.specs.declared.telling.Telling.{Telling}
use Rattle.rtr_client.specs.declared.telling.Telling.TheVariants.{NoName, StreamOver, Pdu, End}
use Rattle.rtr_client.specs.Tellings.{telling_text, tells_text}
use Rattle.report_text.specs.Sayings.{said_line, said_text}
use Rattle.report_text.proofs.AnswerLemmas.{saying_is_one_line}
use Rattle.script_lines.specs.Word.{IsSaid}
use Rattle.aspa_top.specs.Tasks.{IsJudged}
use Rattle.aspa_top.specs.Reporting.{AddsText, AddsEnds}
use Rattle.aspa_top.proofs.StandsLemmas.{added_text}

-- ---- lines that answer or refuse

pub text_none : (text : List ℕ) → AddsText text text
text_none text = λ written. adds_quiet_none (append_known written text)

pub text_refused : (number : ℕ) (place : AnyPlace) (cause : Cause) (text_old text_new : List ℕ) → IsPlaceInLine place → text_new ≡ text_old ++ refusal_text number place cause → AddsText text_old text_new
text_refused number place cause text_old text_new in_line is = λ written. adds_refusal _ _ number place cause in_line (added_text written text_old text_new _ is)

verdict_is_one_line : (verdict : Verdict) → IsAnswerLine (verdict_text verdict)
verdict_is_one_line Valid = record { in_line = verdicts_in_line Valid; unmarked = refl }
verdict_is_one_line Unknown = record { in_line = verdicts_in_line Unknown; unmarked = refl }
verdict_is_one_line Invalid = record { in_line = verdicts_in_line Invalid; unmarked = refl }

pub text_judged : (parts : Parts) (role : Role) (neighbour : ℕ) (path text_old text_new line : List ℕ) → IsJudged parts role neighbour path line → text_new ≡ text_old ++ line
    → AddsText text_old text_new
text_judged parts role neighbour path text_old text_new line is added = λ written.
    adds_answer _ _ (verdict_text is.verdict) (verdict_is_one_line is.verdict)
    (added_text written text_old text_new line added ∙ ap (append_known (append_known written text_old)) is.text_is)

pub said_in_line : (words : List ℕ) → All IsSaid words → IsInLine words
said_in_line words said = All-weaker IsSaid (λ (byte : ℕ). byte ≢ 10) (λ byte is same. omega (arith, is.0, same)) words said

pub text_said : (words text_old text_new : List ℕ) → All IsSaid words → text_new ≡ text_old ++ said_text words → AddsText text_old text_new
text_said words text_old text_new said is = λ written.
    adds_answer _ _ (said_line words) (saying_is_one_line words (said_in_line words said)) (added_text written text_old text_new _ is)

-- ---- lines on feeds

pub ends_quiet : (text_old text_new : List ℕ) (before now : ℕ) → before ≤ now → AddsText text_old text_new → AddsEnds text_old text_new before now
ends_quiet text_old text_new before now later adds = λ written. adds_later _ _ before before now (adds written before) later

telling_adds : (line : ℕ) (name text_old text_new : List ℕ) (telling : Telling) (before now : ℕ) → IsInLine name → before ≤ now → (telling ≡ End Unreachable → Rose before now)
    → text_new ≡ text_old ++ telling_text (record { line = line; name = name }) telling → AddsEnds text_old text_new before now
telling_adds line name text_old text_new NoName before now in_line later rose is = ends_quiet text_old text_new before now later (text_refused line of_line causes.NoName text_old text_new tt is)
telling_adds line name text_old text_new StreamOver before now in_line later rose is = ends_quiet text_old text_new before now later (text_refused line of_line causes.StreamOver text_old text_new tt is)
telling_adds line name text_old text_new (Pdu number cause) before now in_line later rose is =
    ends_quiet text_old text_new before now later (text_refused line (of_unit name number) cause text_old text_new in_line is)
telling_adds line name text_old text_new (End how) before now in_line later rose is = λ written.
    adds_end _ _ line name how before now in_line later (λ same. rose (ap End same)) (added_text written text_old text_new _ is)

-- what a line on a feed reports, if it reports anything
pub told_adds : (line : ℕ) (name text_old text_new : List ℕ) (told : Option Telling) (before now : ℕ) → IsName name → before ≤ now → (told ≡ Some (End Unreachable) → Rose before now)
    → text_new ≡ text_old ++ tells_text (record { line = line; name = name }) (option_to_list told) → AddsEnds text_old text_new before now
told_adds line name text_old text_new None before now named later rose is =
    ends_quiet text_old text_new before now later (subst (λ (t : List ℕ). AddsText text_old t) (sym (is ∙ append-nil text_old)) (text_none text_old))
told_adds line name text_old text_new (Some telling) before now named later rose is =
    telling_adds line name text_old text_new telling before now (names_in_line name named) later (λ same. rose (ap Some same))
    (is ∙ ap (λ (t : List ℕ). text_old ++ t) (append-nil (telling_text (record { line = line; name = name }) telling)))

-- ---- fronts

-- nothing was added
pub front_none : (all_old all_new : Option (List ℕ)) (before now : ℕ) → before ≤ now → all_new ≡ all_old → AddsFront all_old all_new before now
front_none all_old all_new before now later same =
    adds_front _ _ before now (subst (λ (all : Option (List ℕ)). AddsLines all_old all before now) (sym same) (adds_none all_old before now later))

pub front_same : (written : Option (List ℕ)) (text_old text_new : List ℕ) (before now : ℕ) → before ≤ now → text_new ≡ text_old
    → AddsFront (append_known written text_old) (append_known written text_new) before now
front_same written text_old text_new before now later same = front_none _ _ before now later (ap (append_known written) same)

-- what is held is written, and stays the same together
pub lines_poured : (old all poured : Option (List ℕ)) (before now : ℕ) → poured ≡ all → AddsLines old all before now → AddsLines old poured before now
lines_poured old all poured before now same adds = subst (λ (a : Option (List ℕ)). AddsLines old a before now) (sym same) adds

pub front_poured : (old all poured : Option (List ℕ)) (before now : ℕ) → poured ≡ all → AddsFront old all before now → AddsFront old poured before now
front_poured old all poured before now same adds = subst (λ (a : Option (List ℕ)). AddsFront old a before now) (sym same) adds

-- nothing is held yet
pub lines_begun : (written : Option (List ℕ)) (held : List ℕ) (count : ℕ) → held ≡ [] → AddsLines written (append_known written held) count count
lines_begun written held count empty =
    lines_poured written written (append_known written held) count count (ap (append_known written) empty ∙ append_known-nil written) (adds_none written count count (omega arith))
