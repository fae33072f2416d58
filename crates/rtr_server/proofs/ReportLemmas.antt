-- What a line reports is whole lines, of which one says that the place wasn't to be had where an attempt to accept failed. Only the layer above
-- cites this.
use Rattle.std.proofs.Common.{◌≡◌, ℕ, ◌≤◌, Bool, true, false, nat_le, List, [], ◌∷◌, ◌++◌, refl, sym, subst, ◌∙◌, arith}
use Rattle.std.specs.Io.KnownBytes.{append_known}
use Rattle.std.proofs.lemmas.Bool.{leb-true}
use Rattle.std.proofs.lemmas.List.Elements.{All-weaker}
use Rattle.std.proofs.lemmas.List.Sums.{AllPass-from_list_all}
use Rattle.std.specs.declared.option.Option.{Option}
use Rattle.std.specs.declared.option.Option.TheVariants.{Some, None}
use Rattle.av_base.specs.Told.{Rose}
use Rattle.av_base.proofs.ToldLemmas.{append_known-append, append_known-nil}
use Rattle.av_text.specs.Spellings.{IsInLine}
use Rattle.av_text.proofs.LackLemmas.{from-lacks}
use Rattle.report_text.specs.Refusals.{of_unit}
use Rattle.report_text.specs.Reported.{AddsLines, AddsQuiet}
use Rattle.report_text.specs.declared.feed.FeedEnd.TheVariants.{Unreachable, Lost as FeedLost, Short as FeedShort}
use Rattle.report_text.proofs.ReportedLemmas.{adds_end, adds_later, adds_more, adds_refusal, adds_quiet_none, quiet_more}
use Rattle.rtr_server.specs.declared.outcome.Refusal.{Refusal}
use Rattle.rtr_server.specs.declared.outcome.RouterEnd.{RouterEnd}
use Rattle.rtr_server.specs.declared.outcome.RouterEnd.TheVariants.{Lost, Short}
use Rattle.rtr_server.specs.declared.outcome.Outcome.{Outcome}
use Rattle.rtr_server.specs.Outcomes.{end_text, outcome_text, outcomes_text, reached_text, refused_text, serve_name, routers_text}

name_in_line : IsInLine serve_name
name_in_line =
    from-lacks 32 10 serve_name (omega arith)
    (All-weaker (λ byte. nat_le 32 byte ≡ true) (λ byte. 32 ≤ byte) (λ byte passes. leb-true 32 byte passes) serve_name (AllPass-from_list_all (λ byte. nat_le 32 byte) serve_name refl))

-- a text behind another one
two : (old new : Option (List ℕ)) (first second : List ℕ) → new ≡ append_known old (first ++ second) → new ≡ append_known (append_known old first) second
two old new first second added = added ∙ sym (append_known-append old first second)

none_added : (old new : Option (List ℕ)) → new ≡ append_known old [] → new ≡ old
none_added old new added = added ∙ append_known-nil old

same_quiet : (old new : Option (List ℕ)) → new ≡ append_known old [] → AddsQuiet old new
same_quiet old new added = subst (λ (n : Option (List ℕ)). AddsQuiet old n) (sym (none_added old new added)) (adds_quiet_none old)

refused_adds : (line : ℕ) (refused : Option Refusal) (old new : Option (List ℕ)) → new ≡ append_known old (refused_text line refused) → AddsQuiet old new
refused_adds line None old new added = same_quiet old new added
refused_adds line (Some refusal) old new added = adds_refusal old new line (of_unit serve_name refusal.number) refusal.cause name_in_line added

end_adds : (line : ℕ) (end : Option RouterEnd) (old new : Option (List ℕ)) → new ≡ append_known old (end_text line end) → AddsQuiet old new
end_adds line None old new added = same_quiet old new added
end_adds line (Some Lost) old new added = λ faults. adds_end old new line serve_name FeedLost faults faults name_in_line (omega arith) (λ e. let never : ⊥ = cc in absurd never) added
end_adds line (Some Short) old new added = λ faults. adds_end old new line serve_name FeedShort faults faults name_in_line (omega arith) (λ e. let never : ⊥ = cc in absurd never) added

outcome_adds : (line : ℕ) (out : Outcome) (old new : Option (List ℕ)) → new ≡ append_known old (outcome_text line out) → AddsQuiet old new
outcome_adds line out old new added =
    quiet_more old (append_known old (refused_text line out.refused)) new (refused_adds line out.refused old _ refl)
    (end_adds line out.end _ new (two old new (refused_text line out.refused) (end_text line out.end) added))

-- what came of routers
pub outcomes_add : (line : ℕ) (outcomes : List Outcome) (old new : Option (List ℕ)) → new ≡ append_known old (outcomes_text line outcomes) → AddsQuiet old new
outcomes_add line [] old new added = same_quiet old new added
outcomes_add line (out ∷ more) old new added =
    quiet_more old (append_known old (outcome_text line out)) new (outcome_adds line out old _ refl)
    (outcomes_add line more _ new (two old new (outcome_text line out) (outcomes_text line more) added))

reached_adds : (line : ℕ) (reached : Bool) (old new : Option (List ℕ)) (before now : ℕ) → before ≤ now → (reached ≡ false → Rose before now) → new ≡ append_known old (reached_text line reached) → AddsLines old new before now
reached_adds line true old new before now later rose added = adds_later old new before before now (same_quiet old new added before) later
reached_adds line false old new before now later rose added = adds_end old new line serve_name Unreachable before now name_in_line later (λ e. rose refl) added

-- and the attempt that failed
pub served_adds : (line : ℕ) (outcomes : List Outcome) (reached : Bool) (old new : Option (List ℕ)) (before now : ℕ) → before ≤ now → (reached ≡ false → Rose before now) → new ≡ append_known old (routers_text line outcomes reached)
    → AddsLines old new before now
served_adds line outcomes reached old new before now later rose added =
    adds_more old (append_known old (outcomes_text line outcomes)) new before before now (outcomes_add line outcomes old _ refl before)
    (reached_adds line reached _ new before now later rose (two old new (outcomes_text line outcomes) (reached_text line reached) added))
