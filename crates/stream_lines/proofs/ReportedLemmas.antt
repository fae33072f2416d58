-- The lines of units say of no feed that its place wasn't to be had.
use Rattle.std.proofs.Common.{◌≡◌, ℕ, List, ◌++◌, sym, ap, subst, ◌∙◌}
use Rattle.std.specs.Io.KnownBytes.{append_known}
use Rattle.std.specs.declared.option.Option.{Option}
use Rattle.av_base.proofs.ToldLemmas.{append_known-append}
use Rattle.av_text.specs.Spellings.{IsInLine}
use Rattle.report_text.specs.declared.cause.Cause.{Cause}
use Rattle.report_text.specs.Refusals.{of_unit, refusal_text}
use Rattle.report_text.specs.Reported.{AddsQuiet}
use Rattle.report_text.proofs.ReportedLemmas.{adds_quiet_none, adds_refusal, quiet_more}

-- nothing more is held
pub none_reported : (written : Option (List ℕ)) (text_old text_new : List ℕ) → text_new ≡ text_old → AddsQuiet (append_known written text_old) (append_known written text_new)
none_reported written text_old text_new same =
    subst (λ (t : List ℕ). AddsQuiet (append_known written text_old) (append_known written t)) (sym same) (adds_quiet_none (append_known written text_old))

-- a unit's refusal is held
pub unit_reported : (written : Option (List ℕ)) (text_old text_new : List ℕ) (number : ℕ) (name : List ℕ) (unit : ℕ) (cause : Cause) → IsInLine name
    → text_new ≡ text_old ++ refusal_text number (of_unit name unit) cause → AddsQuiet (append_known written text_old) (append_known written text_new)
unit_reported written text_old text_new number name unit cause in_line held =
    let refusal = refusal_text number (of_unit name unit) cause in
    adds_refusal (append_known written text_old) (append_known written text_new) number (of_unit name unit) cause in_line
    (ap (append_known written) held ∙ sym (append_known-append written text_old refusal))

-- what is held was perhaps written
pub units_reported : (old new written : Option (List ℕ)) (text_old text_new : List ℕ) → AddsQuiet old (append_known written text_old)
    → AddsQuiet (append_known written text_old) (append_known written text_new) → new ≡ append_known written text_new → AddsQuiet old new
units_reported old new written text_old text_new so_far next same =
    quiet_more old (append_known written text_old) new so_far (subst (AddsQuiet (append_known written text_old)) (sym same) next)
