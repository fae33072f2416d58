-- What a line adds to the text that is held, whatever the world tells. Private contracts alone cite it.
use Rattle.std.specs.Prelude.{ℕ, List}
use Rattle.std.specs.Io.KnownBytes.{append_known}
use Rattle.std.specs.declared.option.Option.{Option}
use Rattle.report_text.specs.Reported.{AddsLines, AddsQuiet}

-- whole lines, of which none says that a feed's place wasn't to be had
abbrev pub AddsText : List ℕ → List ℕ → Type 0
AddsText text_old text_new =
    (written : Option (List ℕ)) → AddsQuiet (append_known written text_old) (append_known written text_new)

-- whole lines, of which no more say so than a count of faults rose by
abbrev pub AddsEnds : List ℕ → List ℕ → ℕ → ℕ → Type 0
AddsEnds text_old text_new before now =
    (written : Option (List ℕ)) → AddsLines (append_known written text_old) (append_known written text_new) before now
