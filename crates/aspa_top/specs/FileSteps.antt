-- What a file that a shelf tells comes to; private contracts alone cite it.
use Rattle.std.specs.Prelude.{◌≡◌, ℕ, List, []}
use Rattle.std.specs.declared.option.Option.{Option}
use Rattle.std.specs.declared.option.Option.TheVariants.{Some}
use Rattle.std.specs.declared.result.Result.{Result}
use Rattle.std.specs.declared.result.Result.TheVariants.{Ok, Err}
use Rattle.av_base.specs.Files.{Files}
use Rattle.path_model.specs.Rows.{RowMap}
use Rattle.attestations.specs.Terms.{TermMap, terms_of}
use Rattle.report_text.specs.declared.cause.Cause.{Cause}
use Rattle.aspa_payload.specs.declared.file.FileFault.{FileFault}
use Rattle.aspa_payload.specs.declared.file.FileFault.TheVariants.{Bad, NoMemory}
use Rattle.aspa_top.specs.Files.{ComesOf, Fails, Makes, of_source, payload_cause}
use Rattle.aspa_top.specs.declared.files.FileKind.{FileKind}
use Rattle.aspa_top.specs.declared.files.Outcome.{Outcome}
use Rattle.aspa_top.specs.declared.files.Outcome.TheVariants.{NoFile, Long, Flawed, Good}

-- what comes of the file of this name, where the shelf tells it
abbrev pub ComesTold : Option Files → FileKind → List ℕ → Outcome → Type 0
ComesTold files kind file outcome = (told : Files) → files ≡ Some told → ComesOf kind (told.named file) outcome

-- what comes of a file of these bytes, which is no longer than a file may be
abbrev pub Understands : FileKind → List ℕ → Outcome → Type 0
Understands kind bytes NoFile = ⊥
Understands kind bytes Long = ⊥
Understands kind bytes (Flawed flaw) = Fails kind bytes flaw
Understands kind bytes (Good made) = Makes kind bytes made

-- what comes of a payload file that is refused so
abbrev pub IsRefusedFor : FileFault → Outcome → Type 0
IsRefusedFor (Bad unit fault) outcome =
    (cause : Cause) × (payload_cause fault ≡ Some cause) × (outcome ≡ Flawed (record { unit = unit; cause = cause }))
IsRefusedFor NoMemory outcome = ⊥

-- what comes of a payload file that reads so
abbrev pub IsTermsOutcome : List ℕ → Result TermMap FileFault → Outcome → Type 0
IsTermsOutcome name (Ok terms) outcome = outcome ≡ Good (of_source name terms [])
IsTermsOutcome name (Err fault) outcome = IsRefusedFor fault outcome

-- the same of one whose rows never end
abbrev pub IsRowsOutcome : List ℕ → Result RowMap FileFault → Outcome → Type 0
IsRowsOutcome name (Ok rows) outcome = IsTermsOutcome name (Ok (terms_of rows)) outcome
IsRowsOutcome name (Err fault) outcome = IsRefusedFor fault outcome
