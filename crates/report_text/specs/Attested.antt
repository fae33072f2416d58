-- The lines that say where the row of a customer comes from.
use Rattle.std.specs.Prelude.{ℕ, Bool, true, false, List, [], ◌∷◌, ◌++◌, codes, decimal}
use Rattle.std.specs.declared.option.Option.{Option}
use Rattle.std.specs.declared.option.Option.TheVariants.{Some, None}
use Rattle.report_text.specs.declared.attested.LocalPart.{LocalPart}
use Rattle.report_text.specs.declared.attested.LocalPart.TheVariants.{Slurm, Hand}
use Rattle.report_text.specs.Assertions.{named}
use Rattle.report_text.specs.Details.{ases_text}

-- until when an attestation is alive, behind a space; nothing where it never ends
abbrev pub until_text : Option ℕ → List ℕ
until_text None = []
until_text (Some moment) = codes " until " ++ decimal moment

-- that it isn't alive, behind a space
abbrev pub ended_text : Bool → List ℕ
ended_text false = []
ended_text true = codes " ended"

-- what a source attests: its name, until when, the providers and whether that has ended, without the line feed
abbrev pub source_line : List ℕ → Option ℕ → List ℕ → Bool → List ℕ
source_line name until providers ended =
    codes "source " ++ name ++ until_text until ++ ases_text (named providers) ++ ended_text ended

-- a local part: a SLURM file's, or what is said by hand
abbrev pub part_text : LocalPart → List ℕ
part_text Slurm = codes "slurm"
part_text Hand = codes "hand"

-- what it asserts
abbrev pub asserted_line : LocalPart → List ℕ → List ℕ
asserted_line part providers = part_text part ++ ases_text (named providers)

-- that it filters the customer out
abbrev pub filtered_line : LocalPart → List ℕ
filtered_line part = codes "filtered " ++ part_text part

-- the current row, or that there is none
abbrev pub current_line : Option (List ℕ) → List ℕ
current_line None = codes "row none"
current_line (Some row) = codes "row" ++ ases_text (named row)

-- a line with its line feed
abbrev pub with_lf : List ℕ → List ℕ
with_lf line = line ++ 10 ∷ []
