-- The text that says where the row of one customer comes from.
use Rattle.std.specs.Prelude.{◌≡◌, ℕ, nat_le, Bool, true, false, not, ◌&&◌, List, [], ◌∷◌, ◌++◌, length, map, filter}
use Rattle.std.specs.FinMap as fin
use Rattle.std.specs.List.{flat_map, list_all}
use Rattle.std.specs.declared.option.Option.{Option}
use Rattle.std.specs.declared.option.Option.TheVariants.{Some, None}
use Rattle.path_model.specs.Authority.{Table, has}
use Rattle.path_model.specs.Name.{is_name_byte}
use Rattle.attestations.specs.CurrentTable.{IsCurrentTable, Parts}
use Rattle.attestations.specs.Terms.{TermMap, is_alive, members, terms_or_none}
use Rattle.attestations.specs.declared.term.Term.{Term}
use Rattle.report_text.specs.Attested.{asserted_line, current_line, filtered_line, source_line}
use Rattle.report_text.specs.declared.attested.LocalPart.{LocalPart}
use Rattle.report_text.specs.declared.attested.LocalPart.TheVariants.{Hand, Slurm}

-- what an attestation of a source says, and whether it has ended at the moment
abbrev pub term_line : ℕ → List ℕ → Term → List ℕ
term_line moment name term = source_line name term.until term.providers (not (is_alive moment term.until))

-- all that a source attests of the customer, in the order of attestations
abbrev pub source_lines : ℕ → ℕ → List ℕ × TermMap → List (List ℕ)
source_lines moment customer source = map (term_line moment source.0) (members (terms_or_none (fin.get source.1 customer)))

-- what a local part asserts of the customer, if it does
abbrev pub asserted_lines : LocalPart → Option (List ℕ) → List (List ℕ)
asserted_lines part None = []
asserted_lines part (Some providers) = asserted_line part providers ∷ []

-- that it filters the customer out, where it does
abbrev pub filtered_lines : LocalPart → Bool → List (List ℕ)
filtered_lines part false = []
filtered_lines part true = filtered_line part ∷ []

-- what the local parts say of the customer
abbrev pub local_lines : Parts → ℕ → List (List ℕ)
local_lines parts customer =
    asserted_lines Slurm (fin.get parts.slurm_assertions customer) ++ asserted_lines Hand (fin.get parts.assertions customer)
    ++ filtered_lines Slurm (has parts.slurm_filters customer) ++ filtered_lines Hand (has parts.filters customer)

-- a text is a name that a script can give
abbrev pub is_name : List ℕ → Bool
is_name text = nat_le 1 (length text) && nat_le (length text) 64 && list_all is_name_byte text

-- the sources that have one, as all have that a script makes
abbrev pub named_sources : List (List ℕ × TermMap) → List (List ℕ × TermMap)
named_sources sources = filter (λ source. is_name source.0) sources

-- What the sources attest of the customer, in their order, then what the local parts say of it, and last its row in the current table.
pub record AreAttestsOf (parts : Parts) (customer : ℕ) (lines : List (List ℕ)) : Type 0 where
  pub table : Table
  pub current : IsCurrentTable parts table
  pub listed : lines ≡ flat_map (source_lines parts.moment customer) (named_sources parts.sources) ++ local_lines parts customer
      ++ current_line (table customer) ∷ []
