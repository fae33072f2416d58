-- What the steps of `attests` of one customer add; private contracts alone cite it.
use Rattle.std.specs.Prelude.{ℕ, List, [], ◌∷◌, map}
use Rattle.std.specs.FinMap as fin
use Rattle.std.specs.List.{flat_map}
use Rattle.std.specs.declared.option.Option.{Option}
use Rattle.path_model.specs.Authority.{has}
use Rattle.attestations.specs.ComputedTable.{table_of}
use Rattle.attestations.specs.CurrentTable.{Parts}
use Rattle.attestations.specs.Terms.{TermMap}
use Rattle.attestations.specs.declared.term.Term.{Term}
use Rattle.report_text.specs.Attested.{current_line, with_lf}
use Rattle.report_text.specs.declared.attested.LocalPart.{LocalPart}
use Rattle.report_text.specs.declared.attested.LocalPart.TheVariants.{Hand, Slurm}
use Rattle.listings.specs.AttestsOf.{asserted_lines, filtered_lines, source_lines, term_line}
use Rattle.listings.specs.declared.attests_of.LocalLine.{LocalLine}
use Rattle.listings.specs.declared.attests_of.LocalLine.TheVariants.{Asserted, Filtered, Row}

-- each attestation of a source its line
abbrev pub term_pieces : ℕ → List ℕ → List Term → List (List ℕ)
term_pieces moment name terms = map (λ term. with_lf (term_line moment name term)) terms

-- the lines of these sources
abbrev pub sources_text : ℕ → ℕ → List (List ℕ × TermMap) → List ℕ
sources_text moment customer sources = flat_map with_lf (flat_map (source_lines moment customer) sources)

-- what a local part asserts of the customer, and whom it filters out
abbrev pub assertion_of : Parts → ℕ → LocalPart → Option (List ℕ)
assertion_of parts customer Slurm = fin.get parts.slurm_assertions customer
assertion_of parts customer Hand = fin.get parts.assertions customer

abbrev pub filters_of : Parts → LocalPart → List ℕ
filters_of parts Slurm = parts.slurm_filters
filters_of parts Hand = parts.filters

-- one of the lines behind the sources, or none
abbrev pub lines_at : Parts → ℕ → LocalLine → List (List ℕ)
lines_at parts customer (Asserted part) = asserted_lines part (assertion_of parts customer part)
lines_at parts customer (Filtered part) = filtered_lines part (has (filters_of parts part) customer)
lines_at parts customer Row = current_line (table_of parts customer) ∷ []

-- its text
abbrev pub text_at : Parts → ℕ → LocalLine → List ℕ
text_at parts customer line = flat_map with_lf (lines_at parts customer line)
