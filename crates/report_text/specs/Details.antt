-- The line that reports a route's verdict with what shows it and the path that was judged.
use Rattle.std.specs.Prelude.{ℕ, Bool, true, false, List, [], ◌∷◌, ◌++◌, codes, decimal, reverse}
use Rattle.std.specs.List.{flat_map}
use Rattle.path_model.specs.declared.key.Key.{Key}
use Rattle.path_model.specs.declared.verdict.Verdict.{Verdict}
use Rattle.path_model.specs.declared.witness.Witness.{Witness}
use Rattle.path_model.specs.Trail.{Path}
use Rattle.report_text.specs.Rows.{row_line}
use Rattle.report_text.specs.Why.{witness_text}

-- the word for an AS_SET, where the path has one (RFC 4271, section 4.3), behind a space
abbrev pub set_text : Bool → List ℕ
set_text false = []
set_text true = codes " set"

-- ASes, each behind a space
abbrev pub ases_text : List ℕ → List ℕ
ases_text ases = flat_map (λ asn. 32 ∷ decimal asn) ases

-- the path's word, and then its ASes without prepends, neighbour first
abbrev pub path_text : Path → List ℕ
path_text path = codes " path" ++ set_text path.set ++ ases_text (reverse path.chain)

-- the words of a row, and behind them a witness and a path
abbrev pub behind_row : List ℕ → Witness → Path → List ℕ
behind_row row witness path = row ++ 32 ∷ witness_text witness ++ path_text path

-- those of the route's row, without the line feed
abbrev pub detail_line : Key → Verdict → Witness → Path → List ℕ
detail_line key verdict witness path = behind_row (row_line key verdict) witness path

-- and with it
abbrev pub detail_text : Key → Verdict → Witness → Path → List ℕ
detail_text key verdict witness path = detail_line key verdict witness path ++ 10 ∷ []
