-- The line that says what two neighbouring ASes attest of each other, and how many routes went between them.
use Rattle.std.specs.Prelude.{ℕ, List, [], ◌∷◌, ◌++◌, codes, decimal}
use Rattle.report_text.specs.declared.neighbour.Neighbour.{Neighbour}
use Rattle.report_text.specs.AuthorityText.{attested_part}

-- the AS and the one beside it, with one space between them
abbrev pub both_part : Neighbour → List ℕ
both_part neighbour = decimal neighbour.asn ++ 32 ∷ decimal neighbour.neighbour

-- how many routes went to it, and how many came from it
abbrev pub went_part : Neighbour → List ℕ
went_part neighbour = codes " to " ++ decimal neighbour.to ++ codes " from " ++ decimal neighbour.from

-- all of this with what each attests of the other one, without the line feed
abbrev pub neighbour_line : Neighbour → List ℕ
neighbour_line neighbour = both_part neighbour ++ attested_part neighbour.climb neighbour.descend ++ went_part neighbour

-- and with it
abbrev pub neighbour_text : Neighbour → List ℕ
neighbour_text neighbour = neighbour_line neighbour ++ 10 ∷ []
