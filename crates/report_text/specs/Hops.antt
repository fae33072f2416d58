-- The line that says what the two ASes of a hop attest of each other.
use Rattle.std.specs.Prelude.{ℕ, List, [], ◌∷◌, ◌++◌, codes, decimal}
use Rattle.report_text.specs.declared.hop.Hop.{Hop}
use Rattle.report_text.specs.AuthorityText.{attested_part}

-- the hop's number, the AS nearer to the origin and the next one
abbrev pub joined_part : Hop → List ℕ
joined_part hop = codes "hop " ++ decimal hop.number ++ codes " " ++ decimal hop.from ++ codes " " ++ decimal hop.to

-- that, and what the two attest of each other, without the line feed
abbrev pub hop_line : Hop → List ℕ
hop_line hop = joined_part hop ++ attested_part hop.climb hop.descend

-- and with it
abbrev pub hop_text : Hop → List ℕ
hop_text hop = hop_line hop ++ 10 ∷ []
