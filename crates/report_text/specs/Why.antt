-- The line that says why a path has its verdict.
use Rattle.std.specs.Prelude.{ℕ, List, [], ◌∷◌, ◌++◌, codes, decimal}
use Rattle.std.specs.declared.option.Option.{Option}
use Rattle.std.specs.declared.option.Option.TheVariants.{Some, None}
use Rattle.path_model.specs.declared.verdict.Verdict.{Verdict}
use Rattle.path_model.specs.declared.witness.Witness.{Witness}
use Rattle.path_model.specs.declared.witness.Witness.TheVariants.{Valid, Empty, Set, Neighbour, Blocked, Unsettled}
use Rattle.av_text.specs.VerdictText.{verdict_text}

-- the first hop, and the last one where there is one
abbrev pub hops_text : ℕ → Option ℕ → List ℕ
hops_text first None = decimal first
hops_text first (Some last) = decimal first ++ 32 ∷ decimal last

-- how many hops climb, are free and descend
abbrev pub labelling_text : ℕ → ℕ → ℕ → List ℕ
labelling_text climbs free descents =
    codes "climbs " ++ decimal climbs ++ codes " free " ++ decimal free ++ codes " descents " ++ decimal descents

-- a witness's kind and its numbers
abbrev pub witness_text : Witness → List ℕ
witness_text (Valid climbs free descents) = labelling_text climbs free descents
witness_text Empty = codes "empty"
witness_text Set = codes "set"
witness_text Neighbour = codes "neighbour"
witness_text (Blocked first last) = codes "blocked " ++ hops_text first last
witness_text (Unsettled first last climbs free descents) =
    codes "unsettled " ++ hops_text first last ++ 32 ∷ labelling_text climbs free descents

-- the verdict and its witness, with one space between them, without the line feed
abbrev pub why_line : Verdict → Witness → List ℕ
why_line verdict witness = verdict_text verdict ++ 32 ∷ witness_text witness

-- and with it
abbrev pub why_text : Verdict → Witness → List ℕ
why_text verdict witness = why_line verdict witness ++ 10 ∷ []
