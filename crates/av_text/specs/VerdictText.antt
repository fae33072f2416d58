-- How a verdict is written.
use Rattle.std.specs.Prelude.{ℕ, List, codes}
use Rattle.path_model.specs.declared.verdict.Verdict.{Verdict}
use Rattle.path_model.specs.declared.verdict.Verdict.TheVariants.{Valid, Unknown, Invalid}

-- the one spelling of a verdict
abbrev pub verdict_text : Verdict → List ℕ
verdict_text Valid = codes "valid"
verdict_text Unknown = codes "unknown"
verdict_text Invalid = codes "invalid"
