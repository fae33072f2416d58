-- What a judgement says.
use Rattle.path_model.specs.declared.verdict.Verdict.{Verdict}
use Rattle.path_model.specs.declared.witness.Witness.{Witness}
use Rattle.path_model.specs.Witness.{shown_by}

-- a verdict and a witness of it
pub record Judgement : Type 0 where
  pub verdict : Verdict
  pub witness : Witness

-- the judgement by a witness
abbrev pub judgement : Witness → Judgement
judgement witness = record { verdict = shown_by witness; witness = witness }
