-- A payload at the end of a list.
use Rattle.std.specs.Prelude.{◌≡◌, ℕ, List, [], ◌++◌}
use Rattle.path_model.specs.Union.{Attestation}
use Rattle.aspa_payload.specs.Content.{AreIntegers}
use Rattle.aspa_payload.specs.Reading.{TakesPayload}

-- the payload of this attestation was appended
pub record PutsPayload (old new : List ℕ) (a : Attestation) : Type 0 where
  pub front : List ℕ
  pub is : TakesPayload front a []
  pub whole : new ≡ old ++ front

-- INTEGERs were appended (of a private function)
pub record PutsIntegers (old new numbers : List ℕ) : Type 0 where
  pub front : List ℕ
  pub are : AreIntegers front numbers
  pub whole : new ≡ old ++ front
