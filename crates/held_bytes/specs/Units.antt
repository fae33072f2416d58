-- Units of a stream, of whatever kind: `IsUnit bytes unit` says that the bytes, all of them, are this unit.
use Rattle.std.specs.Prelude.{◌≡◌, ℕ, List, [], ◌∷◌, ◌++◌}

-- The bytes begin with a spelling of the unit, and the rest follows.
pub record Begins {A : Type 0} (IsUnit : List ℕ → A → Type 0) (bytes : List ℕ) (unit : A) (rest : List ℕ) : Type 0 where
  pub front : List ℕ
  pub spelled : IsUnit front unit
  pub whole : bytes ≡ front ++ rest

-- no whole unit is in front
abbrev pub BeginsWithNone : {A : Type 0} → (List ℕ → A → Type 0) → List ℕ → Type 0
BeginsWithNone {A} IsUnit bytes = (unit : A) (rest : List ℕ) → Begins IsUnit bytes unit rest → ⊥

-- a stream is these units, one behind another, and a rest that begins with none
abbrev pub AreUnits : {A : Type 0} → (List ℕ → A → Type 0) → List ℕ → List A → List ℕ → Type 0
AreUnits IsUnit stream [] rest = (stream ≡ rest) × BeginsWithNone IsUnit rest
AreUnits IsUnit stream (unit ∷ units) rest = (left : List ℕ) × Begins IsUnit stream unit left × AreUnits IsUnit left units rest
