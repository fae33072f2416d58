-- A member, or another in its place.
use Rattle.std.proofs.Common.{Option, Some, None}
use Rattle.std.specs.Option.{option_or}
use Rattle.serde_json.specs.Data.{Data}
use Rattle.json_fields.specs.Each.{IfThere}

module _ {A : Type 0} (R : Data → A → Type 0) where
  pub first_other : (o p : Option Data) → ((a : Option A) → IfThere R o a → ⊥) → (a : A) → IfThere R (option_or o p) (Some a) → ⊥
  first_other None p none a h = none None tt
  first_other (Some d) p none a h = none (Some a) h
