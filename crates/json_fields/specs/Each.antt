-- What stands for what, where there are many or maybe none.
use Rattle.std.specs.Prelude.{List, [], ◌∷◌}
use Rattle.std.specs.declared.option.Option.{Option}
use Rattle.std.specs.declared.option.Option.TheVariants.{Some, None}

-- the items of two lists, in order, stand in this relation
abbrev pub Each : {D A : Type 0} → (D → A → Type 0) → List D → List A → Type 0
Each R [] [] = Unit {0}
Each R [] (a ∷ more) = ⊥
Each R (d ∷ ds) [] = ⊥
Each R (d ∷ ds) (a ∷ more) = R d a × Each R ds more

-- both are there and stand so to one another, or neither is there
abbrev pub IfThere : {D A : Type 0} → (D → A → Type 0) → Option D → Option A → Type 0
IfThere R None None = Unit {0}
IfThere R None (Some a) = ⊥
IfThere R (Some d) None = ⊥
IfThere R (Some d) (Some a) = R d a
