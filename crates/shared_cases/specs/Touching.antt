-- How the touched cases are found. Private contracts alone cite it.
use Rattle.std.specs.Prelude.{◌≡◌, ⊤, ℕ, Bool, true, false, not, ◌&&◌, List, [], ◌∷◌, ◌⊎◌}
use Rattle.std.specs.declared.option.Option.{Option}
use Rattle.std.specs.declared.option.Option.TheVariants.{Some, None}
use Rattle.std.specs.List.{list_any}
use Rattle.std.specs.List.Sorted.{IsNonDecreasing}
use Rattle.path_model.specs.declared.authority.Authority.{Authority}
use Rattle.path_model.specs.declared.authority.Authority.TheVariants.{Silent, Refuses, Provides}
use Rattle.path_model.specs.Authority.{said_by, has}
use Rattle.hop_index.specs.Index.{Entries, has as hops_have}
use Rattle.attestations.specs.declared.moves.RowMove.{RowMove}

abbrev pub same_authority : Authority → Authority → Bool
same_authority Silent Silent = true
same_authority Silent Refuses = false
same_authority Silent Provides = false
same_authority Refuses Silent = false
same_authority Refuses Refuses = true
same_authority Refuses Provides = false
same_authority Provides Silent = false
same_authority Provides Refuses = false
same_authority Provides Provides = true

-- the customer attests another thing of y than before
abbrev pub differs : RowMove → ℕ → Bool
differs m y = not (same_authority (said_by m.before y) (said_by m.after y))

-- the row doesn't fall, if there is one
abbrev pub IsRisen : Option (List ℕ) → Type 0
IsRisen None = ⊤
IsRisen (Some row) = IsNonDecreasing row

-- the customer of the move has a hop of the case n to some y of which it attests another thing
abbrev pub IsTouchedAt : Entries → RowMove → ℕ → Type 0
IsTouchedAt index m n = (y : ℕ) × (hops_have index m.customer y n ≡ true) × (differs m y ≡ true)

-- the customer attests another thing of none but these
abbrev pub AreAllOf : List ℕ → RowMove → Type 0
AreAllOf asked m = (y : ℕ) → has asked y ≡ false → differs m y ≡ false

-- among these ASes is one of which the customer attests another thing, and the case n has a hop between the two
abbrev pub asks : Entries → RowMove → ℕ → List ℕ → Bool
asks index m n asked = list_any (λ y. differs m y && hops_have index m.customer y n) asked

-- so it is with one of the moves
abbrev pub IsTouchedBy : Entries → List RowMove → ℕ → Type 0
IsTouchedBy index [] n = ⊥
IsTouchedBy index (m ∷ ms) n = IsTouchedAt index m n ⊎ IsTouchedBy index ms n
