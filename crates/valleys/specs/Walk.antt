-- A walk along a chain past its hops, and the valleys that it has found. Private contracts alone cite it.
use Rattle.std.specs.Prelude.{◌≡◌, ◌↔◌, ℕ, ◌-◌, ◌<◌, ⊤, List, [], ◌∷◌, length, slice_index}
use Rattle.std.specs.List.{Contains}
use Rattle.std.specs.declared.option.Option.{Option}
use Rattle.std.specs.declared.option.Option.TheVariants.{Some, None}
use Rattle.path_model.specs.declared.authority.Authority.{Authority}
use Rattle.path_model.specs.declared.authority.Authority.TheVariants.{Silent, Refuses, Provides}
use Rattle.path_model.specs.declared.role.Direction.{Direction}
use Rattle.path_model.specs.declared.role.Direction.TheVariants.{Up, Down}
use Rattle.path_model.specs.Authority.{Table, authority_of}
use Rattle.path_model.specs.Labelling.{RefusesToDescend}
use Rattle.path_model.specs.Witness.{IsHop}
use Rattle.valleys.specs.declared.valley.Valley.{Valley}
use Rattle.valleys.specs.Valleys.{IsOpenUntil, ases_of}

-- what the lower AS of a hop attests of the upper one
abbrev pub climb_at : Table → List ℕ → ℕ → Authority
climb_at table chain hop = authority_of table (slice_index chain (hop - 1)) (slice_index chain hop)

-- what the upper AS of a hop attests of the lower one
abbrev pub descent_at : Table → List ℕ → ℕ → Authority
descent_at table chain hop = authority_of table (slice_index chain hop) (slice_index chain (hop - 1))

-- the open hop, if there is one, stands before this one
abbrev pub IsBehind : Option ℕ → ℕ → Type 0
IsBehind None hop = ⊤
IsBehind (Some opened) hop = (0 < opened) × (opened < hop)

-- the valley from the open hop to this one
abbrev pub closed : List ℕ → Option ℕ → ℕ → List Valley
closed chain None hop = []
closed chain (Some opened) hop = ases_of chain opened hop ∷ []

-- upstream the export to us ends the valley of the open hop
abbrev pub exported : Direction → List ℕ → Option ℕ → List Valley
exported Up chain opened = closed chain opened (length chain)
exported Down chain opened = []

-- where the hop refuses to descend
abbrev pub closed_by : Authority → List ℕ → Option ℕ → ℕ → List Valley
closed_by Refuses chain opened hop = closed chain opened hop
closed_by Silent chain opened hop = []
closed_by Provides chain opened hop = []

-- a hop that refuses to descend leaves none open
abbrev pub still_open : Authority → Option ℕ → Option ℕ
still_open Refuses opened = None
still_open Silent opened = opened
still_open Provides opened = opened

-- a hop that refuses to climb is the open one from then on
abbrev pub opened_by : Authority → ℕ → Option ℕ → Option ℕ
opened_by Refuses hop opened = Some hop
opened_by Silent hop opened = opened
opened_by Provides hop opened = opened

-- some valley that ends at a hop of the chain below this one has these ASes
pub record HasValleyBelow (table : Table) (chain : List ℕ) (hop : ℕ) (valley : Valley) : Type 0 where
  pub i : ℕ
  pub j : ℕ
  pub below : j < hop
  pub opened : IsOpenUntil table chain i j
  pub ends : IsHop chain (RefusesToDescend table chain) j
  pub ases : valley ≡ ases_of chain i j

-- all hops below this one were passed: which is open, if one is, and the valleys that were found
pub record IsPassed (table : Table) (chain : List ℕ) (hop : ℕ) (opened : Option ℕ) (found : List Valley) : Type 0 where
  pub is_open : (i : ℕ) → (opened ≡ Some i) ↔ IsOpenUntil table chain i hop
  pub valleys : (valley : Valley) → Contains found valley ↔ HasValleyBelow table chain hop valley
