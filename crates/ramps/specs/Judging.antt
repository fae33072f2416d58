-- How a witness is come by. Private contracts alone cite it.
use Rattle.std.specs.Prelude.{◌≡◌, ℕ}
use Rattle.path_model.specs.declared.role.Role.{Role}
use Rattle.path_model.specs.declared.role.Direction.TheVariants.{Up, Down}
use Rattle.path_model.specs.declared.witness.Witness.{Witness}
use Rattle.path_model.specs.Authority.{Table}
use Rattle.path_model.specs.Trail.{Path}
use Rattle.path_model.specs.Witness.{shown_by}
use Rattle.path_model.specs.PrintedWitness.{IsPrinted}
use Rattle.path_model.specs.WitnessByRamps.{witness_by_ramps}
use Rattle.ramps.specs.declared.walk.Ramps.{Ramps}
use Rattle.ramps.specs.Walk.{joined}

-- the witness is printed whatever is attested
abbrev pub IsPrintedByEach : Role → ℕ → Path → Witness → Type 0
IsPrintedByEach role neighbour path witness = (table : Table) → IsPrinted table role neighbour path (shown_by witness) witness

-- upstream the witness of n ASes comes from the up-ramps, whatever the down-ramps are
abbrev pub IsUpstream : ℕ → Ramps → Witness → Type 0
IsUpstream n up witness = (down : Ramps) → witness ≡ witness_by_ramps Up n (joined up down)

-- downstream it comes from all four
abbrev pub IsDownstream : ℕ → Ramps → Ramps → Witness → Type 0
IsDownstream n up down witness = witness ≡ witness_by_ramps Down n (joined up down)
