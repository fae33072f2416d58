-- What a change of what attests makes of a state.
use Rattle.std.specs.Prelude.{◌≡◌}
use Rattle.attestations.specs.CurrentTable.{Parts}
use Rattle.vap_table.specs.declared.change.TableChange.{TableChange}
use Rattle.vap_table.specs.Change.{Alters}
use Rattle.rib_store.specs.State.{State}

-- the parts are altered, and all else stays
abbrev pub IsAltered : State → TableChange → State → Type 0
IsAltered old change new = (parts : Parts) × Alters old.parts change parts × (new ≡ record old { parts = parts })
