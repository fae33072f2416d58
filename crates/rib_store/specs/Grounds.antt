-- What the judgements of a store rest on.
use Rattle.attestations.specs.ComputedTable.{table_of}
use Rattle.attestations.specs.CurrentTable.{Parts}
use Rattle.path_model.specs.Roles.{Relations}
use Rattle.shared_cases.specs.Grounds.{Grounds, by_table}

-- the current table of these parts, and these roles
abbrev pub grounds : Parts → Relations → Grounds
grounds parts relations = by_table (table_of parts) relations
