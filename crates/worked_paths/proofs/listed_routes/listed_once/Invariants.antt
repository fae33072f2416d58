-- The counter's ledger is opened on the blank that is passed.
use Rattle.worked_paths.proofs.listed_routes.listed_once.Given as goal

abbrev pub ghosts-listed_by : goal.ghosts-listed_by
ghosts-listed_by a = record { name = a.blank.name; parts = a.blank.parts }
