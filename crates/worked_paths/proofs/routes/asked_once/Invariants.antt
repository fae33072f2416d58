-- The counter's ledger is opened on the blank that is passed.
use Rattle.worked_paths.proofs.routes.asked_once.Given as goal

abbrev pub ghosts-asked : goal.ghosts-asked
ghosts-asked a = record { name = a.blank.name; parts = a.blank.parts }
