-- The counter's ledger is opened on the blank that is passed.
use Rattle.worked_paths.proofs.quiet_moments.replayed_once.Given as goal

abbrev pub ghosts-replayed : goal.ghosts-replayed
ghosts-replayed a = record { name = a.blank.name; parts = a.blank.parts }
