-- The counter's ledger is opened on the blank that is passed.
use Rattle.aspaview.proofs.main.Given as goal

abbrev pub ghosts-perform : goal.ghosts-perform
ghosts-perform a = record { name = a.blank.name; parts = a.blank.parts }
