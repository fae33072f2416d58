-- The counter's ledger is opened on the blank that is passed.
use Rattle.stated_workload.proofs.performing.perform.Given as goal

abbrev pub ghosts-text_of : goal.ghosts-text_of
ghosts-text_of a opened = record { name = opened.blank.name; parts = opened.blank.parts }
