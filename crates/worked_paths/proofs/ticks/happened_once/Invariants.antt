-- The counter's ledger is opened on the blank that is passed.
use Rattle.worked_paths.proofs.ticks.happened_once.Given as goal

abbrev pub ghosts-happened : goal.ghosts-happened
ghosts-happened a = record { name = a.blank.name; parts = a.blank.parts }
