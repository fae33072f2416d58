-- The counter's ledger is opened on the blank that is passed.
use Rattle.worked_paths.proofs.judgements.judge_row.Given as goal

abbrev pub ghosts-judged : goal.ghosts-judged
ghosts-judged g a = record { name = a.blank.name; parts = a.blank.parts }
