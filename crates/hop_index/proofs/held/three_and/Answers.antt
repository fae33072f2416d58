use Rattle.hop_index.proofs.NumberLemmas.{first_again, second_again, third_again}
use Rattle.hop_index.proofs.held.three_and.Goals as goal
use Rattle.hop_index.proofs.held.three_and.Goals.{then-number-a-via-then-number-a, then-number-a-via-else-number-a+then-number-b, then-number-a-via-else-number-a+else-number-b+then-number-c}

pub returns-then-number-a : goal.returns-then-number-a
returns-then-number-a c = elim c.then-number-a.branch [
  | then-number-a-via-then-number-a w ↦ first_again c.args.a c.args.b c.args.c c.requires.rising c.args.number w.if-number-a.true
  | then-number-a-via-else-number-a+then-number-b w ↦ second_again c.args.a c.args.b c.args.c c.requires.rising c.args.number w.if-number-b.true
  | then-number-a-via-else-number-a+else-number-b+then-number-c w ↦ third_again c.args.a c.args.b c.args.c c.requires.rising c.args.number w.if-number-c.true
]
