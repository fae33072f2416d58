use Rattle.hop_index.proofs.BesideLemmas.{all_exact, all_in_order}
use Rattle.hop_index.proofs.loose_through.LooseThrough.new.Goals as goal

pub returns-clause-exact : goal.returns-clause-exact
returns-clause-exact c = λ y n. rw c.none.ensures (all_exact c.args.x c.args.loose.now y n)

pub returns-clause-rising : goal.returns-clause-rising
returns-clause-rising c = rw c.none.ensures (all_in_order c.args.x c.args.loose.now)
