use Rattle.hop_index.proofs.LooseLemmas.{loose_exact, loose_rise}
use Rattle.hop_index.proofs.loose_between.LooseBetween.new.Goals as goal

pub returns-clause-exact : goal.returns-clause-exact
returns-clause-exact c = λ n. loose_exact c.args.x c.args.y n c.args.loose.now

pub returns-clause-rising : goal.returns-clause-rising
returns-clause-rising c = loose_rise c.args.x c.args.y c.args.loose.now
