use Rattle.hop_index.proofs.BesideLemmas.{all_whole, all_only, all_rising}
use Rattle.hop_index.proofs.loose_neighbours.LooseNeighbours.new.Goals as goal

pub returns-clause-whole : goal.returns-clause-whole
returns-clause-whole c = λ y n. all_whole c.args.x c.args.loose.now y n

pub returns-clause-only : goal.returns-clause-only
returns-clause-only c = λ y. all_only c.args.x c.args.loose.now y

pub returns-clause-rising : goal.returns-clause-rising
returns-clause-rising c = all_rising c.args.x c.args.loose.now
