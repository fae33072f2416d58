use Rattle.std.proofs.Common.{nat_eq, ◌&&◌}
use Rattle.hop_index.proofs.least.least_of.Goals as goal

pub returns : goal.returns
returns c = c.lesser.ensures
    (λ y. nat_eq c.args.x c.args.lower && nat_eq y c.args.upper) (λ y. nat_eq c.args.x c.args.upper && nat_eq y c.args.lower)
    c.args.from c.one_of.ensures c.one_of-2.ensures
