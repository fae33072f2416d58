use Rattle.std.proofs.Common.{sym, ◌∙◌}
use Rattle.sorted_map.specs.Joined.{joined}
use Rattle.sorted_map.proofs.JoinedLemmas.{below_lookup, below_put}
use Rattle.sorted_map.proofs.chunks.Chunks.put.Goals as goal

pub returns-then-are_below-clause-before : goal.returns-then-are_below-clause-before
returns-then-are_below-clause-before g c = sym (below_lookup g.met.K.Ord.total c.args.key (joined c.args.self.now) (c.are_below.ensures.below c.if-are_below.true))

pub returns-then-are_below-clause-put : goal.returns-then-are_below-clause-put
returns-then-are_below-clause-put g c = c.in_ok-append.ensures.appended
    ∙ below_put g.met.K.Ord.total c.args.key c.args.value (joined c.args.self.now) (c.are_below.ensures.below c.if-are_below.true)
