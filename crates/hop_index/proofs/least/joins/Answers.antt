use Rattle.std.proofs.Common.{refl, sym, ◌∙◌, arith}
use Rattle.hop_index.proofs.LeastLemmas.{hop_there}
use Rattle.hop_index.proofs.least.joins.Goals as goal

pub returns-then-is_between : goal.returns-then-is_between
returns-then-is_between c =
    sym (hop_there c.loop-k.k c.args.chain.now c.args.x c.args.y _ _ (omega arith) c.loop-k-test.true refl refl (sym c.is_between.ensures ∙ c.if-is_between.true))
