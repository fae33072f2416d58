use Rattle.std.proofs.Common.{arith, ap, sym, subst, ◌∙◌, ◌/◌, ◌+◌, ◌<◌, length}
use Rattle.std.specs.List.{insert}
use Rattle.sorted_map.specs.Chunk.{BeginsWith}
use Rattle.sorted_map.specs.Joined.{joined}
use Rattle.sorted_map.proofs.FirstLemmas.{still, begins_taken}
use Rattle.sorted_map.proofs.StepLemmas.{halved_same}
use Rattle.sorted_map.proofs.chunks.Chunks.halve.Goals as goal

pub invariant_of-self : goal.invariant_of-self
invariant_of-self g c =
    still c.self-2.inside.firsts.items c.self-2.inside.list.items c.args.at c.index_mut.result.now c.truncate.new.self c.self-2.invariant c.index_mut.ensures.value
    (λ k begins. subst (BeginsWith k) (sym c.truncate.ensures) (begins_taken (c.len-len.result / 2) c.index_mut.result.now (omega (arith, c.if-len-lt2.false)) k begins))

pub returns-clause-same : goal.returns-clause-same
returns-clause-same g c = halved_same c.self.inside.list.items c.args.at (c.args.at + 1) (c.len-len.result / 2) c.index-2.result.now c.in_ok-upper.upper c.index_mut.result.now c.truncate.new.self c.self-2.inside.list.items
    (subst (λ cs. c.args.at < length cs) (sym c.self.view_is) c.requires) (omega arith) c.index-2.ensures c.in_ok-upper.ensures
    (c.self-2.view_is ∙ c.in_ok-insert_chunk.ensures.inserted ∙ ap (λ cs. insert cs (c.args.at + 1) c.in_ok-upper.upper) (sym c.self.view_is)) c.index_mut.ensures.value c.truncate.ensures
    ∙ ap joined c.self.view_is
