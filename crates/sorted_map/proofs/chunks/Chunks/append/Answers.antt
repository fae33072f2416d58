use Rattle.std.proofs.Common.{◌++◌, ◌∷◌, [], ◌∙◌, ap, arith}
use Rattle.std.proofs.lemmas.Result.{on_ok_weaker}
use Rattle.sorted_map.specs.Joined.{joined}
use Rattle.sorted_map.proofs.FirstLemmas.{still, begins_pushed}
use Rattle.sorted_map.proofs.StepLemmas.{joined_last}
use Rattle.sorted_map.proofs.chunks.Chunks.append.Goals as goal

pub invariant_of-self : goal.invariant_of-self
invariant_of-self g c =
    still c.self.inside.firsts.items c.self.inside.list.items _ c.index_mut.result.now c.push.new.self c.self.invariant c.index_mut.ensures.value
    (begins_pushed c.push.result c.index_mut.result.now c.push.new.self ((c.args.key, c.args.value) ∷ []) c.push.ensures.pushed c.push.ensures.same)

pub returns-then-len-lt-MOST-clause-appended : goal.returns-then-len-lt-MOST-clause-appended
returns-then-len-lt-MOST-clause-appended g c = on_ok_weaker c.push.result
    (λ pushed. joined_last c.self.inside.list.items _ c.index_mut.result.now c.push.new.self (c.args.key, c.args.value)
    (omega (arith, c.if-len-gt0.true, c.len-len.ensures, c.self.inside.list.ok)) (omega (arith, c.len-len.ensures, c.self.inside.list.ok)) c.index_mut.ensures.value pushed
    ∙ ap (λ cs. joined cs ++ (c.args.key, c.args.value) ∷ []) c.self.view_is)
    c.push.ensures.pushed
