use Rattle.std.proofs.Common.{List, ℕ, subst, arith}
use Rattle.hop_index.specs.Loose.{SetsChain}
use Rattle.hop_index.proofs.CompactLemmas.{none_put, one_put, all_put}
use Rattle.hop_index.proofs.loose.Loose.compacted.Goals as goal

pub loop-case-init : goal.loop-case-init
loop-case-init c = none_put c.args.self.now c.new-loose.result c.new-loose.ensures

pub loop-case-preserved : goal.loop-case-preserved
loop-case-preserved c =
    one_put c.args.self.now c.loop-case.case c.loop-case.loose c.put.new.self c.loop-case.invariant
    (subst (λ (chain : List ℕ). SetsChain c.loop-case.loose c.loop-case.case chain c.put.new.self) c.get.ensures c.in_ok-put.ensures.set) c.in_ok-put.ensures.longer

pub returns : goal.returns
returns c = all_put c.args.self.now c.loop-case.case c.loop-case.loose (omega (arith, c.loop-case-test.false, c.len-case-end.ensures)) c.loop-case.invariant
