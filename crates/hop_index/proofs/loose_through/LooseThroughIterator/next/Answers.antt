use Rattle.std.proofs.Common.{sym, ◌∙◌, arith}
use Rattle.hop_index.proofs.BesideLemmas.{ends_done, ends_next, fewer_left}
use Rattle.hop_index.proofs.loose_through.LooseThroughIterator.next.Goals as goal

pub returns-in-None-clause-steps : goal.returns-in-None-clause-steps
returns-in-None-clause-steps c = (
  sym c.loop-case.invariant
      ∙ ends_done c.loop-case.self.x c.loop-case.self.loose.now c.loop-case.self.from c.loop-case.self.y c.loop-case.self.cases c.in_default.ensures.steps.0 c.in-None.ensures,
  ends_done c.loop-case.self.x c.loop-case.self.loose.now c.loop-case.self.from c.loop-case.self.y c.next.new.self c.in_default.ensures.steps.1 c.in-None.ensures,
)

pub loop-case-smaller : goal.loop-case-smaller
loop-case-smaller c =
    fewer_left c.loop-case.self.x c.loop-case.self.loose.now c.loop-case.self.from c.in-Some-least_beside.y _ c.in-Some-least_beside.ensures (omega (arith, c.from.ensures))

pub loop-case-preserved : goal.loop-case-preserved
loop-case-preserved c =
    ends_next c.loop-case.self.x c.loop-case.self.loose.now c.loop-case.self.from c.loop-case.self.y c.in-Some-least_beside.y _ c.loop-case.self.cases c.new-self.result
    c.in_default.ensures.steps.0 c.in-Some-least_beside.ensures c.new-self.ensures.whole (omega (arith, c.from.ensures))
    ∙ c.loop-case.invariant
