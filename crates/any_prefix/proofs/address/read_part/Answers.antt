use Rattle.std.proofs.Common.{arith}
use Rattle.any_prefix.specs.Reading.{IsNoFilledRun, IsNoRun}
use Rattle.any_prefix.proofs.RunLemmas.{full_run}
use Rattle.any_prefix.proofs.TextLemmas.{none_gives}
use Rattle.any_prefix.proofs.address.read_part.Goals as goal

pub returns-clause-none : goal.returns-clause-none
returns-clause-none c = none_gives c.read_run.result (IsNoFilledRun c.args.last c.args.text.now c.args.most) (IsNoRun c.args.last c.args.text.now c.args.most)
    (λ none groups run few. none groups run (full_run c.args.last c.args.text.now groups (omega arith) run) few) c.read_run.ensures.none
