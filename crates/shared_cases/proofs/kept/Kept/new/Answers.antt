use Rattle.shared_cases.proofs.FitLemmas.{fit_none}
use Rattle.shared_cases.proofs.kept.Kept.new.Goals as goal

pub returns : goal.returns
returns c = fit_none (record {
  names = c.new.result;
  index = c.unlisted.result;
  peers = c.new-2.result;
  totals = c.none.result;
  verdicts = c.new-3.result;
  differed = c.new-4.result;
})
    c.new.ensures.words c.new.ensures.twins c.unlisted.ensures c.new-2.ensures c.none.ensures c.new-3.ensures
