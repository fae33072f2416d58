use Rattle.listings.proofs.SummaryLemmas.{some_summary, one_summary}
use Rattle.listings.proofs.laws.each_state_has_one_summary.Goals as goal

pub returns : goal.returns
returns c = λ state passed refused. record {
  one = (some_summary state passed refused).0;
  is = (some_summary state passed refused).1;
  only = λ other is. one_summary state passed refused other (some_summary state passed refused).0 is (some_summary state passed refused).1;
}
