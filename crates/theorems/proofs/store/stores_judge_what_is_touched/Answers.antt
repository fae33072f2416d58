use Rattle.theorems.proofs.JudgedLemmas.{in_order, judges_what_is_touched}
use Rattle.theorems.proofs.store.stores_judge_what_is_touched.Goals as goal

pub returns-clause-in_order : goal.returns-clause-in_order
returns-clause-in_order c =
    in_order c.args.store.now.state c.args.store.now.cases _ c.cases_are_those_of_the_routes.ensures c.cases_count_their_routes.ensures c.index.ensures

pub returns-clause-touched : goal.returns-clause-touched
returns-clause-touched c = judges_what_is_touched
