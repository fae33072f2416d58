use Rattle.std.proofs.lemmas.List.Sorted.{answers_always}
use Rattle.std.proofs.Common.{rules, tests, ltb}
use Rattle.aspa_payload.proofs.ReadingLemmas.{ascends}
use Rattle.aspa_payload.proofs.payload.is_ascending.Goals as goal

pub returns : goal.returns
returns c = ascends c.args.asns.now c.is_sorted_by.result (c.is_sorted_by.ensures.cases ltb (answers_always _ _ _ (λ f a r f' k. search (rules, tests))))
