use Rattle.std.proofs.Common.{ap, ◌∙◌}
use Rattle.std.specs.Option.{is_some, option_map}
use Rattle.shared_cases.specs.Cases.{at}
use Rattle.rib_store.specs.Cased.{path_or}
use Rattle.rib_store.proofs.CasedLemmas.{get_through, is_some_map}
use Rattle.rib_store.proofs.routing.Routing.one_of.Goals as goal

pub returns-in-None-clause-none : goal.returns-in-None-clause-none
returns-in-None-clause-none c = λ key of_peer. get_through path_or c.args.self.now.cases c.args.self.now.routes key
    ∙ ap (option_map (λ n. path_or (at c.args.self.now.cases n))) (c.in-None.ensures.none key of_peer)

pub returns-in-Some-clause-some : goal.returns-in-Some-clause-some
returns-in-Some-clause-some c = record {
  of_peer = c.in-Some.ensures.some.of_peer;
  route = ap is_some (get_through path_or c.args.self.now.cases c.args.self.now.routes c.in-Some.key)
      ∙ is_some_map (λ n. path_or (at c.args.self.now.cases n)) _ ∙ c.in-Some.ensures.some.route;
}
