use Rattle.rib_store.proofs.routing.judged_anew.Goals as goal

pub returns : goal.returns
returns c = record {
  same = λ i. record {
    routes = c.args.routes;
    cases = c.args.cases;
    marks = record {
      is_marked = c.defer.ensures.same i;
      notes = c.defer.ensures.notes i;
      pending = c.defer.new.self.pending;
      keys = c.defer.ensures.keys i;
    };
  };
  deferred = c.in_ok-defer.ensures.deferred;
}
