use Rattle.std.proofs.Common.{List, subst}
use Rattle.std.specs.FinMap as fin
use Rattle.path_model.specs.declared.key.Key.{Key}
use Rattle.path_model.specs.Trail.{Path}
use Rattle.analyser.proofs.DepartureLemmas.{AreGoing, all_went, departures_are, peers_of}
use Rattle.analyser.proofs.departures.departures.Goals as goal

pub returns : goal.returns
returns c = departures_are c.args.store.now.state.routes c.loop-key.changes (all_went c.loop-key.changes c.loop-key.last (peers_of (fin.entries c.args.store.now.state.routes))
    (subst (λ (es : List (Key × Path)). AreGoing c.loop-key.changes c.loop-key.last (peers_of es) (peers_of (fin.entries c.args.store.now.state.routes))) c.in-None.ensures.steps.0 c.loop-key.invariant))
