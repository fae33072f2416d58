use Rattle.std.specs.FinMap as fin
use Rattle.rib_store.specs.Trails.{trails_left}
use Rattle.analyser.proofs.DepartureLemmas.{AreGoing, peers_of}
use Rattle.analyser.proofs.departures.departures.Given as goal

-- the peers that went and those of the routes that are left are all
abbrev pub invariant-loop-key : goal.invariant-loop-key
invariant-loop-key l = AreGoing l.changes l.last (peers_of (trails_left l.key-iterator)) (peers_of (fin.entries l.store.state.routes))
