use Rattle.std.proofs.Common.{ap, ◌∙◌}
use Rattle.std.specs.FinSet.{FinSet, insert}
use Rattle.path_model.specs.Key.{peer_cmp}
use Rattle.bmp_reader.proofs.PeerLemmas.{one_noted}
use Rattle.bmp_reader.proofs.peers.PathPeers.insert.Goals as goal

pub returns : goal.returns
returns c =
    one_noted c.self.inside.peers.keys c.insert.new.self.keys c.args.peer c.in_ok-insert.ensures.updates.0
    ∙ ap (λ (peers : FinSet peer_cmp). insert peers c.args.peer) c.self.view_is
