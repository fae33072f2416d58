use Rattle.std.proofs.Common.{ap, ◌∙◌}
use Rattle.std.specs.FinSet.{FinSet, remove}
use Rattle.path_model.specs.Key.{peer_cmp}
use Rattle.bmp_reader.proofs.PeerLemmas.{one_gone}
use Rattle.bmp_reader.proofs.peers.PathPeers.remove.Goals as goal

pub returns : goal.returns
returns c =
    one_gone c.self.inside.peers.keys c.remove.new.self.keys c.args.peer c.remove.ensures.updates.0
    ∙ ap (λ (peers : FinSet peer_cmp). remove peers c.args.peer) c.self.view_is
