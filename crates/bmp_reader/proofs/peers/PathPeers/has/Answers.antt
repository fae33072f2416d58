use Rattle.std.proofs.Common.{sym, ap, ◌∙◌}
use Rattle.std.specs.FinSet.{FinSet, contains}
use Rattle.path_model.specs.Key.{peer_cmp}
use Rattle.bmp_reader.proofs.PeerLemmas.{has_among}
use Rattle.bmp_reader.proofs.peers.PathPeers.has.Goals as goal

pub returns : goal.returns
returns c =
    c.contains.ensures
    ∙ sym (has_among c.self.inside.peers.keys c.args.peer.now)
    ∙ ap (λ (peers : FinSet peer_cmp). contains peers c.args.peer.now) c.self.view_is
