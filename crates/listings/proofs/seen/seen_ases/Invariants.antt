use Rattle.std.proofs.Common.{ℕ, ◌≡◌, ◌&&◌, ◌||◌, is_some}
use Rattle.std.specs.FinMap as fin
use Rattle.path_model.specs.Authority.{has}
use Rattle.rib_store.specs.Rows.{peers_left}
use Rattle.listings.specs.EachPeer.{is_seen}
use Rattle.listings.proofs.seen.seen_ases.Given as goal

abbrev pub invariant-loop-peer : goal.invariant-loop-peer
invariant-loop-peer l = (a : ℕ) → ((is_some (fin.get l.fn.roles.set a) && is_seen (peers_left l.peer-iterator) a) || has l.seen.keys a)
    ≡ (is_some (fin.get l.fn.roles.set a) && is_seen (peers_left l.fn.peers) a)
