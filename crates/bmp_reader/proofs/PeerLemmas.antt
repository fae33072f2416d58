-- A set of peers by its keys.
use Rattle.std.proofs.Common.{◌≡◌, Bool, true, false, cond, not, ◌&&◌, ◌||◌, List, refl, sym, ◌∙◌}
use Rattle.std.specs.FinSet.{contains, insert, remove, from_list, contains-from_list, contains-insert, contains-remove, same_set}
use Rattle.std.specs.List.{list_any}
use Rattle.std.specs.Ordering.{eq_by_cmp}
use Rattle.std.specs.Cmp.{eq_by_cmp_equiv}
use Rattle.path_model.specs.declared.peer.Peer.{Peer}
use Rattle.path_model.specs.Key.{peer_cmp}
use Rattle.path_model.specs.Order.{peer_total}
use Rattle.path_model.proofs.OrderLemmas.{peer_exact}

-- whether the peer is among these
abbrev among : Peer → List Peer → Bool
among q peers = list_any (eq_by_cmp peer_cmp q) peers

either : (b x : Bool) → cond b true x ≡ (b || x)
either true x = refl
either false x = refl

neither : (b x : Bool) → cond b false x ≡ (not b && x)
neither true x = refl
neither false x = refl

turned : (k q : Peer) → eq_by_cmp peer_cmp k q ≡ eq_by_cmp peer_cmp q k
turned k q = (eq_by_cmp_equiv peer_total).symm k q

-- the peers with one more
pub one_noted : (olds news : List Peer) (k : Peer) → ((q : Peer) → among q news ≡ cond (eq_by_cmp peer_cmp k q) true (among q olds)) → from_list {R = peer_cmp} news ≡ insert (from_list olds) k
one_noted olds news k h = same_set peer_total peer_exact _ _ (λ q.
    contains-from_list peer_total news q ∙ h q ∙ either (eq_by_cmp peer_cmp k q) (among q olds)
    ∙ (λ i. turned k q i || sym (contains-from_list peer_total olds q) i) ∙ sym (contains-insert peer_total (from_list olds) k q))

-- the peers without one
pub one_gone : (olds news : List Peer) (k : Peer) → ((q : Peer) → among q news ≡ cond (eq_by_cmp peer_cmp k q) false (among q olds)) → from_list {R = peer_cmp} news ≡ remove (from_list olds) k
one_gone olds news k h = same_set peer_total peer_exact _ _ (λ q.
    contains-from_list peer_total news q ∙ h q ∙ neither (eq_by_cmp peer_cmp k q) (among q olds)
    ∙ (λ i. not (turned k q i) && sym (contains-from_list peer_total olds q) i) ∙ sym (contains-remove peer_total (from_list olds) k q))

-- whether a peer is in the set
pub has_among : (peers : List Peer) (q : Peer) → contains (from_list {R = peer_cmp} peers) q ≡ among q peers
has_among peers q = contains-from_list peer_total peers q
