use Rattle.std.proofs.Common.{List, length, arith, ap, sym, subst}
use Rattle.path_model.specs.declared.key.Key.{Key}
use Rattle.path_model.specs.declared.verdict.Verdict.{Verdict}
use Rattle.std.specs.List.Sorted.{IsStrictlySortedBy}
use Rattle.std.specs.Map.{keys_of}
use Rattle.path_model.specs.Key.{key_cmp, peer_cmp}
use Rattle.route_map.specs.Flat.{flat}
use Rattle.shared_cases.specs.Cases.{verdict_or}
use Rattle.rib_store.specs.Cased.{Numbered, marked_by, through}
use Rattle.rib_store.specs.Rows.{verdicts_by_peer}
use Rattle.rib_store.specs.State.{AreRows}
use Rattle.rib_store.specs.Stored.{Stored}
use Rattle.rib_store.proofs.CasedLemmas.{through_length}
use Rattle.rib_store.proofs.PeerRowsLemmas.{have_rows, of_all, same_peers}
use Rattle.rib_store.proofs.RouteLemmas.{state_by}
use Rattle.rib_store.proofs.VerdictLemmas.{stored_rows}
use Rattle.rib_store.proofs.store.RibStore.rows_by_peer.Goals as goal

pub returns-clause-rows : goal.returns-clause-rows
returns-clause-rows c =
    subst (λ (s : Stored). AreRows s.state (flat (verdicts_by_peer c.self.inside.routing.cases c.by_peer.result))) c.self.view_is
    (subst (λ (rows : List (Key × Verdict)). AreRows (state_by c.self.inside.table c.self.inside.roles c.self.inside.routing.marks.is_marked c.self.inside.routing.cases c.self.inside.routing.routes c.self.inside.routing.marks.notes) rows)
    (sym (of_all c.self.inside.routing.cases c.by_peer.result))
    (subst (λ (routes : Numbered). AreRows (state_by c.self.inside.table c.self.inside.roles c.self.inside.routing.marks.is_marked c.self.inside.routing.cases c.self.inside.routing.routes c.self.inside.routing.marks.notes) (through verdict_or c.self.inside.routing.cases routes))
    (sym c.by_peer.ensures.whole)
    (stored_rows c.self.inside.table c.self.inside.roles c.self.inside.routing.routes c.self.inside.routing.cases c.self.invariant.stored
    (subst (λ (routes : Numbered). IsStrictlySortedBy key_cmp (keys_of routes)) c.by_peer.ensures.whole c.by_peer.ensures.in_order)
    (marked_by c.self.inside.routing.marks.is_marked c.self.inside.routing.cases c.self.inside.routing.routes c.self.inside.routing.marks.notes))))

pub returns-clause-few : goal.returns-clause-few
returns-clause-few c = omega (arith, ap length (of_all c.self.inside.routing.cases c.by_peer.result), through_length verdict_or c.self.inside.routing.cases (flat c.by_peer.result), c.by_peer.ensures.few)

pub returns-clause-peers : goal.returns-clause-peers
returns-clause-peers c = subst (IsStrictlySortedBy peer_cmp) (sym (same_peers c.self.inside.routing.cases c.by_peer.result)) c.by_peer.ensures.peers

pub returns-clause-some : goal.returns-clause-some
returns-clause-some c = have_rows c.self.inside.routing.cases c.by_peer.result c.by_peer.ensures.some
