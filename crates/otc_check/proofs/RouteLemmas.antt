-- Only keys that have a route have a mark.
use Rattle.std.proofs.Common.{◌≡◌, Bool, true, false, cond, not, List, [], ◌∷◌, drop, None, Some, refl, sym, subst}
use Rattle.std.specs.declared.option.Option.{Option}
use Rattle.std.specs.FinMap as fin
use Rattle.std.specs.Option.{IsSome}
use Rattle.std.specs.Ordering.{eq_by_cmp}
use Rattle.path_model.specs.declared.change.Change.{Change}
use Rattle.path_model.specs.declared.change.Change.TheVariants.{Remove, Announce, RemovePeer}
use Rattle.path_model.specs.declared.key.Key.{Key}
use Rattle.path_model.specs.declared.otc.Otc.{Otc}
use Rattle.path_model.specs.declared.otc.Otc.TheVariants.{Absent, As, Malformed}
use Rattle.path_model.specs.declared.peer.Peer.{Peer}
use Rattle.path_model.specs.Key.{key_cmp}
use Rattle.path_model.specs.Order.{key_total}
use Rattle.path_model.specs.Routes.{Routes, is_of_peer, performed}
use Rattle.path_model.specs.Trail.{Path}
use Rattle.otc_check.specs.Laws.{AreOfRoutes}
use Rattle.otc_check.specs.Marks.{Marked, first_note, marked_at, noted_by, without_peer}
use Rattle.otc_check.proofs.OfPeerLemmas.{alike, get_without}

abbrev IfMarked : Option Otc → Option Path → Type 0
IfMarked mark route = IsSome mark → IsSome route

-- what holds of a mark and a route holds where both go, or a route comes
both_go : (gone : Bool) (mark : Option Otc) (route : Option Path) → IfMarked mark route → IfMarked (cond gone None mark) (cond gone None route)
both_go true mark route is = λ some. some
both_go false mark route is = is

both_stay : (stays : Bool) (mark : Option Otc) (route : Option Path) → IfMarked mark route → IfMarked (cond stays mark None) (cond stays route None)
both_stay true mark route is = is
both_stay false mark route is = λ some. some

route_comes : (here : Bool) (new : Option Otc) (path : Path) (mark : Option Otc) (route : Option Path) → IfMarked mark route → IfMarked (cond here new mark) (cond here (Some path) route)
route_comes true new path mark route is = λ some. refl
route_comes false new path mark route is = is

get_marked : (key : Key) (otc : Otc) (marks : Marked) (q : Key) → (new : Option Otc) × (fin.get (marked_at key otc marks) q ≡ cond (eq_by_cmp key_cmp q key) new (fin.get marks q))
get_marked key Absent marks q = (None, fin.get-remove key_total marks key q)
get_marked key (As asn) marks q = (Some (As asn), fin.get-insert key_total marks key (As asn) q)
get_marked key Malformed marks q = (Some Malformed, fin.get-insert key_total marks key Malformed q)

module _ (marks : Marked) (routes : Routes) (of_routes : AreOfRoutes marks routes) where
  withdrawn : (key : Key) → AreOfRoutes (fin.remove marks key) (fin.remove routes key)
  withdrawn key = λ q. subst (λ (m : Option Otc). IfMarked m (fin.get (fin.remove routes key) q)) (sym (fin.get-remove key_total marks key q))
      (subst (λ (r : Option Path). IfMarked (cond (eq_by_cmp key_cmp q key) None (fin.get marks q)) r) (sym (fin.get-remove key_total routes key q))
      (both_go (eq_by_cmp key_cmp q key) (fin.get marks q) (fin.get routes q) (of_routes q)))

  ended : (peer : Peer) → AreOfRoutes (without_peer peer marks) (fin.retain_keys routes (λ key. not (is_of_peer peer key)))
  ended peer = λ q. subst (λ (m : Option Otc). IfMarked m (fin.get (fin.retain_keys routes (λ key. not (is_of_peer peer key))) q)) (sym (get_without peer marks q))
      (subst (λ (r : Option Path). IfMarked (cond (not (is_of_peer peer q)) (fin.get marks q) None) r) (sym (fin.get-retain_keys routes (λ key. not (is_of_peer peer key)) q (alike peer q)))
      (both_stay (not (is_of_peer peer q)) (fin.get marks q) (fin.get routes q) (of_routes q)))

  announced : (key : Key) (path : Path) (otc : Otc) → AreOfRoutes (marked_at key otc marks) (fin.insert routes key path)
  announced key path otc = λ q.
      let new = get_marked key otc marks q in
      subst (λ (m : Option Otc). IfMarked m (fin.get (fin.insert routes key path) q)) (sym new.1)
      (subst (λ (r : Option Path). IfMarked (cond (eq_by_cmp key_cmp q key) new.0 (fin.get marks q)) r) (sym (fin.get-insert key_total routes key path q))
      (route_comes (eq_by_cmp key_cmp q key) new.0 path (fin.get marks q) (fin.get routes q) (of_routes q)))

pub are_of_routes : (changes : List Change) (notes : List Otc) (marks : Marked) (routes : Routes) → AreOfRoutes marks routes → AreOfRoutes (noted_by changes notes marks) (performed changes routes)
are_of_routes [] notes marks routes is = is
are_of_routes (Remove key ∷ more) notes marks routes is = are_of_routes more notes (fin.remove marks key) (fin.remove routes key) (withdrawn marks routes is key)
are_of_routes (RemovePeer peer ∷ more) notes marks routes is =
    are_of_routes more notes (without_peer peer marks) (fin.retain_keys routes (λ key. not (is_of_peer peer key))) (ended marks routes is peer)
are_of_routes (Announce key path ∷ more) notes marks routes is =
    are_of_routes more (drop 1 notes) (marked_at key (first_note notes) marks) (fin.insert routes key path) (announced marks routes is key path (first_note notes))
