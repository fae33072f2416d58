-- The peers that have routes, each once, and what is left when their sessions have ended.
use Rattle.std.proofs.Common.{◌≡◌, ℕ, ◌+◌, ◌≤◌, Bool, true, false, cond, not, List, [], ◌∷◌, ◌++◌, map, get_or, zero, suc, None, Some, arith, append_assoc, refl, ap, sym, subst, ◌∙◌, true≢false, ◌⊎◌, inl, inr}
use Rattle.std.specs.declared.cmp.Ordering.{Ordering}
use Rattle.std.specs.declared.cmp.Ordering.TheVariants.{Less, Equal, Greater}
use Rattle.std.specs.declared.option.Option.{Option}
use Rattle.std.specs.Cmp.{Equal-is, eq_by_cmp_equiv}
use Rattle.std.specs.FinMap as fin
use Rattle.std.specs.List.{All, Contains, dedup, dedup_from}
use Rattle.std.specs.List.Sorted.{IsSorted, IsStrictlySortedBy}
use Rattle.std.specs.Map.{keys_of}
use Rattle.std.specs.Option.{IsSome, option_eq}
use Rattle.std.specs.Ordering.{eq_by_cmp, is_lt, ordering_then, ordering_reverse}
use Rattle.std.proofs.lemmas.List.{append-nil}
use Rattle.std.proofs.lemmas.List.Elements.{All-from_recursion, All-map}
use Rattle.std.proofs.lemmas.List.Filters.{All-dedup}
use Rattle.std.proofs.lemmas.List.Kept.{Contains-dedup, IsStrictlySortedBy-dedup}
use Rattle.std.proofs.lemmas.Map.Keys.{sorted_head, sorted_tail}
use Rattle.path_model.specs.declared.change.Change.{Change}
use Rattle.path_model.specs.declared.change.Change.TheVariants.{RemovePeer}
use Rattle.path_model.specs.declared.key.Key.{Key}
use Rattle.path_model.specs.declared.peer.Peer.{Peer}
use Rattle.path_model.specs.Key.{key_cmp, nlri_cmp, nlri_of, peer_cmp}
use Rattle.path_model.specs.Order.{key_total, peer_total}
use Rattle.path_model.specs.Routes.{Routes, changed, is_of_peer, performed}
use Rattle.path_model.specs.Trail.{Path}
use Rattle.path_model.proofs.OrderLemmas.{key_exact, peer_exact}
use Rattle.rib_store.specs.State.{State}
use Rattle.rib_store.specs.Touched.{announced}
use Rattle.rib_store.proofs.KeyLemmas.{all_found, same_key, sorted_keys}
use Rattle.analyser.specs.declared.event.Event.TheVariants.{Routes as RoutesEvent}
use Rattle.analyser.specs.Departures.{AreDepartures, HasRoute}
use Rattle.analyser.specs.Events.{Happens}
use Rattle.analyser.specs.Touched.{TicksWithin}
use Rattle.analyser.proofs.TouchedLemmas.{announced_within}

abbrev pub is_same : Peer → Peer → Bool
is_same = eq_by_cmp peer_cmp

same_peer : (one other : Peer) → is_same one other ≡ true → one ≡ other
same_peer one other t = peer_exact one other ((Equal-is (peer_cmp one other)).0 t)

abbrev pub ends : List Peer → List Change
ends peers = map RemovePeer peers

-- the peer of each entry
abbrev pub peers_of : List (Key × Path) → List Peer
peers_of es = map (λ e. e.0.peer) es

-- ---- one after the other

-- the peers that follow after this one, neighbours that are the same once
abbrev pub after : Peer → List Peer → List Peer
after last [] = []
after last (peer ∷ peers) = cond (is_same peer last) (after last peers) (peer ∷ after peer peers)

-- the same, or all of them before the first
abbrev pub to_come : Option Peer → List Peer → List Peer
to_come None [] = []
to_come None (peer ∷ peers) = peer ∷ after peer peers
to_come (Some last) peers = after last peers

after_is : (last : Peer) (peers : List Peer) → dedup_from is_same last peers ≡ last ∷ after last peers
after_is last [] = refl
after_is last (peer ∷ peers) = by_case (is_same peer last) (after_is last peers) (after_is peer peers) where
  by_case : (b : Bool) → dedup_from is_same last peers ≡ last ∷ after last peers → dedup_from is_same peer peers ≡ peer ∷ after peer peers
      → cond b (dedup_from is_same last peers) (last ∷ dedup_from is_same peer peers) ≡ last ∷ cond b (after last peers) (peer ∷ after peer peers)
  by_case true still more = still
  by_case false still more = ap (λ (rest : List Peer). last ∷ rest) more

all_to_come : (peers : List Peer) → to_come None peers ≡ dedup is_same peers
all_to_come [] = refl
all_to_come (peer ∷ peers) = sym (after_is peer peers)

-- those that went and those that are to come are all
abbrev pub AreGoing : List Change → Option Peer → List Peer → List Peer → Type 0
AreGoing changes last rest all = changes ++ ends (to_come last rest) ≡ ends (to_come None all)

to_come_next : (last : Option Peer) (peer : Peer) (peers : List Peer) → option_eq is_same (Some peer) last ≡ false → to_come last (peer ∷ peers) ≡ peer ∷ after peer peers
to_come_next None peer peers e = refl
to_come_next (Some last) peer peers e = ap (λ (b : Bool). cond b (after last peers) (peer ∷ after peer peers)) e

to_come_still : (last : Option Peer) (peer : Peer) (peers : List Peer) → option_eq is_same (Some peer) last ≡ true → to_come last (peer ∷ peers) ≡ to_come last peers
to_come_still None peer peers e = absurd (true≢false (sym e))
to_come_still (Some last) peer peers e = ap (λ (b : Bool). cond b (after last peers) (peer ∷ after peer peers)) e

-- a peer that isn't the last one goes
pub one_goes : (changes : List Change) (last : Option Peer) (peer : Peer) (rest all : List Peer) → option_eq is_same (Some peer) last ≡ false
    → AreGoing changes last (peer ∷ rest) all → AreGoing (changes ++ RemovePeer peer ∷ []) (Some peer) rest all
one_goes changes last peer rest all e going =
    append_assoc changes (RemovePeer peer ∷ []) (ends (after peer rest))
    ∙ ap (λ (more : List Peer). changes ++ ends more) (sym (to_come_next last peer rest e)) ∙ going

-- and else nothing does
pub none_goes : (changes : List Change) (last : Option Peer) (peer : Peer) (rest all : List Peer) → option_eq is_same (Some peer) last ≡ true
    → AreGoing changes last (peer ∷ rest) all → AreGoing changes last rest all
none_goes changes last peer rest all e going = ap (λ (more : List Peer). changes ++ ends more) (sym (to_come_still last peer rest e)) ∙ going

-- none is to come
pub all_went : (changes : List Change) (last : Option Peer) (all : List Peer) → AreGoing changes last [] all → changes ≡ ends (to_come None all)
all_went changes None all going = sym (append-nil changes) ∙ going
all_went changes (Some last) all going = sym (append-nil changes) ∙ going

-- ---- they are those that have routes, each once

not_below : (o p : Ordering) → ordering_then o p ≡ Less → is_lt (ordering_reverse o) ≡ false
not_below Less p e = refl
not_below Equal p e = refl
not_below Greater p e = absurd (true≢false (ap is_lt (sym e)))

peers_sorted : (es : List (Key × Path)) → IsStrictlySortedBy key_cmp (keys_of es) → IsSorted peer_cmp (peers_of es)
peers_sorted [] sorted = λ k d low within. absurd (omega (arith, within))
peers_sorted (e ∷ []) sorted = λ k d low within. absurd (omega (arith, within))
peers_sorted (e ∷ f ∷ es) sorted = next (sorted_head key_cmp e.0 (keys_of (f ∷ es)) sorted).0 (peers_sorted (f ∷ es) (sorted_tail key_cmp e.0 (keys_of (f ∷ es)) sorted)) where
  next : key_cmp e.0 f.0 ≡ Less → IsSorted peer_cmp (peers_of (f ∷ es)) → IsSorted peer_cmp (peers_of (e ∷ f ∷ es))
  next less more zero d low within = ap is_lt (peer_total.antisymm f.0.peer e.0.peer) ∙ not_below (peer_cmp e.0.peer f.0.peer) (nlri_cmp (nlri_of e.0) (nlri_of f.0)) less
  next less more (suc k) d low within =
      let turned : suc (k + 1) ≡ suc k + 1 = omega arith in
      subst (λ (n : ℕ). is_lt (peer_cmp (get_or (peers_of (e ∷ f ∷ es)) n d) (get_or (peers_of (f ∷ es)) k d)) ≡ false) turned (more k d (omega arith) (omega (arith, within)))

first_is : (x : Peer) (xs : List Peer) → Contains (x ∷ xs) x
first_is x xs = (0, omega arith, refl)

later_is : (y x : Peer) (xs : List Peer) → Contains xs x → Contains (y ∷ xs) x
later_is y x xs c = (suc c.0, omega (arith, c.1), c.2)

peer_found : (es : List (Key × Path)) (q : Key) → IsSome (fin.find key_cmp q es) → Contains (peers_of es) q.peer
peer_found [] q some = absurd (true≢false (sym some))
peer_found (e ∷ es) q some = by_case (eq_by_cmp key_cmp q e.0) refl (peer_found es q) some where
  by_case : (b : Bool) → eq_by_cmp key_cmp q e.0 ≡ b → (IsSome (fin.find key_cmp q es) → Contains (peers_of es) q.peer)
      → IsSome (cond b (Some e.1) (fin.find key_cmp q es)) → Contains (peers_of (e ∷ es)) q.peer
  by_case true t found h = subst (λ (k : Key). Contains (peers_of (e ∷ es)) k.peer) (sym (same_key q e.0 t)) (first_is e.0.peer (peers_of es))
  by_case false t found h = later_is e.0.peer q.peer (peers_of es) (found h)

some_is : (o : Option Path) (path : Path) → o ≡ Some path → IsSome o
some_is o path e = subst (λ (p : Option Path). IsSome p) (sym e) refl

module _ (routes : Routes) where
  abbrev es : List (Key × Path)
  es = fin.entries routes

  has_own : (e : Key × Path) → fin.find key_cmp e.0 es ≡ Some e.1 → HasRoute routes e.0.peer
  has_own e found = (e.0, refl, some_is (fin.get routes e.0) e.1 (fin.get-entries routes e.0 ∙ found))

  each_has : All (HasRoute routes) (peers_of es)
  each_has = All-map (HasRoute routes) (λ (e : Key × Path). e.0.peer) es
      (λ k d within. has_own _ (All-from_recursion (λ (e : Key × Path). fin.find key_cmp e.0 es ≡ Some e.1) es (all_found es (fin.entries_sorted routes)) k d within))

  pub departures_are : (changes : List Change) → changes ≡ ends (to_come None (peers_of es)) → AreDepartures routes changes
  departures_are changes is = record {
    peers = dedup is_same (peers_of es);
    ends = is ∙ ap ends (all_to_come (peers_of es));
    ascending = IsStrictlySortedBy-dedup peer_total (λ x y. refl) (peers_of es) (peers_sorted es (sorted_keys es (fin.entries_sorted routes)));
    each = All-dedup is_same (HasRoute routes) (peers_of es) each_has;
    all = λ key some. Contains-dedup (eq_by_cmp_equiv peer_total) same_peer (peers_of es) key.peer
        (peer_found es key (subst (λ (o : Option Path). IsSome o) (fin.get-entries routes key) some));
  }

-- ---- what is left

alike : (peer : Peer) (q x : Key) → key_cmp q x ≡ Equal → not (is_of_peer peer x) ≡ not (is_of_peer peer q)
alike peer q x e = ap (λ (k : Key). not (is_of_peer peer k)) (sym (key_exact q x e))

get_without : (peer : Peer) (routes : Routes) (q : Key) → fin.get (changed (RemovePeer peer) routes) q ≡ cond (not (is_of_peer peer q)) (fin.get routes q) None
get_without peer routes q = fin.get-retain_keys routes (λ key. not (is_of_peer peer key)) q (alike peer q)

-- a key whose peer goes, or that has no route, has none afterwards
get_performed : (peers : List Peer) (routes : Routes) (q : Key) → Contains peers q.peer ⊎ (fin.get routes q ≡ None) → fin.get (performed (ends peers) routes) q ≡ None
get_performed [] routes q (inl c) = absurd (omega (arith, c.1))
get_performed [] routes q (inr none) = none
get_performed (peer ∷ peers) routes q h = get_performed peers (changed (RemovePeer peer) routes) q (by_case h) where
  gone : (b : Bool) (o : Option Path) → b ≡ true → cond (not b) o None ≡ None
  gone true o t = refl
  gone false o t = absurd (true≢false (sym t))

  none_still : (b : Bool) (o : Option Path) → o ≡ None → cond (not b) o None ≡ None
  none_still true o e = refl
  none_still false o e = e

  by_case : Contains (peer ∷ peers) q.peer ⊎ (fin.get routes q ≡ None) → Contains peers q.peer ⊎ (fin.get (changed (RemovePeer peer) routes) q ≡ None)
  by_case (inl (zero, within, is)) = inr (get_without peer routes q ∙ gone (is_of_peer peer q) (fin.get routes q) (ap (is_same peer) (sym is) ∙ (eq_by_cmp_equiv peer_total).refl peer))
  by_case (inl (suc k, within, is)) = inl (k, omega (arith, within), is)
  by_case (inr none) = inr (get_without peer routes q ∙ none_still (is_of_peer peer q) (fin.get routes q) none)

-- no route is left when the session of each peer that has one has ended,
pub none_left : (routes : Routes) (changes : List Change) → AreDepartures routes changes → performed changes routes ≡ fin.empty
none_left routes changes are = subst (λ (list : List Change). performed list routes ≡ fin.empty) (sym are.ends)
    (fin.same_map key_total key_exact _ _ (λ q. get_performed are.peers routes q (by_case q (fin.get routes q) refl) ∙ sym (fin.get-empty key_cmp q))) where
      by_case : (q : Key) (o : Option Path) → fin.get routes q ≡ o → Contains are.peers q.peer ⊎ (fin.get routes q ≡ None)
      by_case q None e = inr e
      by_case q (Some path) e = inl (are.all q (some_is (fin.get routes q) path e))

ends_announce_none : (peers : List Peer) → announced (ends peers) ≡ 0
ends_announce_none [] = refl
ends_announce_none (peer ∷ peers) = let none : announced (ends peers) ≡ 0 = ends_announce_none peers in omega (arith, none)

-- and none was announced
pub none_announced : (routes : Routes) (changes : List Change) → AreDepartures routes changes → announced changes ≡ 0
none_announced routes changes are = ap announced are.ends ∙ ends_announce_none are.peers

-- ---- so an analysis is cleared by them, and nothing is judged

pub cleared_by : (old next : State) (changes : List Change) → AreDepartures old.routes changes → Happens old (RoutesEvent changes) next → next ≡ record old { routes = fin.empty }
cleared_by old next changes are happens = happens ∙ ap (λ (routes : Routes). record old { routes = routes }) (none_left old.routes changes are)

pub none_judged : (old : State) (changes : List Change) (before after : ℕ) → AreDepartures old.routes changes → TicksWithin old (RoutesEvent changes) before after → after ≤ before
none_judged old changes before after are within =
    let few : after ≤ before + announced changes = announced_within old changes before after within in
    let none : announced changes ≡ 0 = none_announced old.routes changes are in
    omega (arith, few, none)
