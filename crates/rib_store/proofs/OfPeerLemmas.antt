-- What removing one of a peer's routes leaves for the others.
use Rattle.std.proofs.Common.{◌≡◌, ℕ, Bool, true, false, cond, not, zero, suc, ◌<◌, ◌-◌, None, arith, refl, ap, sym, subst, ◌∙◌, true≢false}
use Rattle.std.specs.declared.option.Option.{Option}
use Rattle.std.specs.declared.cmp.Ordering.TheVariants.{Equal}
use Rattle.std.specs.FinMap as fin
use Rattle.std.specs.Option.{IsSome}
use Rattle.std.specs.Ordering.{eq_by_cmp}
use Rattle.path_model.specs.declared.key.Key.{Key}
use Rattle.path_model.specs.declared.peer.Peer.{Peer}
use Rattle.path_model.specs.Key.{key_cmp}
use Rattle.path_model.specs.Order.{key_total}
use Rattle.path_model.specs.Routes.{Routes, is_of_peer}
use Rattle.path_model.specs.Trail.{Path}
use Rattle.path_model.proofs.OrderLemmas.{key_exact}
use Rattle.rib_store.specs.OfPeer.{HasNoRouteOf}
use Rattle.rib_store.proofs.KeyLemmas.{same_key}

abbrev pub stays : Peer → Key → Bool
stays peer key = not (is_of_peer peer key)

pub alike : (peer : Peer) (q x : Key) → key_cmp q x ≡ Equal → stays peer x ≡ stays peer q
alike peer q x e = ap (stays peer) (sym (key_exact q x e))

pub one_gone : (routes : Routes) (peer : Peer) (key : Key) → is_of_peer peer key ≡ true → fin.retain_keys (fin.remove routes key) (stays peer) ≡ fin.retain_keys routes (stays peer)
one_gone routes peer key of_peer = fin.same_map key_total key_exact _ _ (λ q.
    fin.get-retain_keys (fin.remove routes key) (stays peer) q (alike peer q)
    ∙ ap (λ (o : Option Path). cond (stays peer q) o None) (fin.get-remove key_total routes key q)
    ∙ by_case q (eq_by_cmp key_cmp q key) refl
    ∙ sym (fin.get-retain_keys routes (stays peer) q (alike peer q))) where
      neither : (b : Bool) (o : Option Path) → b ≡ true → cond (not b) None None ≡ cond (not b) o None
      neither true o t = refl
      neither false o t = absurd (true≢false (sym t))

      by_case : (q : Key) → (b : Bool) → eq_by_cmp key_cmp q key ≡ b → cond (stays peer q) (cond b None (fin.get routes q)) None ≡ cond (stays peer q) (fin.get routes q) None
      by_case q true t = neither (is_of_peer peer q) (fin.get routes q) (ap (is_of_peer peer) (same_key q key t) ∙ of_peer)
      by_case q false t = refl

pub all_gone : (routes : Routes) (peer : Peer) → HasNoRouteOf routes peer → fin.retain_keys routes (stays peer) ≡ routes
all_gone routes peer none = fin.same_map key_total key_exact _ _ (λ q. fin.get-retain_keys routes (stays peer) q (alike peer q) ∙ by_case q (is_of_peer peer q) refl) where
  by_case : (q : Key) → (b : Bool) → is_of_peer peer q ≡ b → cond (not b) (fin.get routes q) None ≡ fin.get routes q
  by_case q true t = sym (none q t)
  by_case q false t = refl

-- ---- a key that has a route is one of the map's

not_empty : (routes : Routes) (key : Key) → IsSome (fin.get routes key) → (n : ℕ) → fin.len routes ≡ n → 0 < n
not_empty routes key some zero e =
    absurd (true≢false (sym (subst (λ (o : Option Path). IsSome o) (ap (λ (m : Routes). fin.get m key) (fin.empty_of_len routes e) ∙ fin.get-empty key_cmp key) some)))
not_empty routes key some (suc n) e = omega arith

pub one_fewer : (routes : Routes) (key : Key) → IsSome (fin.get routes key) → fin.len (fin.remove routes key) < fin.len routes
one_fewer routes key some =
    let here : 0 < fin.len routes = not_empty routes key some (fin.len routes) refl in
    let less : fin.len (fin.remove routes key) ≡ fin.len routes - 1 = fin.len-remove key_total routes key
    ∙ ap (λ (b : Bool). cond b (fin.len routes - 1) (fin.len routes)) some in
    omega (arith, here, less)
