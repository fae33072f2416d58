-- What taking out one of a peer's marks leaves for the others.
use Rattle.std.proofs.Common.{◌≡◌, ℕ, Bool, true, false, cond, not, zero, suc, ◌<◌, ◌-◌, List, None, arith, refl, ap, sym, subst, ◌∙◌, true≢false}
use Rattle.std.specs.declared.cmp.Ordering.TheVariants.{Equal}
use Rattle.std.specs.declared.option.Option.{Option}
use Rattle.std.specs.FinMap as fin
use Rattle.std.specs.Option.{IsSome}
use Rattle.std.specs.Ordering.{eq_by_cmp}
use Rattle.path_model.specs.declared.key.Key.{Key}
use Rattle.path_model.specs.declared.otc.Otc.{Otc}
use Rattle.path_model.specs.declared.peer.Peer.{Peer}
use Rattle.path_model.specs.Key.{key_cmp}
use Rattle.path_model.specs.Order.{key_total}
use Rattle.path_model.specs.Routes.{is_of_peer}
use Rattle.path_model.proofs.MapLemmas.{get_entries}
use Rattle.path_model.proofs.OrderLemmas.{key_exact}
use Rattle.route_map.specs.OfPeer.{HasNoRouteOf, IsRouteOf}
use Rattle.otc_check.specs.Marks.{Marked, marks_of, without_peer}
use Rattle.otc_check.proofs.MapLemmas.{same_key}

pub alike : (peer : Peer) (q x : Key) → key_cmp q x ≡ Equal → not (is_of_peer peer x) ≡ not (is_of_peer peer q)
alike peer q x e = ap (λ (k : Key). not (is_of_peer peer k)) (sym (key_exact q x e))

-- what a key has without the peer
pub get_without : (peer : Peer) (marks : Marked) (q : Key) → fin.get (without_peer peer marks) q ≡ cond (not (is_of_peer peer q)) (fin.get marks q) None
get_without peer marks q = fin.get-retain_keys marks (λ key. not (is_of_peer peer key)) q (alike peer q)

pub one_gone : (peer : Peer) (marks : Marked) (key : Key) → is_of_peer peer key ≡ true → without_peer peer (fin.remove marks key) ≡ without_peer peer marks
one_gone peer marks key of_peer = fin.same_map key_total key_exact _ _ (λ q.
    get_without peer (fin.remove marks key) q
    ∙ ap (λ (o : Option Otc). cond (not (is_of_peer peer q)) o None) (fin.get-remove key_total marks key q)
    ∙ by_case q (eq_by_cmp key_cmp q key) refl
    ∙ sym (get_without peer marks q)) where
      neither : (b : Bool) (o : Option Otc) → b ≡ true → cond (not b) None None ≡ cond (not b) o None
      neither true o t = refl
      neither false o t = absurd (true≢false (sym t))

      by_case : (q : Key) → (b : Bool) → eq_by_cmp key_cmp q key ≡ b → cond (not (is_of_peer peer q)) (cond b None (fin.get marks q)) None ≡ cond (not (is_of_peer peer q)) (fin.get marks q) None
      by_case q true t = neither (is_of_peer peer q) (fin.get marks q) (ap (is_of_peer peer) (same_key q key t) ∙ of_peer)
      by_case q false t = refl

pub all_gone : (peer : Peer) (es : List (Key × Otc)) → HasNoRouteOf es peer → without_peer peer (marks_of es) ≡ marks_of es
all_gone peer es none = fin.same_map key_total key_exact _ _ (λ q. get_without peer (marks_of es) q ∙ by_case q (is_of_peer peer q) refl) where
  by_case : (q : Key) → (b : Bool) → is_of_peer peer q ≡ b → cond (not b) (fin.get (marks_of es) q) None ≡ fin.get (marks_of es) q
  by_case q true t = sym (get_entries key_total es q ∙ none q t)
  by_case q false t = refl

-- ---- a key that has a mark is one of the map's

not_empty : (marks : Marked) (key : Key) → IsSome (fin.get marks key) → (n : ℕ) → fin.len marks ≡ n → 0 < n
not_empty marks key some zero e =
    absurd (true≢false (sym (subst (λ (o : Option Otc). IsSome o) (ap (λ (m : Marked). fin.get m key) (fin.empty_of_len marks e) ∙ fin.get-empty key_cmp key) some)))
not_empty marks key some (suc n) e = omega arith

pub one_fewer : (peer : Peer) (es : List (Key × Otc)) (key : Key) → IsRouteOf es peer key → fin.len (fin.remove (marks_of es) key) < fin.len (marks_of es)
one_fewer peer es key is =
    let some : IsSome (fin.get (marks_of es) key) = subst (λ (o : Option Otc). IsSome o) (sym (get_entries key_total es key)) is.route in
    let here : 0 < fin.len (marks_of es) = not_empty (marks_of es) key some (fin.len (marks_of es)) refl in
    let less : fin.len (fin.remove (marks_of es) key) ≡ fin.len (marks_of es) - 1 = fin.len-remove key_total (marks_of es) key
    ∙ ap (λ (b : Bool). cond b (fin.len (marks_of es) - 1) (fin.len (marks_of es))) some in
    omega (arith, here, less)
