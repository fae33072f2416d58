-- Rows of all peers, one peer after another.
use Rattle.std.proofs.Common.{◌≡◌, ◌≢◌, ℕ, List, [], ◌∷◌, ◌++◌, length, arith, refl, sym, ap, ◌∙◌}
use Rattle.std.specs.Map.{keys_of}
use Rattle.std.proofs.lemmas.List.{map-append}
use Rattle.path_model.specs.declared.key.Key.{Key}
use Rattle.path_model.specs.declared.nlri.Nlri.{Nlri}
use Rattle.path_model.specs.declared.peer.Peer.{Peer}
use Rattle.path_model.specs.declared.verdict.Verdict.{Verdict}
use Rattle.path_model.specs.Key.{key_of}
use Rattle.route_map.specs.Flat.{flat, of_peer, HaveRoutes}
use Rattle.shared_cases.specs.Cases.{Slots, at, verdict_or}
use Rattle.rib_store.specs.Cased.{through}
use Rattle.rib_store.specs.Rows.{verdicts_by_peer, verdicts_of}

of_one : (cases : Slots) (peer : Peer) (routes : List (Nlri × ℕ)) → of_peer peer (verdicts_of cases routes) ≡ through verdict_or cases (of_peer peer routes)
of_one cases peer [] = refl
of_one cases peer (e ∷ es) = ap (λ (rows : List (Key × Verdict)). (key_of peer e.0, verdict_or (at cases e.1)) ∷ rows) (of_one cases peer es)

pub of_all : (cases : Slots) (peers : List (Peer × List (Nlri × ℕ)))
    → flat (verdicts_by_peer cases peers) ≡ through verdict_or cases (flat peers)
of_all cases [] = refl
of_all cases (p ∷ ps) =
    ap (λ (rows : List (Key × Verdict)). of_peer p.0 (verdicts_of cases p.1) ++ rows) (of_all cases ps)
    ∙ ap (λ (rows : List (Key × Verdict)). rows ++ through verdict_or cases (flat ps)) (of_one cases p.0 p.1)
    ∙ sym (map-append _ (of_peer p.0 p.1) (flat ps))

-- the peers stay, and have rows where they have routes
pub same_peers : (cases : Slots) (peers : List (Peer × List (Nlri × ℕ))) → keys_of (verdicts_by_peer cases peers) ≡ keys_of peers
same_peers cases [] = refl
same_peers cases (p ∷ ps) = ap (λ (qs : List Peer). p.0 ∷ qs) (same_peers cases ps)

some_rows : (cases : Slots) (routes : List (Nlri × ℕ)) → routes ≢ [] → verdicts_of cases routes ≢ []
some_rows cases [] some none = some refl
some_rows cases (e ∷ es) some none = let no : ⊥ = omega (arith, ap length none) in no

pub have_rows : (cases : Slots) (peers : List (Peer × List (Nlri × ℕ))) → HaveRoutes peers → HaveRoutes (verdicts_by_peer cases peers)
have_rows cases [] have = tt
have_rows cases (p ∷ ps) have = (some_rows cases p.1 have.0, have_rows cases ps have.1)
