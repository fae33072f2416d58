-- Each state has a list of the pairs of a peer AS and a path.
use Rattle.std.proofs.Common.{◌≡◌, ℕ, inl, inr, List, [], ◌∷◌, refl, sym, subst}
use Rattle.std.specs.Prelude.{map, Contains}
use Rattle.std.specs.FinMap as fin
use Rattle.std.specs.List.{All}
use Rattle.std.proofs.lemmas.List.Elements.{All-cons, All-map, All-nil, Contains-get_or}
use Rattle.av_base.specs.One.{HasOnePair}
use Rattle.path_model.specs.declared.key.Key.{Key}
use Rattle.path_model.specs.Authority.{Table}
use Rattle.path_model.specs.PrintedWitness.{IsPrinted}
use Rattle.path_model.specs.Roles.{role_of}
use Rattle.path_model.specs.Trail.{Path}
use Rattle.path_model.proofs.LawLemmas.{one_printed}
use Rattle.path_model.proofs.WitnessLemmas.{printed_facts}
use Rattle.attestations.specs.ComputedTable.{table_of}
use Rattle.attestations.proofs.PartsLemmas.{table_is_current}
use Rattle.shared_cases.specs.Touched.{AreApart}
use Rattle.rib_store.specs.Pairs.{ArePairs, IsPaired, Paired, has_pair, pair_of, routes_with}
use Rattle.rib_store.specs.State.{State}
use Rattle.rib_store.proofs.DecidedLemmas.{decided_contains, decided_pair}
use Rattle.rib_store.proofs.PairLemmas.{pair_decides}
use Rattle.listings.proofs.TallyCountLemmas.{in_cases, in_head, in_none, in_tail, some_counted}
use Rattle.listings.proofs.TallyHitLemmas.{route_entry}

module _ (state : State) (witness_of : (asn : ℕ) (path : Path) → HasOnePair (IsPrinted (table_of state.parts) (role_of state.roles asn) asn path)) where
  abbrev here : Table
  here = table_of state.parts

  -- the pair of a route
  abbrev pair : Key × Path → ℕ × Path
  pair e = (e.0.peer.asn, e.1)

  -- how a pair stands, and how many routes have it
  abbrev paired : ℕ × Path → Paired
  paired q = record {
    asn = q.0;
    standing = record { path = q.1; role = role_of state.roles q.0; verdict = (witness_of q.0 q.1).one; witness = (witness_of q.0 q.1).its };
    routes = routes_with state.routes q.0 q.1;
  }

  is_paired : (e : Key × Path) → Contains (fin.entries state.routes) e → IsPaired state (paired (pair e))
  is_paired e there =
      let one = witness_of e.0.peer.asn e.1 in
      record {
        counted = refl;
        some = some_counted (has_pair e.0.peer.asn e.1) (fin.entries state.routes) e there ((pair_decides e.0.peer.asn e.1 e).1 (refl, refl));
        stands = record {
          role = refl;
          table = here;
          current = table_is_current state.parts;
          printed = one.is;
          facts = printed_facts here (role_of state.roles e.0.peer.asn) e.0.peer.asn e.1 one.one one.its one.is;
        };
      }

  -- the pairs of some routes, each once
  record Once (es : List (Key × Path)) : Type 0 where
    members : List (ℕ × Path)
    apart : AreApart members
    each : All (λ q. IsPaired state (paired q)) members
    all : (e : Key × Path) → Contains es e → Contains members (pair e)

  one_more : (e : Key × Path) (es : List (Key × Path)) → Contains (fin.entries state.routes) e → (rest : Once es) → (Contains rest.members (pair e) → ⊥)
      → Once (e ∷ es)
  one_more e es there rest new = record {
    members = pair e ∷ rest.members;
    apart = (λ k d below same. new (subst (λ (q : ℕ × Path). Contains rest.members q) (sym same) (Contains-get_or rest.members k d below)), rest.apart);
    each = All-cons (λ (q : ℕ × Path). IsPaired state (paired q)) (pair e) rest.members (is_paired e there) rest.each;
    all = λ q h. elim (in_cases e es q h) [
      | inl same ↦ subst (λ (z : Key × Path). Contains (pair e ∷ rest.members) (pair z)) same (in_head (pair e) rest.members)
      | inr later ↦ in_tail (pair e) rest.members (pair q) (rest.all q later)
    ];
  }

  there_already : (e : Key × Path) (es : List (Key × Path)) → (rest : Once es) → Contains rest.members (pair e) → Once (e ∷ es)
  there_already e es rest there = record {
    members = rest.members;
    apart = rest.apart;
    each = rest.each;
    all = λ q h. elim (in_cases e es q h) [
      | inl same ↦ subst (λ (z : Key × Path). Contains rest.members (pair z)) same there
      | inr later ↦ rest.all q later
    ];
  }

  once : (es : List (Key × Path)) → ((e : Key × Path) → Contains es e → Contains (fin.entries state.routes) e) → Once es
  once [] within = record { members = []; apart = tt; each = All-nil (λ (q : ℕ × Path). IsPaired state (paired q)); all = λ e h. absurd (in_none e h) }
  once (e ∷ es) within =
      let rest : Once es = once es (λ q h. within q (in_tail e es q h)) in
      elim (decided_contains decided_pair rest.members (pair e)) [
        | inl there ↦ there_already e es rest there
        | inr new ↦ one_more e es (within e (in_head e es)) rest new
      ]

  named : (qs : List (ℕ × Path)) → map pair_of (map paired qs) ≡ qs
  named [] = refl
  named (q ∷ qs) = λ i. q ∷ named qs i

  pairs_by : (pairs : List Paired) × ArePairs state pairs
  pairs_by =
      let all : Once (fin.entries state.routes) = once (fin.entries state.routes) (λ e h. h) in (
        map paired all.members,
        record {
          apart = subst (λ (qs : List (ℕ × Path)). AreApart qs) (sym (named all.members)) all.apart;
          all = λ key path route. subst (λ (qs : List (ℕ × Path)). Contains qs (key.peer.asn, path)) (sym (named all.members))
              (all.all (key, path) (route_entry state.routes key path route));
          each = All-map (IsPaired state) paired all.members all.each;
        },
      )

-- by the printed witness that the law gives of each
pub some_pairs : (state : State) → (pairs : List Paired) × ArePairs state pairs
some_pairs state = pairs_by state (λ asn path. one_printed (table_of state.parts) (role_of state.roles asn) asn path)
