-- A route as it stands, and all routes as they stand.
use Rattle.std.proofs.Common.{◌≡◌, ℕ, ◌<◌, List, [], ◌∷◌, length, None, Some, refl, ap, sym, subst, ◌∙◌, arith}
use Rattle.std.specs.Prelude.{map, All, IfNone}
use Rattle.std.specs.declared.option.Option.{Option}
use Rattle.std.specs.BTreeMap.{is_at}
use Rattle.std.specs.FinMap as fin
use Rattle.std.specs.List.{cons_option, filter_map}
use Rattle.std.specs.List.Sorted.{IsStrictlySortedBy}
use Rattle.std.specs.Map.{lookup, keys_of}
use Rattle.std.specs.Option.{option_map}
use Rattle.std.proofs.lemmas.List.{length-map}
use Rattle.std.proofs.lemmas.List.Elements.{All-nil, All-cons}
use Rattle.path_model.specs.declared.key.Key.{Key}
use Rattle.attestations.specs.ComputedTable.{table_of}
use Rattle.attestations.specs.CurrentTable.{Parts}
use Rattle.path_model.specs.Key.{key_cmp}
use Rattle.path_model.specs.PrintedWitness.{IsPrinted}
use Rattle.path_model.specs.Roles.{Relations, role_of}
use Rattle.path_model.specs.Trail.{Path}
use Rattle.attestations.proofs.PartsLemmas.{table_is_current}
use Rattle.path_model.proofs.WitnessLemmas.{printed_facts}
use Rattle.ramps.specs.Judgement.{Judgement}
use Rattle.shared_cases.specs.declared.case.Case.{Case}
use Rattle.shared_cases.specs.declared.case.StoredCase.{StoredCase}
use Rattle.shared_cases.specs.Cases.{Slots, at}
use Rattle.shared_cases.specs.Cases.{IsShown as IsCase}
use Rattle.shared_cases.specs.Grounds.{IsJudged}
use Rattle.rib_store.specs.Grounds.{grounds}
use Rattle.rib_store.specs.Cased.{Numbered, path_or, through, routes_by, users_of, IsCounted, IsOfAs, AreStored}
use Rattle.rib_store.specs.Shown.{Standing, IsRouteStanding, AreShown}
use Rattle.rib_store.specs.ShownLeft.{standing_by, shown_at}
use Rattle.rib_store.specs.State.{State, Marked}
use Rattle.rib_store.proofs.CasedLemmas.{get_through, through_length, through_sorted}
use Rattle.rib_store.proofs.CountedLemmas.{users_positive}
use Rattle.rib_store.proofs.KeyLemmas.{AllFound, all_found, find_lookup, sorted_entries, entries_whole}

-- what is printed by the state's own table and role is how the route stands
is_standing : (state : State) (key : Key) (s : Standing) → fin.get state.routes key ≡ Some s.path → s.role ≡ role_of state.roles key.peer.asn
    → IsPrinted (table_of state.parts) (role_of state.roles key.peer.asn) key.peer.asn s.path s.verdict s.witness → IsRouteStanding state key s
is_standing state key s route role printed = record {
  route = route;
  role = role;
  current = record { path = s.path; route = route; table = table_of state.parts; current = table_is_current state.parts; right = printed.right };
  explained = record {
    path = s.path;
    route = route;
    table = table_of state.parts;
    current = table_is_current state.parts;
    printed = printed;
    facts = printed_facts (table_of state.parts) (role_of state.roles key.peer.asn) key.peer.asn s.path s.verdict s.witness printed;
  };
}

-- ---- by the case of the key

shown_case : (shown : Option Case) (c : Option StoredCase) → shown ≡ None → IsCase shown c → c ≡ None
shown_case None None e is = refl
shown_case None (Some c) e is = absurd is
shown_case (Some s) c e is = absurd cc

not_counted : (c : Option StoredCase) (users : ℕ) → c ≡ None → IsCounted c users → 0 < users → ⊥
not_counted c users vacant counted used = let e : users ≡ 0 = subst (λ (o : Option StoredCase). IsCounted o users) vacant counted in absurd (omega (arith, e, used))

module _ (parts : Parts) (relations : Relations) (routes : Numbered) (cases : Slots) (marked : Marked) (stored : AreStored (grounds parts relations) routes cases) (key : Key) (n : ℕ)
    (here : lookup (is_at (key_cmp key)) routes ≡ Some n) where
  -- a key that has a route has a case
  pub has_case : (shown : Option Case) → shown ≡ None → IsCase shown (at cases n) → ⊥
  has_case shown e is = not_counted (at cases n) (users_of routes n) (shown_case shown (at cases n) e is) (stored.counted n) (users_positive routes key n here)

  abbrev state_here : State
  state_here = record { parts = parts; roles = relations; routes = routes_by cases routes; marked = marked }

  -- and stands as it says
  pub stands_by : (c : StoredCase) → at cases n ≡ Some c → IsRouteStanding state_here key (standing_by relations key.peer.asn c.trail c.judged)
  stands_by c is = is_standing state_here key (standing_by relations key.peer.asn c.trail c.judged)
      (get_through path_or cases routes key ∙ ap (option_map (λ m. path_or (at cases m))) here ∙ ap (λ (o : Option StoredCase). Some (path_or o)) is)
      refl
      (subst (λ (a : ℕ). IsPrinted (table_of parts) (role_of relations a) a c.trail c.judged.verdict c.judged.witness)
      (subst (λ (o : Option StoredCase). IsOfAs o key.peer.asn) is (stored.of_peers key n here))
      (subst (λ (o : Option StoredCase). IsJudged (grounds parts relations) o) is (stored.judged n)).0)

  shown_by : (c : Option StoredCase) → at cases n ≡ c → (case : Case) → IsCase (Some case) c
      → IsRouteStanding state_here key (standing_by relations key.peer.asn case.trail.now case.judged.now)
  shown_by None at_it case is = absurd is
  shown_by (Some c) at_it case is =
      subst (λ (path : Path). IsRouteStanding state_here key (standing_by relations key.peer.asn path case.judged.now)) (sym is.1)
      (subst (λ (judged : Judgement). IsRouteStanding state_here key (standing_by relations key.peer.asn c.trail judged)) (sym is.2) (stands_by c at_it))

  pub stored_shown : (s : Standing) (case : Case) → IsCase (Some case) (at cases n) → s ≡ standing_by relations key.peer.asn case.trail.now case.judged.now
      → IsRouteStanding state_here key s
  stored_shown s case is same = subst (λ (t : Standing). IsRouteStanding state_here key t) (sym same) (shown_by (at cases n) refl case is)

-- what is so is so of nothing too
pub if_none : {A : Type 0} (o : Option A) (P : Type 0) → P → IfNone o P
if_none None P p = p
if_none (Some a) P p = tt

-- ---- all routes

module _ (parts : Parts) (relations : Relations) (routes : Numbered) (cases : Slots) (marked : Marked) (stored : AreStored (grounds parts relations) routes cases) where
  abbrev rows : Numbered → List (Key × Standing)
  rows es = filter_map (shown_at cases relations) es

  abbrev shown_of : Key → StoredCase → Key × Standing
  shown_of key c = (key, standing_by relations key.peer.asn c.trail c.judged)

  abbrev is_row : Key × Standing → Type 0
  is_row row = IsRouteStanding (record { parts = parts; roles = relations; routes = routes_by cases routes; marked = marked }) row.0 row.1

  -- the row of a key, and those of the rest
  row_by : (key : Key) (c : Option StoredCase) (users : ℕ) (rest : List (Key × Standing)) → IsCounted c users → 0 < users
      → map (λ (row : Key × Standing). row.0) (cons_option (option_map (shown_of key) c) rest) ≡ key ∷ map (λ (row : Key × Standing). row.0) rest
  row_by key None users rest counted used = absurd (omega (arith, counted, used))
  row_by key (Some c) users rest counted used = refl

  all_by : (key : Key) (c : Option StoredCase) (rest : List (Key × Standing)) → ((d : StoredCase) → c ≡ Some d → is_row (shown_of key d)) → All is_row rest
      → All is_row (cons_option (option_map (shown_of key) c) rest)
  all_by key None rest row others = others
  all_by key (Some c) rest row others = All-cons is_row (shown_of key c) rest (row c refl) others

  there : (e : Key × ℕ) → fin.find key_cmp e.0 routes ≡ Some e.1 → lookup (is_at (key_cmp e.0)) routes ≡ Some e.1
  there e found = sym (find_lookup routes e.0) ∙ found

  keys_by : (es : Numbered) → AllFound routes es → map (λ (row : Key × Standing). row.0) (rows es) ≡ map (λ (e : Key × Path). e.0) (through path_or cases es)
  keys_by [] found = refl
  keys_by (e ∷ es) found =
      row_by e.0 (at cases e.1) (users_of routes e.1) (rows es) (stored.counted e.1) (users_positive routes e.0 e.1 (there e found.0))
      ∙ ap (λ (ks : List Key). e.0 ∷ ks) (keys_by es found.1)

  each_by : (es : Numbered) → AllFound routes es → All is_row (rows es)
  each_by [] found = All-nil is_row
  each_by (e ∷ es) found = all_by e.0 (at cases e.1) (rows es) (λ c is. stands_by parts relations routes cases marked stored e.0 e.1 (there e found.0) c is) (each_by es found.1)

  module _ (sorted : IsStrictlySortedBy key_cmp (keys_of routes)) where
    found_all : AllFound routes routes
    found_all = all_found routes (sorted_entries routes sorted)

    pub all_shown : AreShown (record { parts = parts; roles = relations; routes = routes_by cases routes; marked = marked }) (filter_map (shown_at cases relations) routes)
    all_shown = record {
      keys = keys_by routes found_all ∙ ap (map (λ (e : Key × Path). e.0)) (sym (entries_whole (through path_or cases routes) (through_sorted path_or cases routes sorted)));
      each = each_by routes found_all;
    }

    -- as many as there are routes
    pub shown_length : length (filter_map (shown_at cases relations) routes) ≡ length routes
    shown_length =
        sym (length-map (rows routes) (λ (row : Key × Standing). row.0)) ∙ ap length (keys_by routes found_all)
        ∙ length-map (through path_or cases routes) (λ (e : Key × Path). e.0) ∙ through_length path_or cases routes
