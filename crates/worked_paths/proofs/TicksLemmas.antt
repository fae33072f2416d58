-- What each event of the row makes, and how many judgements it may cost.
use Rattle.std.proofs.Common.{◌≡◌, ℕ, zero, suc, ◌+◌, ◌<◌, ◌≤◌, Bool, true, false, cond, List, [], ◌∷◌, ◌++◌, length, refl, sym, ap, subst, ◌∙◌, arith, inl, inr}
use Rattle.std.specs.Prelude.{slice_index, unwrap_or, Contains}
use Rattle.std.specs.declared.option.Option.{Option}
use Rattle.std.specs.declared.option.Option.TheVariants.{Some, None}
use Rattle.std.specs.Cmp.{nat_cmp_total}
use Rattle.std.specs.FinMap as fin
use Rattle.std.specs.Ordering.{nat_cmp, eq_by_cmp}
use Rattle.std.proofs.lemmas.List.Elements.{All-weaker}
use Rattle.path_model.specs.declared.change.Change.{Change}
use Rattle.path_model.specs.declared.change.Change.TheVariants.{Announce}
use Rattle.path_model.specs.declared.key.Key.{Key}
use Rattle.path_model.specs.declared.role.Role.{Role}
use Rattle.path_model.specs.declared.role.Role.TheVariants.{Provider, Customer, Peer}
use Rattle.path_model.specs.Ascending.{ascending_of}
use Rattle.path_model.specs.Authority.{Table, has, said_by}
use Rattle.attestations.specs.ComputedTable.{onto, unfiltered, row_made, table_of}
use Rattle.attestations.specs.CurrentTable.{Parts, no_parts}
use Rattle.path_model.specs.Key.{key_cmp}
use Rattle.path_model.specs.Order.{key_total}
use Rattle.path_model.specs.Prefix.{Subnet}
use Rattle.path_model.specs.Roles.{role_of}
use Rattle.path_model.specs.Rows.{RowMap, row_or_empty}
use Rattle.path_model.specs.Trail.{Path}
use Rattle.vap_table.specs.declared.change.TableChange.TheVariants.{Filter, Assert}
use Rattle.vap_table.specs.Change.{Alters}
use Rattle.vap_table.proofs.MemberLemmas.{one_set, set_of_ascending}
use Rattle.shared_cases.specs.Grounds.{Grounds}
use Rattle.shared_cases.specs.Touched.{IsTouched, IsTouchedChain}
use Rattle.rib_store.specs.State.{State, no_state}
use Rattle.rib_store.specs.Touched.{announced, grounds_of, IsTouchedRoute, IsTouchedNumber}
use Rattle.rib_store.proofs.ApartLemmas.{apart_within}
use Rattle.rib_store.proofs.KeyLemmas.{same_key}
use Rattle.rib_store.proofs.NumberLemmas.{some_touched_number}
use Rattle.analyser.specs.declared.event.Event.{Event}
use Rattle.analyser.specs.declared.event.Event.TheVariants.{Routes, Table as TableEvent, Role as RoleEvent, DefaultRole}
use Rattle.analyser.specs.Events.{Happens}
use Rattle.analyser.specs.Touched.{Costs, TicksWithin}
use Rattle.analyser.proofs.EventLemmas.{some_outcome}
use Rattle.analyser.proofs.TouchedLemmas.{announced_within}
use Rattle.worked_paths.specs.Ticks.{route_key, route_path, announced_state, other_asserted_state, filtered_state, origin_asserted_state, other_role_state, peer_role_state, default_role_state}

-- ---- the only route

the_route_by : (key : Key) (path : Path) (b : Bool) → eq_by_cmp key_cmp key route_key ≡ b → cond b (Some route_path) None ≡ Some path → (key ≡ route_key) × (path ≡ route_path)
the_route_by key path true tied e = (same_key key route_key tied, sym (ap (λ (o : Option Path). unwrap_or o route_path) e))
the_route_by key path false tied e = absurd cc

the_route : (key : Key) (path : Path) → fin.get announced_state.routes key ≡ Some path → (key ≡ route_key) × (path ≡ route_path)
the_route key path e = the_route_by key path (eq_by_cmp key_cmp key route_key) refl (
    ap (cond (eq_by_cmp key_cmp key route_key) (Some route_path)) (sym (fin.get-empty key_cmp key)) ∙ sym (fin.get-insert key_total fin.empty route_key route_path key) ∙ e)

the_pair : (old new : Grounds) (pair : ℕ × Path) → IsTouchedRoute old new announced_state.routes pair → pair ≡ (64501, route_path)
the_pair old new pair is =
    let route : (is.key ≡ route_key) × (pair.1 ≡ route_path) = the_route is.key pair.1 is.route in
    let asn : pair.0 ≡ 64501 = sym is.asn ∙ ap (λ (key : Key). key.peer.asn) route.0 in
    λ i. (asn i, route.1 i)

-- ---- it isn't touched where its two ASes have the rows that they had, and its neighbour the role

at_end : (P : ℕ → Type 0) (place : ℕ) → place < 2 → P 64500 → P 64501 → P (slice_index route_path.chain place)
at_end P zero below origin neighbour = origin
at_end P (suc zero) below origin neighbour = neighbour
at_end P (suc (suc place)) below origin neighbour = absurd (omega (arith, below))

chain_untouched : (old new : Table) → old 64500 ≡ new 64500 → old 64501 ≡ new 64501 → ¬ IsTouchedChain old new route_path.chain
chain_untouched old new origin neighbour is =
    let alike : (place : ℕ) → place < 2 → old (slice_index route_path.chain place) ≡ new (slice_index route_path.chain place) =
    λ place below. at_end (λ x. old x ≡ new x) place below origin neighbour in
    let row : old is.x ≡ new is.x = elim is.neighbours.joined [
      | inl up ↦ subst (λ x. old x ≡ new x) (sym up.0) (alike is.neighbours.place (omega (arith, is.neighbours.within)))
      | inr down ↦ subst (λ x. old x ≡ new x) (sym down.0) (alike (is.neighbours.place + 1) (omega (arith, is.neighbours.within)))
    ] in
    is.changed (ap (λ (o : Option (List ℕ)). said_by o is.y) row)

untouched : (old new : Grounds) → role_of old.roles 64501 ≡ role_of new.roles 64501 → old.table 64500 ≡ new.table 64500 → old.table 64501 ≡ new.table 64501
    → (pair : ℕ × Path) → IsTouchedRoute old new announced_state.routes pair → Contains [] pair
untouched old new role origin neighbour pair is = absurd (elim (subst (λ (p : ℕ × Path). IsTouched old new p) (the_pair old new pair is) is.touched) [
  | inl moved ↦ moved role
  | inr chain ↦ chain_untouched old.table new.table origin neighbour chain
])

-- and no more than once anyway
touched : (old new : Grounds) (pair : ℕ × Path) → IsTouchedRoute old new announced_state.routes pair → Contains ((64501, route_path) ∷ []) pair
touched old new pair is = (0, omega arith, sym (the_pair old new pair is))

-- ---- rows and roles

-- without sources a filter is no matter
none_given : (b c : Bool) → unfiltered b c [] ≡ []
none_given true c = refl
none_given false true = refl
none_given false false = refl

silent : (filters : List ℕ) (assertions : RowMap) (x : ℕ) → fin.get assertions x ≡ None → table_of (record no_parts { filters = filters; assertions = assertions }) x ≡ None
silent filters assertions x none = λ i. row_made (onto (fin.get-empty nat_cmp x i) (onto (none i) (none_given (has [] x) (has filters x) i)))

get_other : {X : Type 0} (m : fin.FinMap nat_cmp X) (k : ℕ) (v : X) (q : ℕ) → eq_by_cmp nat_cmp q k ≡ false → fin.get (fin.insert m k v) q ≡ fin.get m q
get_other m k v q other = fin.get-insert nat_cmp_total m k v q ∙ ap (λ (b : Bool). cond b (Some v) (fin.get m q)) other

get_same : {X : Type 0} (m : fin.FinMap nat_cmp X) (k : ℕ) (v : X) (q : ℕ) → eq_by_cmp nat_cmp q k ≡ true → fin.get (fin.insert m k v) q ≡ Some v
get_same m k v q same = fin.get-insert nat_cmp_total m k v q ∙ ap (λ (b : Bool). cond b (Some v) (fin.get m q)) same

none_asserted : (x : ℕ) → eq_by_cmp nat_cmp x 7 ≡ false → fin.get other_asserted_state.parts.assertions x ≡ None
none_asserted x other = get_other fin.empty 7 (8 ∷ []) x other ∙ fin.get-empty nat_cmp x

-- ---- what an event makes

asserted : (old : Parts) (x : ℕ) (list : List ℕ) (new : Parts) → fin.get old.assertions x ≡ None → Alters old (Assert x list) new → new ≡ record old { assertions = fin.insert old.assertions x (ascending_of list) }
asserted old x list new none alters =
    let all : List ℕ = row_or_empty (fin.get old.assertions x) ++ list in
    let row : alters.1.row ≡ ascending_of list = one_set all (ascending_of all) alters.1.row (set_of_ascending all) alters.1.is_set
    ∙ ap (λ (o : Option (List ℕ)). ascending_of (row_or_empty o ++ list)) none in
    alters.2 ∙ ap (λ (rows : RowMap). record old { assertions = rows }) (alters.1.whole ∙ ap (λ (l : List ℕ). fin.insert old.assertions x l) row)

filtered : (old : Parts) (x : ℕ) (new : Parts) → Alters old (Filter x) new → new ≡ record old { filters = ascending_of (x ∷ old.filters) }
filtered old x new alters =
    alters.2 ∙ ap (λ (l : List ℕ). record old { filters = l }) (one_set (x ∷ old.filters) (ascending_of (x ∷ old.filters)) alters.0 (set_of_ascending (x ∷ old.filters)) alters.1)

-- ---- what it costs

-- an event that touches no other pairs than these takes no more steps
few : (old new : State) (pairs : List (ℕ × Path)) (before after : ℕ) → ((pair : ℕ × Path) → IsTouchedRoute (grounds_of old) (grounds_of new) old.routes pair → Contains pairs pair)
    → ((cost : ℕ) → IsTouchedNumber old new cost → after ≤ before + cost) → after ≤ before + length pairs
few old new pairs before after all within =
    let some : (number : ℕ) × IsTouchedNumber old new number = some_touched_number old new in
    let fewer : length some.1.pairs ≤ length pairs = apart_within some.1.pairs pairs some.1.apart
    (All-weaker (IsTouchedRoute (grounds_of old) (grounds_of new) old.routes) (Contains pairs) all some.1.pairs some.1.each) in
    omega (arith, fewer, within some.0 some.1, some.1.number_is)

-- where an event makes this state, and costs what is touched
few_at : (old : State) (event : Event) (new : State) (pairs : List (ℕ × Path)) (before after : ℕ) → ((next : State) → Happens old event next → next ≡ new)
    → ((cost : ℕ) → IsTouchedNumber old new cost → Costs old event new cost) → ((pair : ℕ × Path) → IsTouchedRoute (grounds_of old) (grounds_of new) old.routes pair → Contains pairs pair)
    → TicksWithin old event before after → after ≤ before + length pairs
few_at old event new pairs before after is costs all within =
    let some : (next : State) × Happens old event next = some_outcome old event in
    let happens : Happens old event new = subst (λ (s : State). Happens old event s) (is some.0 some.1) some.1 in
    few old new pairs before after all (λ cost number. within new cost happens (costs cost number))

-- of the same state and event, however they are written
as_written : (P : State → Event → Type 0) (old known : State) (event given : Event) → old ≡ known → event ≡ given → P old event → P known given
as_written P old known event given from is holds = subst (λ (s : State). P s given) from (subst (λ (e : Event). P old e) is holds)

-- ---- each event of the row

pub changes_are : (changes before : List Change) (prefix : Subnet) (path : Path) → before ≡ [] → prefix ≡ route_key.prefix → path ≡ route_path
    → changes ≡ before ++ Announce (record { peer = route_key.peer; prefix = prefix; path = route_key.path }) path ∷ [] → changes ≡ Announce route_key route_path ∷ []
changes_are changes before prefix path none at over are = are ∙ (λ i. none i ++ Announce (record { peer = route_key.peer; prefix = at i; path = route_key.path }) (over i) ∷ [])

pub announced_is : (old next : State) (changes : List Change) → old ≡ no_state → changes ≡ Announce route_key route_path ∷ [] → Happens old (Routes changes) next → next ≡ announced_state
announced_is old next changes from is happens =
    as_written (λ s e. Happens s e next) old no_state (Routes changes) (Routes (Announce route_key route_path ∷ [])) from (ap Routes is) happens

pub announced_ticks : (old : State) (changes : List Change) (before after : ℕ) → changes ≡ Announce route_key route_path ∷ [] → TicksWithin old (Routes changes) before after → after ≤ before + 1
announced_ticks old changes before after is within =
    let fits : after ≤ before + announced changes = announced_within old changes before after within in
    let one : announced changes ≡ 1 = ap announced is in
    omega (arith, fits, one)

other_asserted_at : (next : State) → Happens announced_state (TableEvent (Assert 7 (8 ∷ []))) next → next ≡ other_asserted_state
other_asserted_at next happens =
    happens.2 ∙ ap (λ (parts : Parts). record announced_state { parts = parts }) (asserted announced_state.parts 7 (8 ∷ []) happens.0 (fin.get-empty nat_cmp 7) happens.1)

other_asserted_row : (x : ℕ) → eq_by_cmp nat_cmp x 7 ≡ false → table_of announced_state.parts x ≡ table_of other_asserted_state.parts x
other_asserted_row x other = silent [] fin.empty x (fin.get-empty nat_cmp x) ∙ sym (silent [] other_asserted_state.parts.assertions x (none_asserted x other))

pub other_asserted_is : (old next : State) (list : List ℕ) → old ≡ announced_state → list ≡ 8 ∷ [] → Happens old (TableEvent (Assert 7 list)) next → next ≡ other_asserted_state
other_asserted_is old next list from is happens = other_asserted_at next
    (as_written (λ s e. Happens s e next) old announced_state (TableEvent (Assert 7 list)) (TableEvent (Assert 7 (8 ∷ []))) from (ap (λ (l : List ℕ). TableEvent (Assert 7 l)) is) happens)

pub other_asserted_ticks : (old : State) (list : List ℕ) (before after : ℕ) → old ≡ announced_state → list ≡ 8 ∷ [] → TicksWithin old (TableEvent (Assert 7 list)) before after → after ≤ before
other_asserted_ticks old list before after from is within =
    let few : after ≤ before + 0 = few_at announced_state (TableEvent (Assert 7 (8 ∷ []))) other_asserted_state [] before after other_asserted_at (λ cost number. number)
    (untouched (grounds_of announced_state) (grounds_of other_asserted_state) refl (other_asserted_row 64500 refl) (other_asserted_row 64501 refl))
    (as_written (λ s e. TicksWithin s e before after) old announced_state (TableEvent (Assert 7 list)) (TableEvent (Assert 7 (8 ∷ []))) from (ap (λ (l : List ℕ). TableEvent (Assert 7 l)) is) within) in
    omega (arith, few)

filtered_at : (next : State) → Happens other_asserted_state (TableEvent (Filter 64500)) next → next ≡ filtered_state
filtered_at next happens = happens.2 ∙ ap (λ (parts : Parts). record other_asserted_state { parts = parts }) (filtered other_asserted_state.parts 64500 happens.0 happens.1)

filtered_row : (x : ℕ) → eq_by_cmp nat_cmp x 7 ≡ false → table_of other_asserted_state.parts x ≡ table_of filtered_state.parts x
filtered_row x other =
    silent [] other_asserted_state.parts.assertions x (none_asserted x other) ∙ sym (silent (64500 ∷ []) other_asserted_state.parts.assertions x (none_asserted x other))

pub filtered_is : (old next : State) → old ≡ other_asserted_state → Happens old (TableEvent (Filter 64500)) next → next ≡ filtered_state
filtered_is old next from happens = filtered_at next (subst (λ (s : State). Happens s (TableEvent (Filter 64500)) next) from happens)

pub filtered_ticks : (old : State) (before after : ℕ) → old ≡ other_asserted_state → TicksWithin old (TableEvent (Filter 64500)) before after → after ≤ before
filtered_ticks old before after from within =
    let few : after ≤ before + 0 = few_at other_asserted_state (TableEvent (Filter 64500)) filtered_state [] before after filtered_at (λ cost number. number)
    (untouched (grounds_of other_asserted_state) (grounds_of filtered_state) refl (filtered_row 64500 refl) (filtered_row 64501 refl))
    (subst (λ (s : State). TicksWithin s (TableEvent (Filter 64500)) before after) from within) in
    omega (arith, few)

origin_asserted_at : (next : State) → Happens filtered_state (TableEvent (Assert 64500 (64501 ∷ []))) next → next ≡ origin_asserted_state
origin_asserted_at next happens =
    happens.2 ∙ ap (λ (parts : Parts). record filtered_state { parts = parts }) (asserted filtered_state.parts 64500 (64501 ∷ []) happens.0 (none_asserted 64500 refl) happens.1)

pub origin_asserted_is : (old next : State) (list : List ℕ) → old ≡ filtered_state → list ≡ 64501 ∷ [] → Happens old (TableEvent (Assert 64500 list)) next → next ≡ origin_asserted_state
origin_asserted_is old next list from is happens = origin_asserted_at next
    (as_written (λ s e. Happens s e next) old filtered_state (TableEvent (Assert 64500 list)) (TableEvent (Assert 64500 (64501 ∷ []))) from (ap (λ (l : List ℕ). TableEvent (Assert 64500 l)) is) happens)

pub origin_asserted_ticks : (old : State) (list : List ℕ) (before after : ℕ) → old ≡ filtered_state → list ≡ 64501 ∷ [] → TicksWithin old (TableEvent (Assert 64500 list)) before after → after ≤ before + 1
origin_asserted_ticks old list before after from is within =
    few_at filtered_state (TableEvent (Assert 64500 (64501 ∷ []))) origin_asserted_state ((64501, route_path) ∷ []) before after origin_asserted_at (λ cost number. number)
    (touched (grounds_of filtered_state) (grounds_of origin_asserted_state))
    (as_written (λ s e. TicksWithin s e before after) old filtered_state (TableEvent (Assert 64500 list)) (TableEvent (Assert 64500 (64501 ∷ []))) from (ap (λ (l : List ℕ). TableEvent (Assert 64500 l)) is) within)

other_role : role_of origin_asserted_state.roles 64501 ≡ role_of other_role_state.roles 64501
other_role = ap (λ (o : Option Role). unwrap_or o Provider) (sym (get_other origin_asserted_state.roles.set 1 Peer 64501 refl))

pub other_role_is : (old next : State) → old ≡ origin_asserted_state → Happens old (RoleEvent 1 Peer) next → next ≡ other_role_state
other_role_is old next from happens = subst (λ (s : State). Happens s (RoleEvent 1 Peer) next) from happens

pub other_role_ticks : (old : State) (before after : ℕ) → old ≡ origin_asserted_state → TicksWithin old (RoleEvent 1 Peer) before after → after ≤ before
other_role_ticks old before after from within =
    let few : after ≤ before + 0 = few_at origin_asserted_state (RoleEvent 1 Peer) other_role_state [] before after (λ next happens. happens) (λ cost number. number)
    (untouched (grounds_of origin_asserted_state) (grounds_of other_role_state) other_role refl refl)
    (subst (λ (s : State). TicksWithin s (RoleEvent 1 Peer) before after) from within) in
    omega (arith, few)

pub peer_role_is : (old next : State) → old ≡ other_role_state → Happens old (RoleEvent 64501 Customer) next → next ≡ peer_role_state
peer_role_is old next from happens = subst (λ (s : State). Happens s (RoleEvent 64501 Customer) next) from happens

pub peer_role_ticks : (old : State) (before after : ℕ) → old ≡ other_role_state → TicksWithin old (RoleEvent 64501 Customer) before after → after ≤ before + 1
peer_role_ticks old before after from within =
    few_at other_role_state (RoleEvent 64501 Customer) peer_role_state ((64501, route_path) ∷ []) before after (λ next happens. happens) (λ cost number. number)
    (touched (grounds_of other_role_state) (grounds_of peer_role_state))
    (subst (λ (s : State). TicksWithin s (RoleEvent 64501 Customer) before after) from within)

own_role : role_of peer_role_state.roles 64501 ≡ role_of default_role_state.roles 64501
own_role =
    let set : fin.get peer_role_state.roles.set 64501 ≡ Some Customer = get_same other_role_state.roles.set 64501 Customer 64501 refl in
    ap (λ (o : Option Role). unwrap_or o Provider) set ∙ sym (ap (λ (o : Option Role). unwrap_or o Customer) set)

pub default_role_is : (old next : State) → old ≡ peer_role_state → Happens old (DefaultRole Customer) next → next ≡ default_role_state
default_role_is old next from happens = subst (λ (s : State). Happens s (DefaultRole Customer) next) from happens

pub default_role_ticks : (old : State) (before after : ℕ) → old ≡ peer_role_state → TicksWithin old (DefaultRole Customer) before after → after ≤ before
default_role_ticks old before after from within =
    let few : after ≤ before + 0 = few_at peer_role_state (DefaultRole Customer) default_role_state [] before after (λ next happens. happens) (λ cost number. number)
    (untouched (grounds_of peer_role_state) (grounds_of default_role_state) own_role refl refl)
    (subst (λ (s : State). TicksWithin s (DefaultRole Customer) before after) from within) in
    omega (arith, few)
