-- Peers that are listed line by line, that each state has one list of them, and that none reads as a refusal.
use Rattle.std.proofs.Common.{◌≡◌, ◌≢◌, ℕ, nat_eq, Bool, true, false, cond, not, is_some, ◌&&◌, ◌||◌, List, [], ◌∷◌, ◌++◌, length, map, filter, flat_map, if◌then◌else◌, Some, Err, refl, sym, ap, subst, ◌∙◌, arith}
use Rattle.std.specs.FinMap as fin
use Rattle.std.specs.FinMap.Entries.{by_order}
use Rattle.std.specs.Cmp.{IsTotalOrder, nat_cmp_total, nat_eq_equiv, tied_itself}
use Rattle.std.specs.List.{All, AllByRecursion, concat}
use Rattle.std.specs.List.Sorted.{IsStrictlySortedBy}
use Rattle.std.specs.Map.{keys_of}
use Rattle.std.specs.Ordering.{is_eq, nat_cmp, ordering_reverse}
use Rattle.std.specs.declared.cmp.Ordering.{Ordering}
use Rattle.std.specs.declared.cmp.Ordering.TheVariants.{Less, Equal, Greater}
use Rattle.std.specs.declared.result.Result.{Result}
use Rattle.std.proofs.lemmas.List.{append-nil}
use Rattle.std.proofs.lemmas.List.Elements.{All-map, filter-append}
use Rattle.std.proofs.lemmas.List.Folds.{concat-append, list_any-append}
use Rattle.std.proofs.lemmas.Grind.{flat_map-append}
use Rattle.std.proofs.lemmas.Map.Keys.{sorted_head, sorted_tail}
use Rattle.std.proofs.lemmas.Map.Views.{exact_unsigned_eq}
use Rattle.av_base.specs.One.{HasOne}
use Rattle.av_base.specs.declared.stop.Stop.{Stop}
use Rattle.av_base.specs.declared.stop.Stop.TheVariants.{NoMemory}
use Rattle.path_model.specs.declared.key.Key.{Key}
use Rattle.path_model.specs.declared.nlri.Nlri.{Nlri}
use Rattle.path_model.specs.declared.peer.Peer.{Peer}
use Rattle.path_model.specs.declared.role.Role.{Role}
use Rattle.path_model.specs.declared.verdict.Verdict.{Verdict}
use Rattle.path_model.specs.Authority.{has}
use Rattle.path_model.specs.Key.{key_of, peer_cmp}
use Rattle.path_model.specs.Order.{peer_total}
use Rattle.path_model.specs.Roles.{Relations}
use Rattle.path_model.specs.Routes.{is_of_peer}
use Rattle.vap_table.proofs.MemberLemmas.{has_key}
use Rattle.report_text.specs.declared.peer_summary.PeerSummary.{PeerSummary}
use Rattle.report_text.specs.Laws.{IsAnswerLine}
use Rattle.report_text.specs.PeerSummaries.{peer_summary_line}
use Rattle.report_text.specs.Reported.{lines_text}
use Rattle.report_text.proofs.AnswerLemmas.{peer_summary_is_one_line}
use Rattle.rib_store.specs.Counts.{counted}
use Rattle.rib_store.specs.Rows.{all_rows, rows_under}
use Rattle.rib_store.specs.State.{State, AreRows}
use Rattle.rib_store.proofs.ReportLemmas.{has_one_report}
use Rattle.listings.proofs.EntriesLemmas.{Below, entries_whole, none_empty, put_first}
use Rattle.listings.specs.EachPeer.{idle_piece, is_seen, piece_of, pieces, summary_under}
use Rattle.listings.proofs.ListingLemmas as listing
use Rattle.listings.specs.Listing.{Listed, Lists, Pouring}
use Rattle.listings.specs.Peers.{ArePeers, has_routes, idle_ases, idle_summary, peer_row, peer_summary, peers_of, rows_by, summaries_of, summed}

abbrev Rows : Type 0
Rows = List (Key × Verdict)

abbrev ByPeer : Type 0
ByPeer = List (Peer × List (Nlri × Verdict))

-- no peer stands there without routes
abbrev HaveRoutes : ByPeer → Type 0
HaveRoutes peers = AllByRecursion (λ p. p.1 ≢ []) peers

-- ---- a map that is made of entries in order

abbrev first_or : {K : Type 0} → K → List K → K
first_or k [] = k
first_or k (x ∷ xs) = x

module _ {K X : Type 0} {R : K → K → Ordering} (total : IsTotalOrder R) where
  -- the first key once more
  put_again : (k : K) (v : X) (ks : List K) (es : List (K × X)) → keys_of es ≡ k ∷ ks → keys_of (fin.put R k v es) ≡ k ∷ ks
  put_again k v ks [] is = absurd (omega (arith, ap length is))
  put_again k v ks (e ∷ es) is =
      let first : e.0 ≡ k = ap (first_or k) is in
      let tied : R k e.0 ≡ Equal = subst (λ (x : K). R k x ≡ Equal) (sym first) (tied_itself total k) in
      ap (λ (o : Ordering). keys_of (by_order o ((k, v) ∷ e ∷ es) ((e.0, v) ∷ es) (e ∷ fin.put R k v es))) tied ∙ is

-- ---- the peers of routes that stand peer by peer

abbrev told : Rows → List (Peer × Verdict)
told rows = map (λ row. (row.0.peer, row.1)) rows

first_peer : (p : Peer) (e : Nlri × Verdict) (es : List (Nlri × Verdict)) (rest : Rows) → Below peer_cmp p (peers_of rest)
    → peers_of (rows_under p (e ∷ es) ++ rest) ≡ p ∷ peers_of rest
first_peer p e [] rest below =
    ap keys_of (fin.entries-insert peer_total (fin.from_entries (told rest)) p e.1 ∙ put_first peer_total p e.1 (fin.entries (fin.from_entries (told rest))) below)
first_peer p e (f ∷ es) rest below =
    let others = fin.from_entries {R = peer_cmp} (told (rows_under p (f ∷ es) ++ rest)) in
    ap keys_of (fin.entries-insert peer_total others p e.1) ∙ put_again peer_total p e.1 (peers_of rest) (fin.entries others) (first_peer p f es rest below)

peers_are : (peers : ByPeer) → IsStrictlySortedBy peer_cmp (keys_of peers) → HaveRoutes peers → peers_of (all_rows peers) ≡ keys_of peers
peers_are [] sorted have = ap keys_of (none_empty peer_total)
peers_are ((p, []) ∷ ps) sorted have = absurd (have.0 refl)
peers_are ((p, e ∷ es) ∷ ps) sorted have =
    let rest : peers_of (all_rows ps) ≡ keys_of ps = peers_are ps (sorted_tail peer_cmp p (keys_of ps) sorted) have.1 in
    first_peer p e es (all_rows ps) (subst (λ (qs : List Peer). Below peer_cmp p qs) (sym rest) (sorted_head peer_cmp p (keys_of ps) sorted))
    ∙ ap (λ (qs : List Peer). p ∷ qs) rest

-- ---- the routes of one of them

module _ (p : Peer) where
  all_his : (es : List (Nlri × Verdict)) → rows_by p (rows_under p es) ≡ rows_under p es
  all_his [] = refl
  all_his (e ∷ es) =
      let row : Key × Verdict = (key_of p e.0, e.1) in
      ap (λ (o : Ordering). cond (is_eq o) (row ∷ rows_by p (rows_under p es)) (rows_by p (rows_under p es))) (tied_itself peer_total p)
      ∙ ap (λ (rows : Rows). row ∷ rows) (all_his es)

  none_of : (q : Peer) → peer_cmp q p ≡ Greater → (es : List (Nlri × Verdict)) → rows_by q (rows_under p es) ≡ []
  none_of q greater [] = refl
  none_of q greater (e ∷ es) =
      ap (λ (o : Ordering). cond (is_eq o) ((key_of p e.0, e.1) ∷ rows_by q (rows_under p es)) (rows_by q (rows_under p es))) greater ∙ none_of q greater es

  none_after : (q : Peer) → peer_cmp p q ≡ Less → (es : List (Nlri × Verdict)) → rows_by p (rows_under q es) ≡ []
  none_after q less [] = refl
  none_after q less (e ∷ es) =
      ap (λ (o : Ordering). cond (is_eq o) ((key_of q e.0, e.1) ∷ rows_by p (rows_under q es)) (rows_by p (rows_under q es))) less ∙ none_after q less es

  none_below : (ps : ByPeer) → Below peer_cmp p (keys_of ps) → rows_by p (all_rows ps) ≡ []
  none_below [] below = refl
  none_below (q ∷ ps) below =
      filter-append (λ row. is_of_peer p row.0) (rows_under q.0 q.1) (all_rows ps) ∙ (λ i. none_after q.0 below.0 q.1 i ++ none_below ps below.1 i)

his_rows : (p : Peer × List (Nlri × Verdict)) (ps : ByPeer) → Below peer_cmp p.0 (keys_of ps) → rows_by p.0 (all_rows (p ∷ ps)) ≡ rows_under p.0 p.1
his_rows p ps below =
    filter-append (λ row. is_of_peer p.0 row.0) (rows_under p.0 p.1) (all_rows ps)
    ∙ (λ i. all_his p.0 p.1 i ++ none_below p.0 ps below i) ∙ append-nil (rows_under p.0 p.1)

other_rows : (p : Peer) (es : List (Nlri × Verdict)) (rest : Rows) (q : Peer) → peer_cmp p q ≡ Less → rows_by q (rows_under p es ++ rest) ≡ rows_by q rest
other_rows p es rest q less =
    filter-append (λ row. is_of_peer q row.0) (rows_under p es) rest
    ∙ ap (λ (rows : Rows). rows ++ rows_by q rest) (none_of p q (peer_total.antisymm q p ∙ ap ordering_reverse less) es)

module _ (roles : Relations) where
  -- what is said of the others
  others_same : (p : Peer) (es : List (Nlri × Verdict)) (rest : Rows) (qs : List Peer) → Below peer_cmp p qs
      → map (peer_summary roles (rows_under p es ++ rest)) qs ≡ map (peer_summary roles rest) qs
  others_same p es rest [] below = refl
  others_same p es rest (q ∷ qs) below =
      λ i. summed roles (Some q.addr) q.asn (counted (other_rows p es rest q below.0 i)) ∷ others_same p es rest qs below.1 i

  each_summed : (peers : ByPeer) → IsStrictlySortedBy peer_cmp (keys_of peers) → map (peer_summary roles (all_rows peers)) (keys_of peers) ≡ map (summary_under roles) peers
  each_summed [] sorted = refl
  each_summed (p ∷ ps) sorted =
      let below = sorted_head peer_cmp p.0 (keys_of ps) sorted in
      let rest : map (peer_summary roles (all_rows (p ∷ ps))) (keys_of ps) ≡ map (summary_under roles) ps =
      others_same p.0 p.1 (all_rows ps) (keys_of ps) below ∙ each_summed ps (sorted_tail peer_cmp p.0 (keys_of ps) sorted) in
      λ i. summed roles (Some p.0.addr) p.0.asn (counted (his_rows p ps below i)) ∷ rest i

-- ---- the ASes that have routes

or_itself : (b : Bool) → (b || b) ≡ b
or_itself true = refl
or_itself false = refl

of_one : (p : Peer) (asn : ℕ) (e : Nlri × Verdict) (es : List (Nlri × Verdict)) → has_routes (rows_under p (e ∷ es)) asn ≡ nat_eq p.asn asn
of_one p asn e [] = by (nat_eq p.asn asn) where
  by : (b : Bool) → (b || false) ≡ b
  by true = refl
  by false = refl
of_one p asn e (f ∷ es) = ap (λ (b : Bool). nat_eq p.asn asn || b) (of_one p asn f es) ∙ or_itself (nat_eq p.asn asn)

seen_same : (peers : ByPeer) (asn : ℕ) → HaveRoutes peers → has_routes (all_rows peers) asn ≡ is_seen peers asn
seen_same [] asn have = refl
seen_same ((p, []) ∷ ps) asn have = absurd (have.0 refl)
seen_same ((p, e ∷ es) ∷ ps) asn have =
    list_any-append (λ row. nat_eq row.0.peer.asn asn) (rows_under p (e ∷ es)) (all_rows ps)
    ∙ (λ i. of_one p asn e es i || seen_same ps asn have.1 i)

-- ---- those that are noted

-- an AS more, where it has a role of its own
pub note_more : (own : ℕ → Bool) (before after : List ℕ) (asn : ℕ) (left rest : ByPeer) (p : Peer × List (Nlri × Verdict)) (all : ℕ → Bool) → left ≡ p ∷ rest → asn ≡ p.0.asn
    → ((a : ℕ) → has after a ≡ ((own asn && nat_eq asn a) || has before a)) → ((a : ℕ) → ((own a && is_seen left a) || has before a) ≡ all a)
    → (a : ℕ) → ((own a && is_seen rest a) || has after a) ≡ all a
note_more own before after asn left rest p all is same noted so_far a =
    ap (λ (b : Bool). (own a && is_seen rest a) || b) (noted a)
    ∙ by (nat_eq asn a) refl
    ∙ (λ i. (own a && (nat_eq (same i) a || is_seen rest a)) || has before a)
    ∙ ap (λ (ps : ByPeer). (own a && is_seen ps a) || has before a) (sym is) ∙ so_far a where
      one : (o r h : Bool) → ((o && r) || ((o && true) || h)) ≡ ((o && true) || h)
      one true true h = refl
      one true false h = refl
      one false r h = refl

      none : (o r h : Bool) → (r || ((o && false) || h)) ≡ (r || h)
      none true r h = refl
      none false r h = refl

      by : (b : Bool) → nat_eq asn a ≡ b → ((own a && is_seen rest a) || ((own asn && nat_eq asn a) || has before a)) ≡ ((own a && (nat_eq asn a || is_seen rest a)) || has before a)
      by true e =
          let same_as : asn ≡ a = exact_unsigned_eq asn a e in
          (λ i. (own a && is_seen rest a) || ((own (same_as i) && e i) || has before a))
          ∙ one (own a) (is_seen rest a) (has before a)
          ∙ ap (λ (b : Bool). (own a && (b || is_seen rest a)) || has before a) (sym e)
      by false e =
          ap (λ (b : Bool). (own a && is_seen rest a) || ((own asn && b) || has before a)) e
          ∙ none (own asn) (own a && is_seen rest a) (has before a)
          ∙ ap (λ (b : Bool). (own a && (b || is_seen rest a)) || has before a) (sym e)

pub one_noted : (own : Bool) (before after : List ℕ) (asn : ℕ) → own ≡ true → ((q : ℕ) → has after q ≡ (nat_eq asn q || has before q))
    → (q : ℕ) → has after q ≡ ((own && nat_eq asn q) || has before q)
one_noted true before after asn is more q = more q
one_noted false before after asn is more q = let no : ⊥ = cc in absurd no

pub none_noted : (own all : Bool) → ((own && all) || false) ≡ (own && all)
none_noted true true = refl
none_noted true false = refl
none_noted false all = refl

pub all_noted : (own here all : Bool) → ((own && false) || here) ≡ all → here ≡ all
all_noted true here all e = e
all_noted false here all e = e

-- ---- the ASes that have none

module _ (roles : Relations) (seen : List ℕ) (rows : Rows) where
  abbrev IsTold : ℕ → Type 0
  IsTold asn = has seen asn ≡ has_routes rows asn

  abbrev idle_of : List ℕ → List ℕ
  idle_of ases = filter (λ asn. not (has_routes rows asn)) ases

  idle_first : (asn : ℕ) (ases others : List ℕ) (b : Bool) → others ≡ flat_map peer_row (map (idle_summary roles) (idle_of ases))
      → (if b then [] else peer_row (idle_summary roles asn)) ++ others ≡ flat_map peer_row (map (idle_summary roles) (cond (not b) (asn ∷ idle_of ases) (idle_of ases)))
  idle_first asn ases others true is = is
  idle_first asn ases others false is = ap (λ (t : List ℕ). peer_row (idle_summary roles asn) ++ t) is

  idle_pieces : (own : List (ℕ × Role)) → ((asn : ℕ) → has (keys_of own) asn ≡ true → IsTold asn)
      → concat (map (idle_piece roles seen) own) ≡ flat_map peer_row (map (idle_summary roles) (idle_of (keys_of own)))
  idle_pieces [] each = refl
  idle_pieces (e ∷ own) each =
      let here : IsTold e.0 = each e.0 (or_first e.0 (keys_of own)) in
      let later : (asn : ℕ) → has (keys_of own) asn ≡ true → IsTold asn = λ asn there. each asn (or_later e.0 (keys_of own) asn there) in
      ap (λ (b : Bool). (if b then [] else peer_row (idle_summary roles e.0)) ++ concat (map (idle_piece roles seen) own)) here
      ∙ idle_first e.0 (keys_of own) (concat (map (idle_piece roles seen) own)) (has_routes rows e.0) (idle_pieces own later) where
        or_first : (x : ℕ) (xs : List ℕ) → has (x ∷ xs) x ≡ true
        or_first x xs = ap (λ (b : Bool). b || has xs x) (nat_eq_equiv.refl x)

        or_later : (x : ℕ) (xs : List ℕ) (asn : ℕ) → has xs asn ≡ true → has (x ∷ xs) asn ≡ true
        or_later x xs asn there = by (nat_eq x asn) there where
          by : (b : Bool) → has xs asn ≡ true → (b || has xs asn) ≡ true
          by true h = refl
          by false h = h

-- ---- line by line

module _ (roles : Relations) (seen : List ℕ) (peers : ByPeer) (own : List (ℕ × Role)) (set_is : fin.from_entries {R = nat_cmp} own ≡ roles.set) (rising : IsStrictlySortedBy nat_cmp (keys_of own))
    (sorted : IsStrictlySortedBy peer_cmp (keys_of peers)) (have : HaveRoutes peers)
    (noted : (a : ℕ) → has seen a ≡ (is_some (fin.get roles.set a) && is_seen peers a)) where
  own_keys : fin.keys roles.set ≡ keys_of own
  own_keys = ap (λ (m : fin.FinMap nat_cmp Role). fin.keys m) (sym set_is) ∙ ap keys_of (entries_whole nat_cmp_total own rising)

  -- each AS with a role of its own is noted where it has routes
  each_told : (asn : ℕ) → has (keys_of own) asn ≡ true → has seen asn ≡ has_routes (all_rows peers) asn
  each_told asn there =
      let is_own : is_some (fin.get roles.set asn) ≡ true =
      fin.contains_key-keys roles.set asn ∙ has_key (fin.keys roles.set) asn ∙ ap (λ (ks : List ℕ). has ks asn) own_keys ∙ there in
      noted asn ∙ ap (λ (b : Bool). b && is_seen peers asn) is_own ∙ sym (seen_same peers asn have)

  lines_are : concat (pieces roles seen peers own) ≡ flat_map peer_row (summaries_of roles (all_rows peers))
  lines_are =
      concat-append (map (piece_of roles) peers) (map (idle_piece roles seen) own)
      ∙ (λ i. of_peers i ++ of_idle i)
      ∙ sym (flat_map-append peer_row (map (peer_summary roles (all_rows peers)) (peers_of (all_rows peers))) (map (idle_summary roles) (idle_ases roles (all_rows peers)))) where
        mapped : (ps : ByPeer) → concat (map (piece_of roles) ps) ≡ flat_map peer_row (map (summary_under roles) ps)
        mapped [] = refl
        mapped (p ∷ ps) = ap (λ (t : List ℕ). piece_of roles p ++ t) (mapped ps)

        of_peers : concat (map (piece_of roles) peers) ≡ flat_map peer_row (map (peer_summary roles (all_rows peers)) (peers_of (all_rows peers)))
        of_peers = mapped peers
            ∙ ap (flat_map peer_row) (sym (ap (map (peer_summary roles (all_rows peers))) (peers_are peers sorted have) ∙ each_summed roles peers sorted))

        of_idle : concat (map (idle_piece roles seen) own) ≡ flat_map peer_row (map (idle_summary roles) (idle_ases roles (all_rows peers)))
        of_idle = idle_pieces roles seen (all_rows peers) own each_told
            ∙ ap (λ (ks : List ℕ). flat_map peer_row (map (idle_summary roles) (filter (λ asn. not (has_routes (all_rows peers) asn)) ks))) (sym own_keys)

  pub peers_listed : {T : Type 0} (state : State) (old new : Pouring) (result : Result T Stop) → state.roles ≡ roles → AreRows state (all_rows peers)
      → Listed (concat (pieces roles seen peers own)) old new result → Lists (ArePeers state) peer_row old new result
  peers_listed {T} state old new result same are listed = record {
    rows = summaries_of state.roles (all_rows peers);
    are = record { rows = all_rows peers; are = are; listed = refl };
    listed = subst (λ (t : List ℕ). Listed t old new result) (lines_are ∙ ap (λ (r : Relations). flat_map peer_row (summaries_of r (all_rows peers))) (sym same)) listed;
  }

-- what was noted of the same routes, gone over before
pub noted_before : (state : State) (own : ℕ → Bool) (seen : List ℕ) (before peers : ByPeer) → AreRows state (all_rows before) → HaveRoutes before → AreRows state (all_rows peers) → HaveRoutes peers
    → ((a : ℕ) → has seen a ≡ (own a && is_seen before a)) → (a : ℕ) → has seen a ≡ (own a && is_seen peers a)
noted_before state own seen before peers were had are have noted a =
    let rows = has_one_report state in
    let same : all_rows before ≡ all_rows peers = rows.only (all_rows before) were ∙ sym (rows.only (all_rows peers) are) in
    noted a ∙ ap (λ (b : Bool). own a && b) (sym (seen_same before a had) ∙ ap (λ (r : Rows). has_routes r a) same ∙ seen_same peers a have)

-- ---- each state has one list

pub one_list_of_peers : (state : State) → HasOne (ArePeers state)
one_list_of_peers state =
    let rows = has_one_report state in
    record {
      one = summaries_of state.roles rows.one;
      is = record { rows = rows.one; are = rows.is; listed = refl };
      only = λ other are. are.listed ∙ ap (summaries_of state.roles) (rows.only are.rows are.are);
    }

-- memory ran out before the first line
pub none_listed : {T : Type 0} (state : State) (old : Pouring) (result : Result T Stop) → result ≡ Err NoMemory → Lists (ArePeers state) peer_row old old result
none_listed state old result = let one = one_list_of_peers state in listing.none_listed (ArePeers state) peer_row one.one old result one.is

-- ---- lines

pub peers_are_lines : (summaries : List PeerSummary) → flat_map peer_row summaries ≡ lines_text (map peer_summary_line summaries)
peers_are_lines [] = refl
peers_are_lines (summary ∷ summaries) = ap (λ (t : List ℕ). peer_row summary ++ t) (peers_are_lines summaries)

pub peers_answer : (summaries : List PeerSummary) → All IsAnswerLine (map peer_summary_line summaries)
peers_answer summaries = All-map IsAnswerLine peer_summary_line summaries (λ k summary within. peer_summary_is_one_line _)
