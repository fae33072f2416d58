-- A peer table is read exactly where there is one.
use Rattle.std.proofs.Common.{◌≡◌, ℕ, true, List, [], ◌∷◌, ◌++◌, length, Some, refl, sym, ap, subst, ◌∙◌, append_assoc, arith}
use Rattle.std.specs.Prelude.{◌==◌}
use Rattle.std.proofs.lemmas.Bool.Decides.{nat_tests}
use Rattle.std.proofs.lemmas.Option.{cond_some, some_pair_parts}
use Rattle.path_model.specs.declared.peer.Peer.{Peer}
use Rattle.held_bytes.specs.Units.{Begins}
use Rattle.bgp_attrs.specs.Blocks.{IsBlock, block_at}
use Rattle.bgp_attrs.specs.Joined.{IsReader, items_of}
use Rattle.bgp_attrs.proofs.BlockLemmas.{block_reader}
use Rattle.bgp_attrs.proofs.FixedLemmas.{and_then_some, Reads, and_then_is, three_parts, cut_at, cut_finds, two_finds, two_only, asn_finds, asn_only, addr_finds, addr_only}
use Rattle.bgp_attrs.proofs.JoinedLemmas.{items_from, joined_from}
use Rattle.bgp_attrs.specs.Fixed.{SpellsAsn, SpellsAddr, cut, asn_at, addr_at, two_at}
use Rattle.mrt_reader.specs.Peers.{is_six, is_wide, IsPeer, IsPeerTable}
use Rattle.mrt_reader.specs.Readers.{peer_at, counted, counted_part, table_at}

-- ---- one peer

regrouped : (a b c rest : List ℕ) → (a ++ (b ++ c)) ++ rest ≡ a ++ (b ++ (c ++ rest))
regrouped a b c rest = simp append_assoc

peer_whole : (bytes a ra b rb c rc rest : List ℕ) → bytes ≡ a ++ ra → ra ≡ b ++ rb → rb ≡ c ++ rc → rc ≡ rest → bytes ≡ (a ++ (b ++ c)) ++ rest
peer_whole bytes a ra b rb c rc rest p q r s = three_parts bytes a ra b rb c rest p q (r ∙ ap (λ (xs : List ℕ). c ++ xs) s) ∙ sym (regrouped a b c rest)

peer_finds : (bytes : List ℕ) (peer : Peer) (rest : List ℕ) → peer_at bytes ≡ Some (peer, rest) → Begins IsPeer bytes peer rest
unfolding peer_at
peer_finds [] peer rest e = absurd cc
peer_finds (kind ∷ bytes) peer rest e =
    let a = and_then_some _ (cut 4 bytes) (peer, rest) e in
    let b = and_then_some _ (addr_at (is_six kind) a.0.1) (peer, rest) a.2 in
    let c = and_then_some _ (asn_at (is_wide kind) b.0.1) (peer, rest) b.2 in
    let made = some_pair_parts (record { addr = b.0.0; asn = c.0.0 }) peer c.0.1 rest c.2 in
    let i = cut_finds 4 bytes a.0 a.1 in
    let f = addr_finds (is_six kind) a.0.1 b.0.0 b.0.1 b.1 in
    let g = asn_finds (is_wide kind) b.0.1 c.0.0 c.0.1 c.1 in
    subst (λ (p : Peer). Begins IsPeer (kind ∷ bytes) p rest) made.0 (record {
      front = kind ∷ (a.0.0 ++ (f.0 ++ g.0));
      spelled = record { kind = kind; identifier = a.0.0; addr = f.0; asn = g.0; four = i.0; is_addr = f.1; is_asn = g.1; whole = refl };
      whole = ap (λ (xs : List ℕ). kind ∷ xs) (peer_whole bytes a.0.0 a.0.1 f.0 b.0.1 g.0 c.0.1 rest i.1 f.2 g.2 made.1);
    })

peer_here : (kind : ℕ) (identifier addr asn rest : List ℕ) (peer : Peer) → length identifier ≡ 4 → SpellsAddr (is_six kind) addr peer.addr → SpellsAsn (is_wide kind) asn peer.asn
    → peer_at (kind ∷ (identifier ++ (addr ++ (asn ++ rest)))) ≡ Some (peer, rest)
unfolding peer_at
peer_here kind identifier addr asn rest peer four is_addr is_asn =
    and_then_is _ (cut 4 (identifier ++ (addr ++ (asn ++ rest)))) (identifier, addr ++ (asn ++ rest)) (Some (peer, rest)) (cut_at 4 identifier (addr ++ (asn ++ rest)) four)
    (and_then_is _ (addr_at (is_six kind) (addr ++ (asn ++ rest))) (peer.addr, asn ++ rest) (Some (peer, rest)) (addr_only (is_six kind) addr peer.addr (asn ++ rest) is_addr)
    (and_then_is _ (asn_at (is_wide kind) (asn ++ rest)) (peer.asn, rest) (Some (peer, rest)) (asn_only (is_wide kind) asn peer.asn rest is_asn) refl))

peer_only : (bytes : List ℕ) (peer : Peer) (rest : List ℕ) → Begins IsPeer bytes peer rest → peer_at bytes ≡ Some (peer, rest)
peer_only bytes peer rest b =
    let s = b.spelled in
    let bytes-is : bytes ≡ s.kind ∷ (s.identifier ++ (s.addr ++ (s.asn ++ rest))) = b.whole ∙ ap (λ (xs : List ℕ). xs ++ rest) s.whole ∙ ap (λ (xs : List ℕ). s.kind ∷ xs) (regrouped s.identifier s.addr s.asn rest) in
    ap peer_at bytes-is ∙ peer_here s.kind s.identifier s.addr s.asn rest peer s.four s.is_addr s.is_asn

pub peer_reader : IsReader IsPeer peer_at
peer_reader = record { finds = peer_finds; only = peer_only; some = λ front peer s. omega (arith, ap length s.whole) }

-- ---- the table

part_here : (collector name view count behind : List ℕ) (n : ℕ) → length collector ≡ 4 → Begins IsBlock (name ++ (count ++ behind)) view (count ++ behind) → two_at (count ++ behind) ≡ Some (n, behind)
    → counted_part (collector ++ (name ++ (count ++ behind))) ≡ Some (n, behind)
part_here collector name view count behind n four block counts =
    and_then_is _ (cut 4 (collector ++ (name ++ (count ++ behind)))) (collector, name ++ (count ++ behind)) (Some (n, behind)) (cut_at 4 collector (name ++ (count ++ behind)) four)
    (and_then_is _ (block_at (name ++ (count ++ behind))) (view, count ++ behind) (Some (n, behind)) (block_reader.only (name ++ (count ++ behind)) view (count ++ behind) block) counts)

table_finds : (body : List ℕ) (peers : List Peer) → table_at body ≡ Some peers → IsPeerTable body peers
unfolding table_at
table_finds body peers e =
    let a = and_then_some _ (counted_part body) peers e in
    let b = and_then_some _ (items_of peer_at a.0.1) peers a.2 in
    let c = cond_some (length b.0 == a.0.0) b.0 peers b.2 in
    let p = and_then_some _ (cut 4 body) a.0 a.1 in
    let q = and_then_some _ (block_at p.0.1) a.0 p.2 in
    let r = two_finds q.0.1 a.0.0 a.0.1 q.2 in
    let i = cut_finds 4 body p.0 p.1 in
    let f = block_reader.finds p.0.1 q.0.0 q.0.1 q.1 in
    let same : a.0.0 ≡ length b.0 = (let test : (length b.0 == a.0.0) ≡ true = c.0 in grind (arith, nat_tests)) in
    subst (λ (ps : List Peer). IsPeerTable body ps) c.1 (record {
      collector = p.0.0;
      name = f.front;
      view = q.0.0;
      count = r.0;
      behind = a.0.1;
      four = i.0;
      is_name = f.spelled;
      counts = (r.1.0, r.1.1 ∙ same);
      are_peers = joined_from peer_reader a.0.1 b.0 b.1;
      whole = three_parts body p.0.0 p.0.1 f.front q.0.1 r.0 a.0.1 i.1 f.whole r.2;
    })

counted_same : (peers : List Peer) → counted (length peers) peers ≡ Some peers
counted_same peers = let test : (length peers == length peers) ≡ true = grind (arith, nat_tests) in rw test refl

table_here : (body : List ℕ) (peers : List Peer) (behind : List ℕ) → counted_part body ≡ Some (length peers, behind) → items_of peer_at behind ≡ Some peers → table_at body ≡ Some peers
unfolding table_at
table_here body peers behind part items =
    and_then_is _ (counted_part body) (length peers, behind) (Some peers) part (and_then_is _ (items_of peer_at behind) peers (Some peers) items (counted_same peers))

table_only : (body : List ℕ) (peers : List Peer) → IsPeerTable body peers → table_at body ≡ Some peers
table_only body peers is =
    let block : Begins IsBlock (is.name ++ (is.count ++ is.behind)) is.view (is.count ++ is.behind) = record { front = is.name; spelled = is.is_name; whole = refl } in
    ap table_at is.whole
    ∙ table_here (is.collector ++ (is.name ++ (is.count ++ is.behind))) peers is.behind
    (part_here is.collector is.name is.view is.count is.behind (length peers) is.four block (two_only is.count (length peers) is.behind is.counts))
    (items_from peer_reader is.behind peers is.are_peers)

pub table_reads : (body : List ℕ) → Reads (IsPeerTable body) (table_at body)
table_reads body = record { finds = table_finds body; only = table_only body }
