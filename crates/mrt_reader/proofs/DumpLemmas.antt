-- The route of a TABLE_DUMP record is read exactly where there is one.
use Rattle.std.proofs.Common.{◌≡◌, ℕ, Bool, false, List, [], ◌∷◌, ◌++◌, length, Some, refl, sym, ap, subst, ◌∙◌}
use Rattle.std.proofs.lemmas.List.{append-nil}
use Rattle.std.proofs.lemmas.Option.{same_Some, some_pair_parts}
use Rattle.path_model.specs.declared.addr.Addr.{Addr}
use Rattle.path_model.specs.declared.peer.Peer.{Peer}
use Rattle.path_model.specs.Prefix.{prefix_of}
use Rattle.bgp_attrs.specs.Blocks.{IsBlock, block_at}
use Rattle.bgp_attrs.proofs.BlockLemmas.{block_reader}
use Rattle.bgp_attrs.proofs.FixedLemmas.{and_then_some, Reads, and_then_is, three_parts, cut_at, cut_finds, asn_finds, asn_only, addr_finds, addr_only}
use Rattle.mrt_reader.specs.Dumps.{Dumped, IsTableDump}
use Rattle.bgp_attrs.specs.Fixed.{SpellsAsn, SpellsAddr, cut, byte_at, asn_at, addr_at}
use Rattle.mrt_reader.specs.Readers.{ends, last_block, route_at, dump_at}

pub ends_some : {A : Type 0} (x y : A) (rest : List ℕ) → ends x rest ≡ Some y → (x ≡ y) × (rest ≡ [])
ends_some x y [] e = (same_Some x y e, refl)
ends_some x y (b ∷ rest) e = absurd cc

-- ---- the attributes

last_finds : (bytes block : List ℕ) → last_block bytes ≡ Some block → IsBlock bytes block
unfolding last_block
last_finds bytes block e =
    let a = and_then_some _ (block_at bytes) block e in
    let f = block_reader.finds bytes a.0.0 a.0.1 a.1 in
    let n = ends_some a.0.0 block a.0.1 a.2 in
    let whole : bytes ≡ f.front = f.whole ∙ ap (λ (xs : List ℕ). f.front ++ xs) n.1 ∙ append-nil f.front in
    subst (λ (b : List ℕ). IsBlock b block) (sym whole) (subst (λ (b : List ℕ). IsBlock f.front b) n.0 f.spelled)

last_only : (bytes block : List ℕ) → IsBlock bytes block → last_block bytes ≡ Some block
unfolding last_block
last_only bytes block is =
    and_then_is _ (block_at bytes) (block, []) (Some block) (block_reader.only bytes block [] (record { front = bytes; spelled = is; whole = sym (append-nil bytes) })) refl

-- ---- the route

-- the bytes behind the prefix: time, the peer, the attributes
record IsRoutePart (six : Bool) (bytes : List ℕ) (peer : Peer) (attributes : List ℕ) : Type 0 where
  time : List ℕ
  addr : List ℕ
  asn : List ℕ
  block : List ℕ
  five : length time ≡ 5
  is_addr : SpellsAddr six addr peer.addr
  is_asn : SpellsAsn false asn peer.asn
  is_block : IsBlock block attributes
  whole : bytes ≡ time ++ (addr ++ (asn ++ block))

route_finds : (six : Bool) (bytes : List ℕ) (peer : Peer) (attributes : List ℕ) → route_at six bytes ≡ Some (peer, attributes) → IsRoutePart six bytes peer attributes
unfolding route_at
route_finds six bytes peer attributes e =
    let a = and_then_some _ (cut 5 bytes) (peer, attributes) e in
    let b = and_then_some _ (addr_at six a.0.1) (peer, attributes) a.2 in
    let c = and_then_some _ (asn_at false b.0.1) (peer, attributes) b.2 in
    let d = and_then_some _ (last_block c.0.1) (peer, attributes) c.2 in
    let made = some_pair_parts (record { addr = b.0.0; asn = c.0.0 }) peer d.0 attributes d.2 in
    let i = cut_finds 5 bytes a.0 a.1 in
    let f = addr_finds six a.0.1 b.0.0 b.0.1 b.1 in
    let g = asn_finds false b.0.1 c.0.0 c.0.1 c.1 in
    let block = subst (λ (attrs : List ℕ). IsBlock c.0.1 attrs) made.1 (last_finds c.0.1 d.0 d.1) in
    subst (λ (p : Peer). IsRoutePart six bytes p attributes) made.0 (record {
      time = a.0.0;
      addr = f.0;
      asn = g.0;
      block = c.0.1;
      five = i.0;
      is_addr = f.1;
      is_asn = g.1;
      is_block = block;
      whole = three_parts bytes a.0.0 a.0.1 f.0 b.0.1 g.0 c.0.1 i.1 f.2 g.2;
    })

route_only : (six : Bool) (time addr asn block : List ℕ) (peer : Peer) (attributes : List ℕ) → length time ≡ 5 → SpellsAddr six addr peer.addr → SpellsAsn false asn peer.asn → IsBlock block attributes
    → route_at six (time ++ (addr ++ (asn ++ block))) ≡ Some (peer, attributes)
unfolding route_at
route_only six time addr asn block peer attributes five is_addr is_asn is_block =
    let found = Some (peer, attributes) in
    and_then_is _ (cut 5 (time ++ (addr ++ (asn ++ block)))) (time, addr ++ (asn ++ block)) found (cut_at 5 time (addr ++ (asn ++ block)) five)
    (and_then_is _ (addr_at six (addr ++ (asn ++ block))) (peer.addr, asn ++ block) found (addr_only six addr peer.addr (asn ++ block) is_addr)
    (and_then_is _ (asn_at false (asn ++ block)) (peer.asn, block) found (asn_only false asn peer.asn block is_asn)
    (and_then_is _ (last_block block) attributes found (last_only block attributes is_block) refl)))

-- ---- the whole body

byte_finds : (bytes : List ℕ) (x : ℕ × List ℕ) → byte_at bytes ≡ Some x → bytes ≡ x.0 ∷ x.1
byte_finds [] x e = absurd cc
byte_finds (n ∷ bytes) x e = ap (λ (p : ℕ × List ℕ). p.0 ∷ p.1) (same_Some (n, bytes) x e)

dump_whole : (body sequence rest addr behind : List ℕ) (len : ℕ) (last route : List ℕ) → body ≡ sequence ++ rest → rest ≡ addr ++ behind → behind ≡ len ∷ last → last ≡ route → body ≡ sequence ++ (addr ++ (len ∷ route))
dump_whole body sequence rest addr behind len last route p q r s = p ∙ ap (λ (xs : List ℕ). sequence ++ xs) (q ∙ ap (λ (xs : List ℕ). addr ++ xs) (r ∙ ap (λ (xs : List ℕ). len ∷ xs) s))

dump_finds : (six : Bool) (body : List ℕ) (dumped : Dumped) → dump_at six body ≡ Some dumped → IsTableDump six body dumped
unfolding dump_at
dump_finds six body dumped e =
    let a = and_then_some _ (cut 4 body) dumped e in
    let b = and_then_some _ (addr_at six a.0.1) dumped a.2 in
    let c = and_then_some _ (byte_at b.0.1) dumped b.2 in
    let d = and_then_some _ (prefix_of b.0.0 c.0.0) dumped c.2 in
    let r = and_then_some _ (route_at six c.0.1) dumped d.2 in
    let i = cut_finds 4 body a.0 a.1 in
    let f = addr_finds six a.0.1 b.0.0 b.0.1 b.1 in
    let l = byte_finds b.0.1 c.0 c.1 in
    let route = route_finds six c.0.1 r.0.0 r.0.1 r.1 in
    subst (λ (x : Dumped). IsTableDump six body x) (same_Some (record { prefix = d.0; peer = r.0.0; attributes = r.0.1 }) dumped r.2) (record {
      sequence = a.0.0;
      addr = f.0;
      len = c.0.0;
      time = route.time;
      peer_addr = route.addr;
      peer_asn = route.asn;
      block = route.block;
      four = i.0;
      prefix_addr = b.0.0;
      is_addr = f.1;
      is_prefix = d.1;
      five = route.five;
      is_peer_addr = route.is_addr;
      is_peer_asn = route.is_asn;
      is_block = route.is_block;
      whole = dump_whole body a.0.0 a.0.1 f.0 b.0.1 c.0.0 c.0.1 (route.time ++ (route.addr ++ (route.asn ++ route.block))) i.1 f.2 l route.whole;
    })

dump_here : (six : Bool) (sequence addr : List ℕ) (len : ℕ) (rest : List ℕ) (dumped : Dumped) (prefix_addr : Addr) → length sequence ≡ 4 → SpellsAddr six addr prefix_addr → prefix_of prefix_addr len ≡ Some dumped.prefix
    → route_at six rest ≡ Some (dumped.peer, dumped.attributes) → dump_at six (sequence ++ (addr ++ (len ∷ rest))) ≡ Some dumped
unfolding dump_at
dump_here six sequence addr len rest dumped prefix_addr four is_addr is_prefix route =
    and_then_is _ (cut 4 (sequence ++ (addr ++ (len ∷ rest)))) (sequence, addr ++ (len ∷ rest)) (Some dumped) (cut_at 4 sequence (addr ++ (len ∷ rest)) four)
    (and_then_is _ (addr_at six (addr ++ (len ∷ rest))) (prefix_addr, len ∷ rest) (Some dumped) (addr_only six addr prefix_addr (len ∷ rest) is_addr)
    (and_then_is _ (prefix_of prefix_addr len) dumped.prefix (Some dumped) is_prefix
    (and_then_is _ (route_at six rest) (dumped.peer, dumped.attributes) (Some dumped) route refl)))

dump_only : (six : Bool) (body : List ℕ) (dumped : Dumped) → IsTableDump six body dumped → dump_at six body ≡ Some dumped
dump_only six body dumped is =
    ap (dump_at six) is.whole
    ∙ dump_here six is.sequence is.addr is.len (is.time ++ (is.peer_addr ++ (is.peer_asn ++ is.block))) dumped is.prefix_addr is.four is.is_addr is.is_prefix
    (route_only six is.time is.peer_addr is.peer_asn is.block dumped.peer dumped.attributes is.five is.is_peer_addr is.is_peer_asn is.is_block)

pub dump_reads : (six : Bool) (body : List ℕ) → Reads (IsTableDump six body) (dump_at six body)
dump_reads six body = record { finds = dump_finds six body; only = dump_only six body }
