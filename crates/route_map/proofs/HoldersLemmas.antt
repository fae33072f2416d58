-- The holders of a number are the peers with a route that has it.
use Rattle.std.proofs.Common.{◌≡◌, ◌↔◌, ℕ, nat_eq, ◌+◌, Bool, true, false, cond, not, ◌||◌, ◌&&◌, List, [], ◌∷◌, None, Some, arith, refl, ap, sym, subst, ◌∙◌, true≢false}
use Rattle.std.specs.declared.cmp.Ordering.{Ordering}
use Rattle.std.specs.declared.cmp.Ordering.TheVariants.{Less, Equal, Greater}
use Rattle.std.specs.declared.ops.Bound.TheVariants.{Included, Excluded}
use Rattle.std.specs.declared.option.Option.{Option}
use Rattle.std.specs.BTreeMap.{is_at}
use Rattle.std.specs.BTreeMap.Range.{range_contains}
use Rattle.std.specs.Cmp.{nat_cmp_is, unsigned_tied, Equal-is, eq_by_cmp_equiv}
use Rattle.std.specs.List.{list_any, filter}
use Rattle.std.specs.Ordering.{nat_cmp, ordering_then, is_eq, is_gt, is_le}
use Rattle.std.proofs.lemmas.Bool.{and_parts}
use Rattle.std.proofs.lemmas.Map.Views.{exact_unsigned_eq}
use Rattle.path_model.specs.declared.addr.Addr.TheVariants.{V4}
use Rattle.path_model.specs.declared.key.Key.{Key}
use Rattle.path_model.specs.declared.nlri.Nlri.{Nlri}
use Rattle.path_model.specs.declared.peer.Peer.{Peer}
use Rattle.path_model.specs.Key.{peer_cmp, nlri_cmp, nlri_of, key_of, key_cmp}
use Rattle.path_model.specs.Order.{addr_total, nlri_total}
use Rattle.path_model.specs.Prefix.{addr_cmp}
use Rattle.path_model.proofs.OrderLemmas.{peer_exact}
use Rattle.route_map.specs.Holders.{Holder, holder_of, holder_cmp, is_holder, HasNumber, AreHolders, is_this, AreHoldersBut}
use Rattle.route_map.specs.Keys.{Entries, at, place_of, found_has, has, has_key}
use Rattle.route_map.specs.Numbered.{has_number, IsSame, SetsNumber, GivesOf}
use Rattle.route_map.proofs.KeysLemmas.{peer_at, and_swap}
use Rattle.route_map.proofs.NumberedLemmas.{is_eq_then, key_at, in_range, addr_least, and_none, and_true, or_none, number_of_pair, pair_of_number}

-- ---- what is found of a peer tells whether it has a number
pub found_number : (index : Entries) (peer : Peer) (n : ℕ) (pairs : List (ℕ × Nlri)) → at index (place_of peer) ≡ Some pairs → (has_number pairs n ≡ true) ↔ HasNumber index peer n
found_number index peer n pairs there = (
  λ yes. let one : (s : Nlri) × (found_has (Some pairs) (n, s) ≡ true) = pair_of_number pairs n yes in
      (one.0, ap (λ (o : Option (List (ℕ × Nlri))). found_has o (n, one.0)) there ∙ one.1),
  λ one. number_of_pair pairs n one.0 (ap (λ (o : Option (List (ℕ × Nlri))). found_has o (n, one.0)) (sym there) ∙ one.1),
)

pub none_found : (index : Entries) (peer : Peer) (n : ℕ) → at index (place_of peer) ≡ None → HasNumber index peer n → ⊥
none_found index peer n none one = true≢false (sym one.1 ∙ ap (λ (o : Option (List (ℕ × Nlri))). found_has o (n, one.0)) none)

-- ---- the tests for a holder
and_both : (a b c : Bool) → ((a && b) && c) ≡ (a && (b && c))
and_both true b c = refl
and_both false b c = refl

holder_at : (a b : Holder) → is_at (holder_cmp a) b ≡ (nat_eq a.0 b.0 && (nat_eq a.1 b.1 && is_at (addr_cmp a.2) b.2))
holder_at a b =
    is_eq_then (ordering_then (nat_cmp a.0 b.0) (nat_cmp a.1 b.1)) (addr_cmp a.2 b.2)
    ∙ ap (λ (t : Bool). t && is_at (addr_cmp a.2) b.2) (is_eq_then (nat_cmp a.0 b.0) (nat_cmp a.1 b.1))
    ∙ and_both (is_eq (nat_cmp a.0 b.0)) (is_eq (nat_cmp a.1 b.1)) (is_at (addr_cmp a.2) b.2)
    ∙ ap (λ (t : Bool). t && (is_eq (nat_cmp a.1 b.1) && is_at (addr_cmp a.2) b.2)) (unsigned_tied a.0 b.0)
    ∙ ap (λ (t : Bool). nat_eq a.0 b.0 && (t && is_at (addr_cmp a.2) b.2)) (unsigned_tied a.1 b.1)

this_at : (a b : Peer) (m n : ℕ) → is_at (holder_cmp (holder_of a m)) (holder_of b n) ≡ is_this a m b n
this_at a b m n =
    holder_at (holder_of a m) (holder_of b n)
    ∙ ap (λ (t : Bool). nat_eq m n && t) (and_swap (nat_eq a.asn b.asn) (is_at (addr_cmp a.addr) b.addr) ∙ sym (peer_at a b))

-- what holds of this peer and this number holds where they are meant
at_this : (P : Peer → ℕ → Type 0) (a b : Peer) (m n : ℕ) → is_this a m b n ≡ true → P a m → P b n
at_this P a b m n is holds =
    let parts = and_parts (nat_eq m n) (is_at (peer_cmp a) b) is in
    subst (λ (p : Peer). P p n) (peer_exact a b ((Equal-is (peer_cmp a b)).0 parts.1)) (subst (λ (k : ℕ). P a k) (exact_unsigned_eq m n parts.0) holds)

-- ---- one holder more or less
abbrev Moves : List Holder → Peer → ℕ → Bool → List Holder → Type 0
Moves before peer number held after = (p : Peer) (n : ℕ) → is_holder after p n ≡ cond (is_this peer number p n) held (is_holder before p n)

-- what a set's call ensures
abbrev Sets : List Holder → Holder → Bool → List Holder → Type 0
Sets before h held after = (q : Holder) → list_any (is_at (holder_cmp q)) after ≡ cond (is_at (holder_cmp h) q) held (list_any (is_at (holder_cmp q)) before)

moves : (before after : List Holder) (h : Holder) (peer : Peer) (number : ℕ) (held : Bool) → h ≡ holder_of peer number → Sets before h held after → Moves before peer number held after
moves before after h peer number held is sets p n =
    sets (holder_of p n)
    ∙ ap (λ (x : Holder). cond (is_at (holder_cmp x) (holder_of p n)) held (is_holder before p n)) is
    ∙ ap (λ (t : Bool). cond t held (is_holder before p n)) (this_at peer p number n)

-- ---- one number more or less
shuffle : (a b c : Bool) → ((a && b) && c) ≡ ((c && a) && b)
shuffle true true true = refl
shuffle true true false = refl
shuffle true false true = refl
shuffle true false false = refl
shuffle false b true = refl
shuffle false b false = refl

-- whether the route of the peer with this prefix is set
pub is_set : (key : Key) (number : ℕ) (p : Peer) (n : ℕ) (s : Nlri) → (is_at (key_cmp key) (key_of p s) && nat_eq number n) ≡ (is_this key.peer number p n && is_at (nlri_cmp (nlri_of key)) s)
is_set key number p n s =
    ap (λ (t : Bool). t && nat_eq number n) (key_at key (key_of p s))
    ∙ shuffle (is_at (peer_cmp key.peer) p) (is_at (nlri_cmp (nlri_of key)) s) (nat_eq number n)

module _ (before after : Entries) (key : Key) (number : ℕ) (held : Bool) (sets : SetsNumber before key number held after) where
  set_at : (p : Peer) (n : ℕ) (s : Nlri) (b : Bool) → is_this key.peer number p n ≡ b
      → has after n (key_of p s) ≡ cond (b && is_at (nlri_cmp (nlri_of key)) s) held (has before n (key_of p s))
  set_at p n s b is =
      sets n (key_of p s)
      ∙ ap (λ (t : Bool). cond t held (has before n (key_of p s))) (is_set key number p n s)
      ∙ ap (λ (t : Bool). cond (t && is_at (nlri_cmp (nlri_of key)) s) held (has before n (key_of p s))) is

  -- another peer, or another number, is as before
  other_is : (p : Peer) (n : ℕ) → is_this key.peer number p n ≡ false → HasNumber before p n ↔ HasNumber after p n
  other_is p n other = (
    λ one. (one.0, set_at p n one.0 false other ∙ one.1),
    λ one. (one.0, sym (set_at p n one.0 false other) ∙ one.1),
  )

-- ---- the calls that change them
module _ (before after : Entries) (holders : List Holder) (are : AreHolders before holders) (key : Key) (number : ℕ) where
  -- the route got the number
  pub held_more : (more : List Holder) (h : Holder) → h ≡ holder_of key.peer number → Sets holders h true more → SetsNumber before key number true after → AreHolders after more
  held_more more h is goes_in sets p n = by_case (is_this key.peer number p n) refl where
    step : is_holder more p n ≡ cond (is_this key.peer number p n) true (is_holder holders p n)
    step = moves holders more h key.peer number true is goes_in p n

    by_case : (b : Bool) → is_this key.peer number p n ≡ b → (is_holder more p n ≡ true) ↔ HasNumber after p n
    by_case true this = (
      λ yes. (
        (nlri_of key),
        set_at before after key number true sets p n (nlri_of key) true this
            ∙ ap (λ (t : Bool). cond t true (has before n (key_of p (nlri_of key)))) ((eq_by_cmp_equiv nlri_total).refl (nlri_of key)),
      ),
      λ one. step ∙ ap (λ (t : Bool). cond t true (is_holder holders p n)) this,
    )
    by_case false other =
        let same : is_holder more p n ≡ is_holder holders p n = step ∙ ap (λ (t : Bool). cond t true (is_holder holders p n)) other in
        let routes : HasNumber before p n ↔ HasNumber after p n = other_is before after key number true sets p n other in (
          λ yes. routes.0 ((are p n).0 (sym same ∙ yes)),
          λ one. same ∙ (are p n).1 (routes.1 one),
        )

  -- there was no memory for it
  pub held_in_vain : (more : List Holder) (h : Holder) → h ≡ holder_of key.peer number → Sets holders h true more → IsSame before after → AreHoldersBut after more key.peer number
  held_in_vain more h is goes_in same = record {
    here = λ one. step key.peer number ∙ at_most (is_this key.peer number key.peer number) (is_holder holders key.peer number) ((are key.peer number).1 (one.0, sym (same number (key_of key.peer one.0)) ∙ one.1));
    others = λ p n other.
        let stays : is_holder more p n ≡ is_holder holders p n = step p n ∙ ap (λ (t : Bool). cond t true (is_holder holders p n)) other in (
          λ yes. let one : HasNumber before p n = (are p n).0 (sym stays ∙ yes) in (one.0, same n (key_of p one.0) ∙ one.1),
          λ one. stays ∙ (are p n).1 (one.0, sym (same n (key_of p one.0)) ∙ one.1),
        );
  } where
    step : Moves holders key.peer number true more
    step = moves holders more h key.peer number true is goes_in

    at_most : (b t : Bool) → t ≡ true → cond b true t ≡ true
    at_most true t is = refl
    at_most false t is = is

  -- the route lost the number
  pub held_still : SetsNumber before key number false after → AreHoldersBut after holders key.peer number
  held_still sets = record {
    here = λ one. (are key.peer number).1 (
      one.0,
      had (is_at (key_cmp key) (key_of key.peer one.0) && nat_eq number number) (has before number (key_of key.peer one.0))
          (sym (sets number (key_of key.peer one.0)) ∙ one.1),
    );
    others = λ p n other.
        let routes : HasNumber before p n ↔ HasNumber after p n = other_is before after key number false sets p n other in
        (λ yes. routes.0 ((are p n).0 yes), λ one. (are p n).1 (routes.1 one));
  } where
    had : (b t : Bool) → cond b false t ≡ true → t ≡ true
    had true t is = absurd (true≢false (sym is))
    had false t is = is

-- ---- a holder without need goes
module _ (index : Entries) (holders : List Holder) (peer : Peer) (number : ℕ) (are : AreHoldersBut index holders peer number) where
  pub needed : HasNumber index peer number → AreHolders index holders
  needed one p n = by_case (is_this peer number p n) refl where
    by_case : (b : Bool) → is_this peer number p n ≡ b → (is_holder holders p n ≡ true) ↔ HasNumber index p n
    by_case true this = at_this (λ (a : Peer) (m : ℕ). (is_holder holders a m ≡ true) ↔ HasNumber index a m) peer p number n this (λ yes. one, λ has. are.here one)
    by_case false other = are.others p n other

  pub needless : (HasNumber index peer number → ⊥) → (less : List Holder) (h : Holder) → h ≡ holder_of peer number → Sets holders h false less → AreHolders index less
  needless none less h is goes_out p n = by_case (is_this peer number p n) refl where
    step : is_holder less p n ≡ cond (is_this peer number p n) false (is_holder holders p n)
    step = moves holders less h peer number false is goes_out p n

    by_case : (b : Bool) → is_this peer number p n ≡ b → (is_holder less p n ≡ true) ↔ HasNumber index p n
    by_case true this = (
      λ yes. absurd (true≢false (sym yes ∙ step ∙ ap (λ (t : Bool). cond t false (is_holder holders p n)) this)),
      λ one. absurd (at_this (λ (a : Peer) (m : ℕ). HasNumber index a m → ⊥) peer p number n this none one),
    )
    by_case false other =
        let same : is_holder less p n ≡ is_holder holders p n = step ∙ ap (λ (t : Bool). cond t false (is_holder holders p n)) other in
        (λ yes. (are.others p n other).0 (sym same ∙ yes), λ one. same ∙ (are.others p n other).1 one)

pub none_hold : AreHolders [] []
none_hold p n = (λ yes. absurd (true≢false (sym yes)), λ one. absurd (true≢false (sym one.1)))

-- ---- the holders of one number and one AS
-- the key's peer is one of these
abbrev pub is_among : ℕ → Key → List Holder → Bool
is_among asn q hs = list_any (λ h. is_at (peer_cmp (record { addr = h.2; asn = asn })) q.peer) hs

and_either : (a b c : Bool) → ((a && b) || (a && c)) ≡ (a && (b || c))
and_either true b c = refl
and_either false b c = refl

module _ (asn next number : ℕ) (is_next : next ≡ asn + 1) where
  -- the range of the two runs forward
  pub runs_forward : is_gt (holder_cmp (number, asn, V4 0) (number, next, V4 0)) ≡ false
  runs_forward =
      ap (λ (o : Ordering). is_gt (ordering_then (ordering_then o (nat_cmp asn next)) (addr_cmp (V4 0) (V4 0)))) (sym (nat_cmp_is number number Equal refl))
      ∙ ap (λ (o : Ordering). is_gt (ordering_then o (addr_cmp (V4 0) (V4 0)))) (sym (nat_cmp_is asn next Less (omega (arith, is_next))))

  in_holders : (h : Holder) → range_contains holder_cmp (Included (number, asn, V4 0)) (Excluded (number, next, V4 0)) h ≡ (nat_eq number h.0 && nat_eq asn h.1)
  in_holders h = by_order (nat_cmp number h.0) ∙ ap (λ (t : Bool). t && nat_eq asn h.1) (unsigned_tied number h.0) where
    by_order : (o : Ordering)
        → (is_le (ordering_then (ordering_then o (nat_cmp asn h.1)) (addr_cmp (V4 0) h.2)) && not (is_le (ordering_then (ordering_then o (nat_cmp next h.1)) (addr_cmp (V4 0) h.2))))
        ≡ (is_eq o && nat_eq asn h.1)
    by_order Less = refl
    by_order Equal = in_range addr_cmp (V4 0) asn next is_next (h.1, h.2) (addr_least h.2)
    by_order Greater = refl

  one_holder : (q : Key) (h : Holder) → ((nat_eq number h.0 && nat_eq asn h.1) && is_at (peer_cmp (record { addr = h.2; asn = asn })) q.peer) ≡ (nat_eq asn q.peer.asn && is_at (holder_cmp (holder_of q.peer number)) h)
  one_holder q h =
      ap (λ (t : Bool). (nat_eq number h.0 && nat_eq asn h.1) && t) (peer_at (record { addr = h.2; asn = asn }) q.peer)
      ∙ by_case (nat_eq asn q.peer.asn) refl
      ∙ ap (λ (t : Bool). nat_eq asn q.peer.asn && t) (sym (holder_at (holder_of q.peer number) h)) where
        by_case : (b : Bool) → nat_eq asn q.peer.asn ≡ b
            → ((nat_eq number h.0 && nat_eq asn h.1) && (is_at (addr_cmp h.2) q.peer.addr && b)) ≡ (b && (nat_eq number h.0 && (nat_eq q.peer.asn h.1 && is_at (addr_cmp q.peer.addr) h.2)))
        by_case true is =
            ap (λ (n : ℕ). (nat_eq number h.0 && nat_eq n h.1) && (is_at (addr_cmp h.2) q.peer.addr && true)) (exact_unsigned_eq asn q.peer.asn is)
            ∙ ap (λ (t : Bool). (nat_eq number h.0 && nat_eq q.peer.asn h.1) && t) (and_true (is_at (addr_cmp h.2) q.peer.addr) ∙ (eq_by_cmp_equiv addr_total).symm h.2 q.peer.addr)
            ∙ and_both (nat_eq number h.0) (nat_eq q.peer.asn h.1) (is_at (addr_cmp q.peer.addr) h.2)
        by_case false is = ap (λ (t : Bool). (nat_eq number h.0 && nat_eq asn h.1) && t) (and_none (is_at (addr_cmp h.2) q.peer.addr)) ∙ and_none (nat_eq number h.0 && nat_eq asn h.1)

  among_holders : (q : Key) (hs : List Holder) → is_among asn q (filter (range_contains holder_cmp (Included (number, asn, V4 0)) (Excluded (number, next, V4 0))) hs) ≡ (nat_eq asn q.peer.asn && is_holder hs q.peer number)
  among_holders q [] = sym (and_none (nat_eq asn q.peer.asn))
  among_holders q (h ∷ hs) =
      ap (λ (t : Bool). is_among asn q (cond t (h ∷ rest) rest)) (in_holders h)
      ∙ by_case (nat_eq number h.0 && nat_eq asn h.1)
      ∙ ap (λ (t : Bool). t || is_among asn q rest) (one_holder q h)
      ∙ ap (λ (t : Bool). (nat_eq asn q.peer.asn && is_at (holder_cmp (holder_of q.peer number)) h) || t) (among_holders q hs)
      ∙ and_either (nat_eq asn q.peer.asn) (is_at (holder_cmp (holder_of q.peer number)) h) (is_holder hs q.peer number) where
        rest : List Holder
        rest = filter (range_contains holder_cmp (Included (number, asn, V4 0)) (Excluded (number, next, V4 0))) hs

        by_case : (t : Bool) → is_among asn q (cond t (h ∷ rest) rest) ≡ ((t && is_at (peer_cmp (record { addr = h.2; asn = asn })) q.peer) || is_among asn q rest)
        by_case true = refl
        by_case false = refl

  -- exactly these holders have the number, if their AS is this one
  pub all_among : (index : Entries) (holders : List Holder) → AreHolders index holders → (q : Key)
      → (is_among asn q (filter (range_contains holder_cmp (Included (number, asn, V4 0)) (Excluded (number, next, V4 0))) holders) && has index number q) ≡ (nat_eq asn q.peer.asn && has index number q)
  all_among index holders are q = ap (λ (t : Bool). t && has index number q) (among_holders q holders) ∙ by_case (has index number q) refl where
    by_case : (b : Bool) → has index number q ≡ b → ((nat_eq asn q.peer.asn && is_holder holders q.peer number) && b) ≡ (nat_eq asn q.peer.asn && b)
    by_case true is = ap (λ (t : Bool). (nat_eq asn q.peer.asn && t) && true) ((are q.peer number).1 ((nlri_of q), is)) ∙ and_true (nat_eq asn q.peer.asn && true)
    by_case false is = and_none (nat_eq asn q.peer.asn && is_holder holders q.peer number) ∙ sym (and_none (nat_eq asn q.peer.asn))

regroup : (k a r h : Bool) → ((k || (a && h)) || (r && h)) ≡ (k || ((a || r) && h))
regroup true a r h = refl
regroup false true r true = refl
regroup false true true false = refl
regroup false true false false = refl
regroup false false r h = refl

-- the keys of one holder go in
pub holder_goes_in : (asn number : ℕ) (index : Entries) (peer : Peer) (keys keys' : List Key) (h : Holder) (rest all : List Holder) → peer ≡ record { addr = h.2; asn = asn } → GivesOf peer index number keys keys' → all ≡ h ∷ rest
    → (q : Key) → (has_key keys' q || (is_among asn q rest && has index number q)) ≡ (has_key keys q || (is_among asn q all && has index number q))
holder_goes_in asn number index peer keys keys' h rest all is gives step q =
    ap (λ (t : Bool). t || (is_among asn q rest && has index number q)) (gives q)
    ∙ regroup (has_key keys q) (is_at (peer_cmp peer) q.peer) (is_among asn q rest) (has index number q)
    ∙ ap (λ (p : Peer). has_key keys q || ((is_at (peer_cmp p) q.peer || is_among asn q rest) && has index number q)) is
    ∙ ap (λ (hs : List Holder). has_key keys q || (is_among asn q hs && has index number q)) (sym step)

-- ---- the keys of one peer
-- what was found of the peer tells what its routes have
pub of_this_peer : (index : Entries) (peer : Peer) (n : ℕ) (found : Option (List (ℕ × Nlri))) → at index (place_of peer) ≡ found
    → (q : Key) → (is_at (peer_cmp peer) q.peer && found_has found (n, nlri_of q)) ≡ (is_at (peer_cmp peer) q.peer && has index n q)
of_this_peer index peer n found there q = by_case (is_at (peer_cmp peer) q.peer) refl where
  by_case : (b : Bool) → is_at (peer_cmp peer) q.peer ≡ b → (b && found_has found (n, nlri_of q)) ≡ (b && has index n q)
  by_case true is =
      ap (λ (o : Option (List (ℕ × Nlri))). found_has o (n, nlri_of q)) (sym there ∙ ap (λ (p : Peer). at index (place_of p)) (peer_exact peer q.peer ((Equal-is (peer_cmp peer q.peer)).0 is)))
  by_case false is = refl

pub gives_none : (index : Entries) (peer : Peer) (n : ℕ) (keys : List Key) → at index (place_of peer) ≡ None → GivesOf peer index n keys keys
gives_none index peer n keys none q = sym (
    ap (λ (t : Bool). has_key keys q || t) (sym (of_this_peer index peer n None none q) ∙ and_none (is_at (peer_cmp peer) q.peer))
    ∙ or_none (has_key keys q)
    )
