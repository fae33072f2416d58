-- The mark of a key is that of its last announcement.
use Rattle.std.proofs.Common.{◌≡◌, ◌≢◌, Bool, true, false, cond, not, List, [], ◌∷◌, ◌++◌, drop, None, Some, refl, ap, sym, ◌∙◌}
use Rattle.std.specs.declared.option.Option.{Option}
use Rattle.std.specs.Cmp.{Equal-is, eq_by_cmp_equiv}
use Rattle.std.specs.FinMap as fin
use Rattle.std.specs.Option.{unwrap_or}
use Rattle.std.specs.Ordering.{eq_by_cmp}
use Rattle.std.proofs.lemmas.List.Elements.{All-head, All-tail}
use Rattle.path_model.specs.declared.change.Change.{Change}
use Rattle.path_model.specs.declared.change.Change.TheVariants.{Remove, Announce, RemovePeer}
use Rattle.path_model.specs.declared.key.Key.{Key}
use Rattle.path_model.specs.declared.otc.Otc.{Otc}
use Rattle.path_model.specs.declared.otc.Otc.TheVariants.{Absent, As, Malformed}
use Rattle.path_model.specs.declared.peer.Peer.{Peer}
use Rattle.path_model.specs.Key.{key_cmp, peer_cmp}
use Rattle.path_model.specs.Notes.{announced_of}
use Rattle.path_model.specs.Order.{key_total, peer_total}
use Rattle.path_model.specs.Routes.{is_of_peer}
use Rattle.path_model.specs.Trail.{Path}
use Rattle.path_model.proofs.OrderLemmas.{peer_exact}
use Rattle.otc_check.specs.Laws.{Leaves, AllLeave, note_at}
use Rattle.otc_check.specs.Marks.{Marked, mark_of, marked_at, first_note, noted_by, without_peer}
use Rattle.otc_check.proofs.MapLemmas.{same_key, key_itself}
use Rattle.otc_check.proofs.NotingLemmas.{note_first, noted_append}
use Rattle.otc_check.proofs.OfPeerLemmas.{get_without}

-- ---- other keys and peers

other_key : (key other : Key) → other ≢ key → eq_by_cmp key_cmp key other ≡ false
other_key key other differ = by_case (eq_by_cmp key_cmp key other) refl where
  by_case : (b : Bool) → eq_by_cmp key_cmp key other ≡ b → eq_by_cmp key_cmp key other ≡ false
  by_case true t = absurd (differ (sym (same_key key other t)))
  by_case false t = t

other_peer : (peer : Peer) (key : Key) → peer ≢ key.peer → is_of_peer peer key ≡ false
other_peer peer key differ = by_case (is_of_peer peer key) refl where
  by_case : (b : Bool) → is_of_peer peer key ≡ b → is_of_peer peer key ≡ false
  by_case true t = absurd (differ (peer_exact peer key.peer ((Equal-is (peer_cmp peer key.peer)).0 t)))
  by_case false t = t

other_removed : (key other : Key) (marks : Marked) → other ≢ key → fin.get (fin.remove marks other) key ≡ fin.get marks key
other_removed key other marks differ = fin.get-remove key_total marks other key ∙ ap (λ (b : Bool). cond b None (fin.get marks key)) (other_key key other differ)

other_marked : (key other : Key) (otc : Otc) (marks : Marked) → other ≢ key → fin.get (marked_at other otc marks) key ≡ fin.get marks key
other_marked key other Absent marks differ = other_removed key other marks differ
other_marked key other (As asn) marks differ = fin.get-insert key_total marks other (As asn) key ∙ ap (λ (b : Bool). cond b (Some (As asn)) (fin.get marks key)) (other_key key other differ)
other_marked key other Malformed marks differ = fin.get-insert key_total marks other Malformed key ∙ ap (λ (b : Bool). cond b (Some Malformed) (fin.get marks key)) (other_key key other differ)

-- changes that say nothing of a key leave its mark
left : (changes : List Change) (key : Key) (notes : List Otc) (marks : Marked) → AllLeave key changes → fin.get (noted_by changes notes marks) key ≡ fin.get marks key
left [] key notes marks leave = refl
left (Remove other ∷ more) key notes marks leave =
    left more key notes (fin.remove marks other) (All-tail (Leaves key) (Remove other) more leave)
    ∙ other_removed key other marks (All-head (Leaves key) (Remove other) more leave)
left (RemovePeer peer ∷ more) key notes marks leave =
    left more key notes (without_peer peer marks) (All-tail (Leaves key) (RemovePeer peer) more leave)
    ∙ get_without peer marks key
    ∙ ap (λ (b : Bool). cond (not b) (fin.get marks key) None) (other_peer peer key (All-head (Leaves key) (RemovePeer peer) more leave))
left (Announce other path ∷ more) key notes marks leave =
    left more key (drop 1 notes) (marked_at other (first_note notes) marks) (All-tail (Leaves key) (Announce other path) more leave)
    ∙ other_marked key other (first_note notes) marks (All-head (Leaves key) (Announce other path) more leave)

abbrev or_absent : Option Otc → Otc
or_absent o = unwrap_or o Absent

pub others_stay : (changes : List Change) (key : Key) (notes : List Otc) (marks : Marked) → AllLeave key changes → mark_of (noted_by changes notes marks) key ≡ mark_of marks key
others_stay changes key notes marks leave = ap or_absent (left changes key notes marks leave)

-- ---- the key itself

own_removed : (key : Key) (marks : Marked) → mark_of (fin.remove marks key) key ≡ Absent
own_removed key marks = ap or_absent (fin.get-remove key_total marks key key ∙ ap (λ (b : Bool). cond b None (fin.get marks key)) (key_itself key))

own_put : (key : Key) (otc : Otc) (marks : Marked) → mark_of (fin.insert marks key otc) key ≡ otc
own_put key otc marks = ap or_absent (fin.get-insert key_total marks key otc key ∙ ap (λ (b : Bool). cond b (Some otc) (fin.get marks key)) (key_itself key))

own_marked : (key : Key) (otc : Otc) (marks : Marked) → mark_of (marked_at key otc marks) key ≡ otc
own_marked key Absent marks = own_removed key marks
own_marked key (As asn) marks = own_put key (As asn) marks
own_marked key Malformed marks = own_put key Malformed marks

own_gone : (key : Key) (marks : Marked) → mark_of (without_peer key.peer marks) key ≡ Absent
own_gone key marks =
    let of_peer : is_of_peer key.peer key ≡ true = (eq_by_cmp_equiv peer_total).refl key.peer in
    ap or_absent (get_without key.peer marks key ∙ ap (λ (b : Bool). cond (not b) (fin.get marks key) None) of_peer)

pub last_announced : (before after : List Change) (key : Key) (path : Path) (notes : List Otc) (marks : Marked) → AllLeave key after
    → mark_of (noted_by (before ++ Announce key path ∷ after) notes marks) key ≡ note_at notes (announced_of before)
last_announced before after key path notes marks leave =
    let left_notes = drop (announced_of before) notes in
    let mid = noted_by before notes marks in
    ap (λ (m : Marked). mark_of m key) (noted_append before (Announce key path ∷ after) notes marks)
    ∙ others_stay after key (drop 1 left_notes) (marked_at key (first_note left_notes) mid) leave
    ∙ own_marked key (first_note left_notes) mid
    ∙ note_first notes (announced_of before)

pub last_withdrawn : (before after : List Change) (key : Key) (notes : List Otc) (marks : Marked) → AllLeave key after
    → mark_of (noted_by (before ++ Remove key ∷ after) notes marks) key ≡ Absent
last_withdrawn before after key notes marks leave =
    let left_notes = drop (announced_of before) notes in
    let mid = noted_by before notes marks in
    ap (λ (m : Marked). mark_of m key) (noted_append before (Remove key ∷ after) notes marks)
    ∙ others_stay after key left_notes (fin.remove mid key) leave
    ∙ own_removed key mid

pub last_ended : (before after : List Change) (key : Key) (notes : List Otc) (marks : Marked) → AllLeave key after
    → mark_of (noted_by (before ++ RemovePeer key.peer ∷ after) notes marks) key ≡ Absent
last_ended before after key notes marks leave =
    let left_notes = drop (announced_of before) notes in
    let mid = noted_by before notes marks in
    ap (λ (m : Marked). mark_of m key) (noted_append before (RemovePeer key.peer ∷ after) notes marks)
    ∙ others_stay after key left_notes (without_peer key.peer mid) leave
    ∙ own_gone key mid
