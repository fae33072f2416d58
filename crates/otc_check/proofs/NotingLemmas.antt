-- Changes are noted one after another, and the note of an announcement is found by its index.
use Rattle.std.proofs.Common.{◌≡◌, ℕ, ◌+◌, ◌≤◌, Bool, true, false, cond, not, ◌&&◌, List, [], ◌∷◌, ◌++◌, length, drop, None, refl, ap, sym, ◌∙◌, arith}
use Rattle.std.specs.declared.option.Option.{Option}
use Rattle.std.specs.Ordering.{eq_by_cmp}
use Rattle.std.specs.FinMap as fin
use Rattle.std.specs.List.{list_all}
use Rattle.std.specs.List.{slice_index_or}
use Rattle.std.proofs.lemmas.List.{drop-drop, get_or-drop}
use Rattle.std.proofs.lemmas.Option.{unwrap_or-slice_get}
use Rattle.path_model.specs.declared.change.Change.{Change}
use Rattle.path_model.specs.declared.change.Change.TheVariants.{Remove, Announce, RemovePeer}
use Rattle.path_model.specs.declared.key.Key.{Key}
use Rattle.path_model.specs.declared.nlri.Nlri.{Nlri}
use Rattle.path_model.specs.declared.otc.Otc.{Otc}
use Rattle.path_model.specs.declared.otc.Otc.TheVariants.{Absent}
use Rattle.path_model.specs.declared.peer.Peer.{Peer}
use Rattle.path_model.specs.Batches.{announcements, removals}
use Rattle.path_model.specs.Key.{key_cmp}
use Rattle.path_model.specs.Notes.{announced_of, is_absent}
use Rattle.path_model.specs.Order.{key_total}
use Rattle.path_model.specs.Routes.{is_of_peer}
use Rattle.path_model.specs.Trail.{Path}
use Rattle.path_model.proofs.OrderLemmas.{key_exact}
use Rattle.otc_check.specs.Laws.{note_at}
use Rattle.otc_check.specs.Marks.{Marked, first_note, marked_at, noted_by, without_peer}
use Rattle.otc_check.proofs.OfPeerLemmas.{get_without}

-- the first of the notes that are left is the one with this index
pub note_first : (notes : List Otc) (index : ℕ) → first_note (drop index notes) ≡ note_at notes index
note_first notes index =
    let same : index + 0 ≡ index = omega arith in
    unwrap_or-slice_get (drop index notes) 0 Absent ∙ get_or-drop index notes 0 Absent ∙ ap (λ (i : ℕ). slice_index_or notes i Absent) same ∙ sym (unwrap_or-slice_get notes index Absent)

-- one announcement takes one note
pub one_noted : (key : Key) (path : Path) (more : List Change) (notes : List Otc) (index : ℕ) (before after : Marked)
    → after ≡ marked_at key (note_at notes index) before → noted_by more (drop (index + 1) notes) after ≡ noted_by (Announce key path ∷ more) (drop index notes) before
one_noted key path more notes index before after is =
    ap (noted_by more (drop (index + 1) notes)) (is ∙ ap (λ (o : Otc). marked_at key o before) (sym (note_first notes index)))
    ∙ ap (λ (ns : List Otc). noted_by more ns (marked_at key (first_note (drop index notes)) before)) (sym (drop-drop 1 index notes))

-- some changes, and then more of them
pub noted_append : (some more : List Change) (notes : List Otc) (marks : Marked) → noted_by (some ++ more) notes marks ≡ noted_by more (drop (announced_of some) notes) (noted_by some notes marks)
noted_append [] more notes marks = refl
noted_append (Remove key ∷ some) more notes marks = noted_append some more notes (fin.remove marks key)
noted_append (RemovePeer peer ∷ some) more notes marks = noted_append some more notes (without_peer peer marks)
noted_append (Announce key path ∷ some) more notes marks =
    let after = marked_at key (first_note notes) marks in
    let same : 1 + announced_of some ≡ announced_of some + 1 = omega arith in
    noted_append some more (drop 1 notes) after
    ∙ ap (λ (ns : List Otc). noted_by more ns (noted_by some (drop 1 notes) after)) (drop-drop (announced_of some) 1 notes ∙ ap (λ (n : ℕ). drop n notes) same)

pub announced_append : (some more : List Change) → announced_of (some ++ more) ≡ announced_of some + announced_of more
announced_append [] more = omega arith
announced_append (Remove key ∷ some) more = announced_append some more
announced_append (RemovePeer peer ∷ some) more = announced_append some more
announced_append (Announce key path ∷ some) more = omega (arith, announced_append some more)

pub announced_most : (changes : List Change) → announced_of changes ≤ length changes
announced_most [] = omega arith
announced_most (Remove key ∷ more) = omega (arith, announced_most more)
announced_most (RemovePeer peer ∷ more) = omega (arith, announced_most more)
announced_most (Announce key path ∷ more) = omega (arith, announced_most more)

pub announced_announcements : (peer : Peer) (path : Path) (nlris : List Nlri) → announced_of (announcements peer path nlris) ≡ length nlris
announced_announcements peer path [] = refl
announced_announcements peer path (nlri ∷ nlris) = omega (arith, announced_announcements peer path nlris)

pub announced_removals : (peer : Peer) (nlris : List Nlri) → announced_of (removals peer nlris) ≡ 0
announced_removals peer [] = refl
announced_removals peer (nlri ∷ nlris) = announced_removals peer nlris

-- ---- where there are no marks and no notes of an attribute

abbrev no_otc : Option Otc
no_otc = None

abbrev no_mark : Marked
no_mark = fin.empty

either : (b : Bool) → cond b no_otc no_otc ≡ no_otc
either true = refl
either false = refl

removed_none : (key : Key) → fin.remove no_mark key ≡ no_mark
removed_none key = fin.same_map key_total key_exact _ _ (λ q.
    fin.get-remove key_total no_mark key q ∙ ap (cond (eq_by_cmp key_cmp q key) None) (fin.get-empty key_cmp q) ∙ either (eq_by_cmp key_cmp q key) ∙ sym (fin.get-empty key_cmp q))

without_none : (peer : Peer) → without_peer peer no_mark ≡ no_mark
without_none peer = fin.same_map key_total key_exact _ _ (λ q.
    get_without peer no_mark q ∙ ap (λ (o : Option Otc). cond (not (is_of_peer peer q)) o None) (fin.get-empty key_cmp q) ∙ either (not (is_of_peer peer q)) ∙ sym (fin.get-empty key_cmp q))

absent_none : (key : Key) (otc : Otc) → is_absent otc ≡ true → marked_at key otc no_mark ≡ no_mark
absent_none key otc absent = ap (λ (b : Bool). cond b (fin.remove no_mark key) (fin.insert no_mark key otc)) absent ∙ removed_none key

first_is : (a b : Bool) → (a && b) ≡ true → a ≡ true
first_is true b both = refl
first_is false b both = absurd cc

second_is : (a b : Bool) → (a && b) ≡ true → b ≡ true
second_is true b both = both
second_is false b both = absurd cc

first_absent : (notes : List Otc) → list_all is_absent notes ≡ true → is_absent (first_note notes) ≡ true
first_absent [] all = refl
first_absent (note ∷ notes) all = first_is (is_absent note) (list_all is_absent notes) all

others_absent : (notes : List Otc) → list_all is_absent notes ≡ true → list_all is_absent (drop 1 notes) ≡ true
others_absent [] all = refl
others_absent (note ∷ notes) all = second_is (is_absent note) (list_all is_absent notes) all

nothing_noted : (changes : List Change) (notes : List Otc) → list_all is_absent notes ≡ true → noted_by changes notes no_mark ≡ no_mark
nothing_noted [] notes all = refl
nothing_noted (Remove key ∷ more) notes all = ap (noted_by more notes) (removed_none key) ∙ nothing_noted more notes all
nothing_noted (RemovePeer peer ∷ more) notes all = ap (noted_by more notes) (without_none peer) ∙ nothing_noted more notes all
nothing_noted (Announce key path ∷ more) notes all =
    ap (noted_by more (drop 1 notes)) (absent_none key (first_note notes) (first_absent notes all)) ∙ nothing_noted more (drop 1 notes) (others_absent notes all)

pub none_noted : (changes : List Change) (notes : List Otc) (marks : Marked) → marks ≡ no_mark → list_all is_absent notes ≡ true → marks ≡ noted_by changes notes marks
none_noted changes notes marks none all = none ∙ sym (nothing_noted changes notes all) ∙ ap (noted_by changes notes) (sym none)
