-- What a change of one route makes of the state.
use Rattle.std.proofs.Common.{◌≡◌, ℕ, ◌<◌, Bool, cond, List, None, Some, refl, ap, sym, ◌∙◌, arith}
use Rattle.std.specs.declared.option.Option.{Option}
use Rattle.std.specs.BTreeMap.{is_at, insert_entry}
use Rattle.std.specs.FinMap as fin
use Rattle.std.specs.List.Sorted.{IsStrictlySortedBy}
use Rattle.std.specs.Map.{lookup, keys_of, remove_entry}
use Rattle.path_model.specs.declared.key.Key.{Key}
use Rattle.attestations.specs.CurrentTable.{Parts}
use Rattle.path_model.specs.Key.{key_cmp}
use Rattle.path_model.specs.Roles.{Relations}
use Rattle.path_model.specs.Trail.{Path}
use Rattle.shared_cases.specs.declared.case.StoredCase.{StoredCase}
use Rattle.shared_cases.specs.Cases.{Slots, at, IsSameCase, IsStoredAs, AreSameCases, has_differed, marked_or}
use Rattle.shared_cases.specs.Grounds.{Grounds}
use Rattle.shared_cases.specs.Taking.{raised, lowered, Takes}
use Rattle.rib_store.specs.Cased.{Noted, Numbered, path_or, routes_by, marked_by, users_of, IsCounted, IsOfAs, AreStored}
use Rattle.rib_store.specs.Marks.{AreNoted}
use Rattle.rib_store.specs.State.{State, Marked}
use Rattle.rib_store.specs.Steps.{Leaves, NotesMove}
use Rattle.path_model.specs.Routes.{Routes}
use Rattle.rib_store.proofs.CasedLemmas.{through_inserted, through_removed, same_through, kept_part}
use Rattle.rib_store.proofs.CountedLemmas.{users_positive}
use Rattle.rib_store.proofs.KeyLemmas.{key_itself}
use Rattle.rib_store.proofs.MarksLemmas.{raised_differed, lowered_differed, noted_move}
use Rattle.rib_store.proofs.NotedLemmas.{mark_at, marked_move}
use Rattle.rib_store.proofs.StoredLemmas.{ArePending, settled, settled_part, inserted, removed, taken_part, taken_path}

raised_path : (c : Option StoredCase) → path_or (raised c) ≡ path_or c
raised_path None = refl
raised_path (Some c) = refl

pub lowered_path : (c : Option StoredCase) → path_or (lowered c) ≡ path_or c
lowered_path None = refl
lowered_path (Some c) = refl

raised_mark : (c : Option StoredCase) → marked_or (raised c) ≡ marked_or c
raised_mark None = refl
raised_mark (Some c) = refl

lowered_mark : (c : Option StoredCase) → marked_or (lowered c) ≡ marked_or c
lowered_mark None = refl
lowered_mark (Some c) = refl

pub stored_with : (c : Option StoredCase) (asn : ℕ) (path : Path) (users : ℕ) → IsCounted c users → 0 < users → IsOfAs c asn → path_or c ≡ path → IsStoredAs c asn path
stored_with None asn path users counted used of_as is = absurd (omega (arith, counted, used))
stored_with (Some c) asn path users counted used of_as is = (of_as, is)

-- the state by these parts
abbrev pub state_by : Parts → Relations → Bool → Slots → Numbered → Noted → State
state_by parts relations is_marked cases routes notes = record { parts = parts; roles = relations; routes = routes_by cases routes; marked = marked_by is_marked cases routes notes }

abbrev state_with : Parts → Relations → Routes → Marked → State
state_with parts relations routes marked = record { parts = parts; roles = relations; routes = routes; marked = marked }

pub same_state : (parts : Parts) (relations : Relations) (routes routes' : Routes) (marked marked' : Marked) → routes ≡ routes' → marked ≡ marked'
    → state_with parts relations routes marked ≡ state_with parts relations routes' marked'
same_state parts relations routes routes' marked marked' e f = λ i. record { parts = parts; roles = relations; routes = e i; marked = f i }

module _ (g : Grounds) (parts : Parts) (relations : Relations) (is_marked : Bool) (before after : Numbered) (notes notes' : Noted) (k : Key) where
  -- what was marked of the key is still marked where its new path has a case
  pub mark_taken : (old mid : Slots) (n : ℕ) (path : Path) → AreStored g before old → Takes g k.peer.asn path old mid n → mark_at mid before k ≡ mark_at old before k
  mark_taken old mid n path stored takes = kept_part marked_or old mid (lookup (is_at (key_cmp k)) before)
      (λ j was. taken_part g before after old mid k n path stored takes marked_or raised_mark j (users_positive before k j was))

  -- a route comes
  module _ (old mid new : Slots) (n : ℕ) (path : Path) (stored : AreStored g before old) (takes : Takes g k.peer.asn path old mid n) (sorted : IsStrictlySortedBy key_cmp (keys_of before))
      (is : after ≡ insert_entry key_cmp before k n) (updates : (q : Key) → lookup (is_at (key_cmp q)) after ≡ cond (is_at (key_cmp k) q) (Some n) (lookup (is_at (key_cmp q)) before))
      (leaves : Leaves mid (lookup (is_at (key_cmp k)) before) new) (noted : NotesMove is_marked notes k (lookup (is_at (key_cmp k)) before) (Some n) (mark_at old before k) notes') where
    pending : ArePending g after mid (lookup (is_at (key_cmp k)) before)
    pending = inserted g before after old mid k n path stored takes sorted is updates

    kept : {A : Type 0} (part : Option StoredCase → A) → ((c : Option StoredCase) → part (raised c) ≡ part c) → ((c : Option StoredCase) → part (lowered c) ≡ part c)
        → (q : Key) (j : ℕ) → lookup (is_at (key_cmp q)) after ≡ Some j → lookup (is_at (key_cmp q)) before ≡ Some j → part (at new j) ≡ part (at old j)
    kept part up down q j here was = settled_part part down g after mid new (lookup (is_at (key_cmp k)) before) pending leaves j (users_positive after q j here)
        ∙ taken_part g before after old mid k n path stored takes part up j (users_positive before q j was)

    here : lookup (is_at (key_cmp k)) after ≡ Some n
    here = updates k ∙ ap (λ (b : Bool). cond b (Some n) (lookup (is_at (key_cmp k)) before)) (key_itself k)

    came : path_or (at new n) ≡ path
    came = settled_part path_or lowered_path g after mid new (lookup (is_at (key_cmp k)) before) pending leaves n (users_positive after k n here)
        ∙ taken_path g before after old mid k n path stored takes

    -- the case of the route's AS and path has the number still
    pub announced_case : IsStoredAs (at new n) k.peer.asn path
    announced_case =
        let stored_after = settled g after mid new (lookup (is_at (key_cmp k)) before) pending leaves in
        stored_with (at new n) k.peer.asn path (users_of after n) (stored_after.counted n) (users_positive after k n here) (stored_after.of_peers k n here) came

    pub announced_state : state_by parts relations is_marked new after notes' ≡ record (state_by parts relations is_marked old before notes) { routes = fin.insert (routes_by old before) k path }
    announced_state = same_state parts relations _ _ _ _
        (through_inserted path_or old new before after k n path updates came (kept path_or raised_path lowered_path))
        (marked_move is_marked old new before after notes notes' k (Some n) updates noted (kept marked_or raised_mark lowered_mark))

    -- each key whose case differed still has a note
    pub announced_noted : (pending : List ℕ) → AreNoted is_marked before old notes pending → AreNoted is_marked after new notes' pending
    announced_noted pending notes_are = noted_move old new before after notes notes' pending k (Some n) (mark_at old before k) updates (kept has_differed raised_differed lowered_differed) is_marked notes_are noted

  -- a route goes
  module _ (old new : Slots) (stored : AreStored g before old)
      (is : after ≡ remove_entry (is_at (key_cmp k)) before) (updates : (q : Key) → lookup (is_at (key_cmp q)) after ≡ cond (is_at (key_cmp k) q) None (lookup (is_at (key_cmp q)) before))
      (leaves : Leaves old (lookup (is_at (key_cmp k)) before) new) (noted : NotesMove is_marked notes k (lookup (is_at (key_cmp k)) before) None (mark_at old before k) notes') where
    left_kept : {A : Type 0} (part : Option StoredCase → A) → ((c : Option StoredCase) → part (lowered c) ≡ part c)
        → (q : Key) (j : ℕ) → lookup (is_at (key_cmp q)) after ≡ Some j → lookup (is_at (key_cmp q)) before ≡ Some j → part (at new j) ≡ part (at old j)
    left_kept part down q j here was = settled_part part down g after old new (lookup (is_at (key_cmp k)) before) (removed g before after old k stored is updates) leaves j (users_positive after q j here)

    pub withdrawn_state : state_by parts relations is_marked new after notes' ≡ record (state_by parts relations is_marked old before notes) { routes = fin.remove (routes_by old before) k }
    withdrawn_state = same_state parts relations _ _ _ _
        (through_removed path_or old new before after k updates (left_kept path_or lowered_path))
        (marked_move is_marked old new before after notes notes' k None updates noted (left_kept marked_or lowered_mark))

    pub withdrawn_noted : (pending : List ℕ) → AreNoted is_marked before old notes pending → AreNoted is_marked after new notes' pending
    withdrawn_noted pending notes_are = noted_move old new before after notes notes' pending k None (mark_at old before k) updates (left_kept has_differed lowered_differed) is_marked notes_are noted

same_path : (c d : Option StoredCase) → IsSameCase c d → path_or d ≡ path_or c
same_path None None same = refl
same_path None (Some d) same = absurd same
same_path (Some c) None same = absurd same
same_path (Some c) (Some d) same = sym same.1

-- other judgements leave the routes
pub routes_rejudged : (old new : Slots) (routes : Numbered) → AreSameCases old new → routes_by new routes ≡ routes_by old routes
routes_rejudged old new routes same = ap (λ (es : List (Key × Path)). fin.from_entries {R = key_cmp} es) (same_through path_or old new routes (λ n. same_path (at old n) (at new n) (same n)))
