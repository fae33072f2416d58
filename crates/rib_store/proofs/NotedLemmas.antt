-- The marked verdicts, key by key.
use Rattle.std.proofs.Common.{◌≡◌, ℕ, Bool, true, false, cond, [], ◌∷◌, None, Some, refl, ap, sym, ◌∙◌, inl, inr, true≢false}
use Rattle.std.specs.declared.option.Option.{Option}
use Rattle.std.specs.BTreeMap.{is_at}
use Rattle.std.specs.FinMap as fin
use Rattle.std.specs.Map.{lookup}
use Rattle.std.specs.Borrow.{Bor}
use Rattle.std.specs.Option.{is_some, option_copied, option_map}
use Rattle.std.specs.Ordering.{eq_by_cmp}
use Rattle.path_model.specs.declared.key.Key.{Key}
use Rattle.path_model.specs.declared.verdict.Verdict.{Verdict}
use Rattle.path_model.specs.Key.{key_cmp}
use Rattle.path_model.specs.Order.{key_total}
use Rattle.path_model.proofs.OrderLemmas.{key_exact}
use Rattle.shared_cases.specs.declared.case.StoredCase.{StoredCase}
use Rattle.shared_cases.specs.Cases.{Slots, at, marked_or, IsSameCase, AreSameCases}
use Rattle.rib_store.specs.Cased.{Numbered, through, overridden_at, overridden, marked_by}
use Rattle.rib_store.specs.Cased.{Noted, noted_or}
use Rattle.rib_store.specs.State.{Marked}
use Rattle.rib_store.specs.Steps.{kept_note, or_noted, NotesChange, NotesMove}
use Rattle.rib_store.proofs.CasedLemmas.{get_through, kept_part}
use Rattle.rib_store.proofs.KeyLemmas.{same_key}

-- the mark of the key's case
abbrev pub mark_at : Slots → Numbered → Key → Option Verdict
mark_at cases routes q = option_map (λ n. marked_or (at cases n)) (lookup (is_at (key_cmp q)) routes)

get_overridden_at : (k : Key) (v : Option Verdict) (marked : Marked) (q : Key) → fin.get (overridden_at k v marked) q ≡ cond (eq_by_cmp key_cmp q k) v (fin.get marked q)
get_overridden_at k None marked q = fin.get-remove key_total marked k q
get_overridden_at k (Some v) marked q = fin.get-insert key_total marked k v q

get_overridden : (marked : Marked) (notes : Noted) (q : Key) → fin.get (overridden marked notes) q ≡ noted_or (lookup (is_at (key_cmp q)) notes) (fin.get marked q)
get_overridden marked [] q = refl
get_overridden marked (e ∷ es) q = get_overridden_at e.0 e.1 (overridden marked es) q ∙ ap (cond (eq_by_cmp key_cmp q e.0) e.1) (get_overridden marked es q)
    ∙ by (is_at (key_cmp q) e.0) where
      by : (b : Bool) → cond b e.1 (noted_or (lookup (is_at (key_cmp q)) es) (fin.get marked q)) ≡ noted_or (cond b (Some e.1) (lookup (is_at (key_cmp q)) es)) (fin.get marked q)
      by true = refl
      by false = refl

-- what is marked of a key
pub get_marked : (cases : Slots) (routes : Numbered) (notes : Noted) (q : Key) → fin.get (marked_by true cases routes notes) q ≡ noted_or (lookup (is_at (key_cmp q)) notes) (mark_at cases routes q)
get_marked cases routes notes q = get_overridden (fin.from_entries (through marked_or cases routes)) notes q
    ∙ ap (noted_or (lookup (is_at (key_cmp q)) notes)) (get_through marked_or cases routes q)

pub same_marks : (old new : Slots) (before after : Numbered) (notes notes' : Noted)
    → ((q : Key) → noted_or (lookup (is_at (key_cmp q)) notes') (mark_at new after q) ≡ noted_or (lookup (is_at (key_cmp q)) notes) (mark_at old before q))
    → marked_by true new after notes' ≡ marked_by true old before notes
same_marks old new before after notes notes' same = fin.same_map key_total key_exact _ _ (λ q. get_marked new after notes' q ∙ same q ∙ sym (get_marked old before notes q))

off_noted : (noted : Option (Option Verdict)) (now was other : Option Verdict) → now ≡ other → noted_or (or_noted noted false was) now ≡ noted_or noted other
off_noted None now was other e = e
off_noted (Some v) now was other e = refl

-- the mark of a key that changes is its note, or there is none where it has no route again
at_kept : (o : Option ℕ) (noted : Option (Option Verdict)) (now was : Option Verdict) → (o ≡ None → now ≡ None) → noted_or (kept_note o true (or_noted noted true was)) now ≡ noted_or noted was
at_kept None None now None gone = gone refl
at_kept None None now (Some v) gone = refl
at_kept None (Some None) now was gone = gone refl
at_kept None (Some (Some v)) now was gone = refl
at_kept (Some n) None now None gone = refl
at_kept (Some n) None now (Some v) gone = refl
at_kept (Some n) (Some None) now was gone = refl
at_kept (Some n) (Some (Some v)) now was gone = refl

pub kept_off : (o : Option ℕ) (noted : Option (Option Verdict)) → kept_note o false noted ≡ noted
kept_off o None = refl
kept_off None (Some None) = refl
kept_off (Some n) (Some None) = refl
kept_off o (Some (Some v)) = refl

pub kept_on : (n : ℕ) (here : Bool) (noted : Option (Option Verdict)) → kept_note (Some n) here noted ≡ noted
kept_on n here None = refl
kept_on n here (Some None) = refl
kept_on n here (Some (Some v)) = refl

-- a route changes at one key, whose mark is noted
marked_route : (is_marked : Bool) (old new : Slots) (before after : Numbered) (notes notes' : Noted) (k : Key) (o : Option ℕ)
    → ((q : Key) → lookup (is_at (key_cmp q)) after ≡ cond (is_at (key_cmp k) q) o (lookup (is_at (key_cmp q)) before))
    → NotesChange is_marked notes k o (mark_at old before k) notes'
    → ((q : Key) (j : ℕ) → lookup (is_at (key_cmp q)) after ≡ Some j → lookup (is_at (key_cmp q)) before ≡ Some j → marked_or (at new j) ≡ marked_or (at old j))
    → marked_by is_marked new after notes' ≡ marked_by is_marked old before notes
marked_route false old new before after notes notes' k o updates noted kept = refl
marked_route true old new before after notes notes' k o updates noted kept = same_marks old new before after notes notes' (λ q. by q (is_at (key_cmp k) q) refl) where
  by : (q : Key) (b : Bool) → is_at (key_cmp k) q ≡ b → noted_or (lookup (is_at (key_cmp q)) notes') (mark_at new after q) ≡ noted_or (lookup (is_at (key_cmp q)) notes) (mark_at old before q)
  by q true t = ap (λ (n : Option (Option Verdict)). noted_or n (mark_at new after q)) (noted q ∙ ap (λ (b : Bool). kept_note o b (or_noted (lookup (is_at (key_cmp q)) notes) b (mark_at old before k))) t)
      ∙ at_kept o (lookup (is_at (key_cmp q)) notes) (mark_at new after q) (mark_at old before k)
      (λ gone. ap (option_map (λ j. marked_or (at new j))) (updates q ∙ ap (λ (b : Bool). cond b o (lookup (is_at (key_cmp q)) before)) t ∙ gone))
      ∙ ap (λ (r : Key). noted_or (lookup (is_at (key_cmp q)) notes) (mark_at old before r)) (same_key k q t)
  by q false t =
      let same : lookup (is_at (key_cmp q)) after ≡ lookup (is_at (key_cmp q)) before = updates q ∙ ap (λ (b : Bool). cond b o (lookup (is_at (key_cmp q)) before)) t in
      ap (λ (n : Option (Option Verdict)). noted_or n (mark_at new after q)) (noted q ∙ ap (λ (b : Bool). kept_note o b (or_noted (lookup (is_at (key_cmp q)) notes) b (mark_at old before k))) t
      ∙ kept_off o (or_noted (lookup (is_at (key_cmp q)) notes) false (mark_at old before k)))
      ∙ off_noted (lookup (is_at (key_cmp q)) notes) (mark_at new after q) (mark_at old before k) (mark_at old before q)
      (ap (option_map (λ j. marked_or (at new j))) same ∙ kept_part marked_or old new (lookup (is_at (key_cmp q)) before) (λ j here. kept q j (same ∙ here) here))

-- a route stays at one key, and none is noted
pub marked_still : (is_marked : Bool) (old new : Slots) (before after : Numbered) (notes : Noted) (k : Key) (o : Option ℕ)
    → ((q : Key) → lookup (is_at (key_cmp q)) after ≡ cond (is_at (key_cmp k) q) o (lookup (is_at (key_cmp q)) before))
    → lookup (is_at (key_cmp k)) before ≡ o
    → ((q : Key) (j : ℕ) → lookup (is_at (key_cmp q)) after ≡ Some j → lookup (is_at (key_cmp q)) before ≡ Some j → marked_or (at new j) ≡ marked_or (at old j))
    → marked_by is_marked new after notes ≡ marked_by is_marked old before notes
marked_still false old new before after notes k o updates stays kept = refl
marked_still true old new before after notes k o updates stays kept = same_marks old new before after notes notes
    (λ q. ap (noted_or (lookup (is_at (key_cmp q)) notes)) (by q (is_at (key_cmp k) q) refl)) where
      same : (q : Key) (b : Bool) → is_at (key_cmp k) q ≡ b → lookup (is_at (key_cmp q)) after ≡ lookup (is_at (key_cmp q)) before
      same q true t = updates q ∙ ap (λ (b : Bool). cond b o (lookup (is_at (key_cmp q)) before)) t ∙ sym stays ∙ ap (λ (r : Key). lookup (is_at (key_cmp r)) before) (same_key k q t)
      same q false t = updates q ∙ ap (λ (b : Bool). cond b o (lookup (is_at (key_cmp q)) before)) t

      by : (q : Key) (b : Bool) → is_at (key_cmp k) q ≡ b → mark_at new after q ≡ mark_at old before q
      by q b t = ap (option_map (λ j. marked_or (at new j))) (same q b t)
          ∙ kept_part marked_or old new (lookup (is_at (key_cmp q)) before) (λ j here. kept q j (same q b t ∙ here) here)

-- either way
pub marked_move : (is_marked : Bool) (old new : Slots) (before after : Numbered) (notes notes' : Noted) (k : Key) (o : Option ℕ)
    → ((q : Key) → lookup (is_at (key_cmp q)) after ≡ cond (is_at (key_cmp k) q) o (lookup (is_at (key_cmp q)) before))
    → NotesMove is_marked notes k (lookup (is_at (key_cmp k)) before) o (mark_at old before k) notes'
    → ((q : Key) (j : ℕ) → lookup (is_at (key_cmp q)) after ≡ Some j → lookup (is_at (key_cmp q)) before ≡ Some j → marked_or (at new j) ≡ marked_or (at old j))
    → marked_by is_marked new after notes' ≡ marked_by is_marked old before notes
marked_move is_marked old new before after notes notes' k o updates (inl stays) kept =
    ap (λ (n : Noted). marked_by is_marked new after n) stays.1 ∙ marked_still is_marked old new before after notes k o updates stays.0 kept
marked_move is_marked old new before after notes notes' k o updates (inr noted) kept = marked_route is_marked old new before after notes notes' k o updates noted kept

-- other judgements leave the marks
same_mark : (c d : Option StoredCase) → IsSameCase c d → marked_or d ≡ marked_or c
same_mark None None same = refl
same_mark None (Some d) same = absurd same
same_mark (Some c) None same = absurd same
same_mark (Some c) (Some d) same = sym same.3

pub marked_rejudged : (is_marked : Bool) (old new : Slots) (routes : Numbered) (notes : Noted) → AreSameCases old new → marked_by is_marked new routes notes ≡ marked_by is_marked old routes notes
marked_rejudged false old new routes notes same = refl
marked_rejudged true old new routes notes same = same_marks old new routes routes notes notes (λ q. ap (noted_or (lookup (is_at (key_cmp q)) notes))
    (kept_part marked_or old new (lookup (is_at (key_cmp q)) routes) (λ j here. same_mark (at old j) (at new j) (same j))))

-- a key without a note gets its first
pub note_new : (before : Option (Option Verdict)) (here : Bool) (was : Option Verdict) → (here ≡ true → before ≡ None) → cond here (Some was) before ≡ or_noted before here was
note_new None true was none = refl
note_new None false was none = refl
note_new (Some v) true was none = absurd (let e : Some v ≡ None = none refl in cc)
note_new (Some v) false was none = refl

-- where the key has a note, no other one comes
pub note_stays : (before : Option (Option Verdict)) (here : Bool) (was : Option Verdict) → (here ≡ true → is_some before ≡ true) → before ≡ or_noted before here was
note_stays None true was some = absurd (true≢false (sym (some refl)))
note_stays None false was some = refl
note_stays (Some v) here was some = refl

pub some_copied : {A : Type 0} (o : Option (Bor A)) → is_some o ≡ true → is_some (option_copied o) ≡ true
some_copied None e = e
some_copied (Some v) e = refl

pub none_of : {A : Type 0} (o : Option A) → is_some o ≡ false → o ≡ None
none_of None e = refl
none_of (Some v) e = absurd (true≢false e)

-- a note that its key had no route is let go
pub forgets : (k : Key) (notes notes' : Noted) → ((q : Key) → lookup (is_at (key_cmp q)) notes' ≡ cond (is_at (key_cmp k) q) None (lookup (is_at (key_cmp q)) notes)) → lookup (is_at (key_cmp k)) notes ≡ Some None
    → (q : Key) → lookup (is_at (key_cmp q)) notes' ≡ kept_note None (is_at (key_cmp k) q) (lookup (is_at (key_cmp q)) notes)
forgets k notes notes' updates here q = updates q ∙ by (is_at (key_cmp k) q) refl where
  by : (b : Bool) → is_at (key_cmp k) q ≡ b → cond b None (lookup (is_at (key_cmp q)) notes) ≡ kept_note None b (lookup (is_at (key_cmp q)) notes)
  by true t = sym (ap (kept_note None true) (ap (λ (r : Key). lookup (is_at (key_cmp r)) notes) (sym (same_key k q t)) ∙ here))
  by false t = sym (kept_off None (lookup (is_at (key_cmp q)) notes))
