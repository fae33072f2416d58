-- The notes and the keys of the cases stay with the routes and the cases through each change.
use Rattle.std.proofs.Common.{◌≡◌, ℕ, nat_eq, Bool, true, false, cond, ◌&&◌, ◌||◌, not, List, [], ◌∷◌, None, Some, refl, ap, sym, subst, ◌∙◌, ◌⊎◌, inl, inr, true≢false}
use Rattle.std.specs.declared.option.Option.{Option}
use Rattle.std.specs.BTreeMap.{is_at}
use Rattle.std.specs.Cmp.{nat_eq_equiv}
use Rattle.std.specs.Map.{lookup}
use Rattle.std.specs.Option.{is_some}
use Rattle.std.proofs.lemmas.Map.Views.{exact_unsigned_eq}
use Rattle.path_model.specs.declared.key.Key.{Key}
use Rattle.path_model.specs.declared.verdict.Verdict.{Verdict}
use Rattle.path_model.specs.Key.{key_cmp}
use Rattle.route_map.specs.Keys.{Entries, has, is_value, IsReverse}
use Rattle.shared_cases.specs.declared.case.StoredCase.{StoredCase}
use Rattle.shared_cases.specs.Cases.{Slots, at, marked_or, has_differed, marked_now, IsSettled}
use Rattle.shared_cases.specs.Differed.{AreNewlyDiffering, AreSettledOrDiffered}
use Rattle.shared_cases.specs.Numbers.{has as numbers_have}
use Rattle.shared_cases.specs.Taking.{raised, lowered}
use Rattle.rib_store.specs.Cased.{Noted, Numbered, noted_or, marked_by, IsOfAs}
use Rattle.rib_store.specs.Marks.{is_noted, AreNoted, AreKeysOfRoutes, Defers, IsCaseAt, FollowsIn, AreOfPeers, is_key_of, or_else, note_by, NotesCases, TellsMark, TellsMarks, AreCovered}
use Rattle.rib_store.specs.Steps.{kept_note, or_noted, NotesChange, NotesMove}
use Rattle.rib_store.proofs.KeyLemmas.{same_key}
use Rattle.rib_store.proofs.NotedLemmas.{kept_off, kept_on, mark_at, same_marks}

pub raised_differed : (c : Option StoredCase) → has_differed (raised c) ≡ has_differed c
raised_differed None = refl
raised_differed (Some c) = refl

pub lowered_differed : (c : Option StoredCase) → has_differed (lowered c) ≡ has_differed c
lowered_differed None = refl
lowered_differed (Some c) = refl

-- a key without a note has a settled case
pub unnoted_settled : (routes : Numbered) (cases : Slots) (notes : Noted) → AreNoted true routes cases notes [] → AreSettledOrDiffered cases
    → (q : Key) (n : ℕ) → lookup (is_at (key_cmp q)) routes ≡ Some n → lookup (is_at (key_cmp q)) notes ≡ None → IsSettled (at cases n)
unnoted_settled routes cases notes noted settled q n here none = by (has_differed (at cases n)) refl where
  by : (b : Bool) → has_differed (at cases n) ≡ b → IsSettled (at cases n)
  by true t = absurd (true≢false (sym (noted refl q n here t) ∙ ap (λ (o : Option (Option Verdict)). is_some o || false) none))
  by false t = settled n t

-- ---- one route changes

abbrev pub Updates : Key → Option ℕ → Numbered → Numbered → Type 0
Updates k o before after = (q : Key) → lookup (is_at (key_cmp q)) after ≡ cond (is_at (key_cmp k) q) o (lookup (is_at (key_cmp q)) before)

or_noted_some : (noted : Option (Option Verdict)) (was : Option Verdict) → is_some (or_noted noted true was) ≡ true
or_noted_some None was = refl
or_noted_some (Some v) was = refl

or_noted_off : (noted : Option (Option Verdict)) (was : Option Verdict) → or_noted noted false was ≡ noted
or_noted_off None was = refl
or_noted_off (Some v) was = refl

module _ (old new : Slots) (before after : Numbered) (notes notes' : Noted) (pending : List ℕ) (k : Key) (o : Option ℕ) (was : Option Verdict) (updates : Updates k o before after)
    (kept : (q : Key) (j : ℕ) → lookup (is_at (key_cmp q)) after ≡ Some j → lookup (is_at (key_cmp q)) before ≡ Some j → has_differed (at new j) ≡ has_differed (at old j)) where
  unmoved : (q : Key) → lookup (is_at (key_cmp k)) before ≡ o → (b : Bool) → is_at (key_cmp k) q ≡ b → lookup (is_at (key_cmp q)) after ≡ lookup (is_at (key_cmp q)) before
  unmoved q stays true t = updates q ∙ ap (λ (b : Bool). cond b o (lookup (is_at (key_cmp q)) before)) t ∙ sym stays ∙ ap (λ (r : Key). lookup (is_at (key_cmp r)) before) (same_key k q t)
  unmoved q stays false t = updates q ∙ ap (λ (b : Bool). cond b o (lookup (is_at (key_cmp q)) before)) t

  noted_still : AreNoted true before old notes pending → lookup (is_at (key_cmp k)) before ≡ o → AreNoted true after new notes pending
  noted_still noted stays t q n here differed =
      let was : lookup (is_at (key_cmp q)) before ≡ Some n = sym (unmoved q stays (is_at (key_cmp k) q) refl) ∙ here in
      noted refl q n was (sym (kept q n here was) ∙ differed)

  noted_anew : AreNoted true before old notes pending → NotesChange true notes k o was notes' → AreNoted true after new notes' pending
  noted_anew noted notes_it t q n here differed = by (is_at (key_cmp k) q) refl where
    by : (b : Bool) → is_at (key_cmp k) q ≡ b → is_noted notes' pending q n ≡ true
    by true e =
        let is : o ≡ Some n = sym (ap (λ (b : Bool). cond b o (lookup (is_at (key_cmp q)) before)) e) ∙ sym (updates q) ∙ here in
        ap (λ (b : Bool). b || numbers_have pending n)
        (ap is_some (notes_it q ∙ (λ i. kept_note (is i) (e i) (or_noted (lookup (is_at (key_cmp q)) notes) (e i) was)) ∙ kept_on n true (or_noted (lookup (is_at (key_cmp q)) notes) true was))
        ∙ or_noted_some (lookup (is_at (key_cmp q)) notes) was)
    by false e =
        let had : lookup (is_at (key_cmp q)) before ≡ Some n = sym (ap (λ (b : Bool). cond b o (lookup (is_at (key_cmp q)) before)) e) ∙ sym (updates q) ∙ here in
        ap (λ (x : Option (Option Verdict)). is_some x || numbers_have pending n) (notes_it q ∙ ap (λ (b : Bool). kept_note o b (or_noted (lookup (is_at (key_cmp q)) notes) b was)) e
        ∙ kept_off o (or_noted (lookup (is_at (key_cmp q)) notes) false was) ∙ or_noted_off (lookup (is_at (key_cmp q)) notes) was)
        ∙ noted refl q n had (sym (kept q n here had) ∙ differed)

  pub noted_move : (is_marked : Bool) → AreNoted is_marked before old notes pending → NotesMove is_marked notes k (lookup (is_at (key_cmp k)) before) o was notes' → AreNoted is_marked after new notes' pending
  noted_move false noted moves = λ t q n here differed. absurd (true≢false (sym t))
  noted_move true noted (inl stays) = subst (λ (m : Noted). AreNoted true after new m pending) (sym stays.1) (noted_still noted stays.0)
  noted_move true noted (inr notes_it) = noted_anew noted notes_it

-- the keys of the cases follow
pub case_at : (keys : Option Entries) (routes : Numbered) (k : Key) → AreKeysOfRoutes keys routes → IsCaseAt keys k (lookup (is_at (key_cmp k)) routes)
case_at None routes k held = tt
case_at (Some index) routes k held = λ n. held n k

pub keys_follow : (keys keys' : Option Entries) (before after : Numbered) (k : Key) (o : Option ℕ) → AreKeysOfRoutes keys before → Updates k o before after → FollowsIn keys k o keys' → AreKeysOfRoutes keys' after
keys_follow None keys' before after k o held updates follows = subst (λ (e : Option Entries). AreKeysOfRoutes e after) (sym follows) tt
keys_follow (Some index) None before after k o held updates follows = absurd follows
keys_follow (Some index) (Some index') before after k o held updates follows = λ n q. follows n q ∙ by n q (is_at (key_cmp k) q) ∙ ap (λ (r : Option ℕ). is_value r n) (sym (updates q)) where
  by : (n : ℕ) (q : Key) (b : Bool) → cond b (is_value o n) (has index n q) ≡ is_value (cond b o (lookup (is_at (key_cmp q)) before)) n
  by n q true = refl
  by n q false = held n q

-- ---- cases differ

either : (a b c : Bool) → (a || b) ≡ true → (a || (b || c)) ≡ true
either true b c e = refl
either false true c e = refl
either false false c e = absurd (true≢false (sym e))

last : (a b c : Bool) → c ≡ true → (a || (b || c)) ≡ true
last true b c e = refl
last false true c e = refl
last false false c e = e

-- the cases that newly differ are pending
pub noted_event : (is_marked : Bool) (routes : Numbered) (old new : Slots) (notes : Noted) (pending pending' numbers : List ℕ) → AreNoted is_marked routes old notes pending → AreNewlyDiffering old new numbers
    → Defers is_marked pending numbers pending' → AreNoted is_marked routes new notes pending'
noted_event false routes old new notes pending pending' numbers noted newly defers t q n here differed = absurd (true≢false (sym t))
noted_event true routes old new notes pending pending' numbers noted newly defers t q n here differed =
    ap (λ (b : Bool). is_some (lookup (is_at (key_cmp q)) notes) || b) (defers n) ∙ by (has_differed (at old n)) refl where
      by : (b : Bool) → has_differed (at old n) ≡ b → (is_some (lookup (is_at (key_cmp q)) notes) || (numbers_have pending n || numbers_have numbers n)) ≡ true
      by true e = either (is_some (lookup (is_at (key_cmp q)) notes)) (numbers_have pending n) (numbers_have numbers n) (noted t q n here e)
      by false e = last (is_some (lookup (is_at (key_cmp q)) notes)) (numbers_have pending n) (numbers_have numbers n) (newly n ∙ (λ i. differed i && not (e i)))

told_some : (routes : Numbered) (cases : Slots) (q : Key) (old new : Option (Option Verdict)) → (new ≡ old) ⊎ TellsMark routes cases q old new → is_some old ≡ true → is_some new ≡ true
told_some routes cases q old new (inl same) some = ap is_some same ∙ some
told_some routes cases q old new (inr tells) some = ap is_some tells.told

-- the keys of the pending cases are noted
pub noted_gathered : (is_marked : Bool) (routes : Numbered) (cases : Slots) (notes notes' : Noted) (pending : List ℕ) → AreNoted is_marked routes cases notes pending → TellsMarks routes cases notes notes'
    → AreCovered routes cases pending notes' → AreNoted is_marked routes cases notes' []
noted_gathered is_marked routes cases notes notes' pending noted tells covered t q n here differed =
    ap (λ (b : Bool). b || false) (by (is_some (lookup (is_at (key_cmp q)) notes)) refl) where
      by : (b : Bool) → is_some (lookup (is_at (key_cmp q)) notes) ≡ b → is_some (lookup (is_at (key_cmp q)) notes') ≡ true
      by true e = told_some routes cases q _ _ (tells q) e
      by false e = covered q n here (sym (ap (λ (b : Bool). b || numbers_have pending n) e) ∙ noted t q n here differed) differed

-- what is marked stays
mark_told : (routes : Numbered) (cases : Slots) (q : Key) (old new : Option (Option Verdict)) → (new ≡ old) ⊎ TellsMark routes cases q old new
    → noted_or new (mark_at cases routes q) ≡ noted_or old (mark_at cases routes q)
mark_told routes cases q old new (inl same) = ap (λ (o : Option (Option Verdict)). noted_or o (mark_at cases routes q)) same
mark_told routes cases q old new (inr tells) = ap (λ (o : Option (Option Verdict)). noted_or o (mark_at cases routes q)) tells.told
    ∙ sym (ap (λ (o : Option (Option Verdict)). noted_or o (mark_at cases routes q)) tells.was ∙ mark_is) where
      mark_is : mark_at cases routes q ≡ Some (marked_or (at cases tells.number))
      mark_is = ap (λ (o : Option ℕ). by o) tells.here where
        by : Option ℕ → Option Verdict
        by None = None
        by (Some n) = Some (marked_or (at cases n))

pub marked_told : (is_marked : Bool) (routes : Numbered) (cases : Slots) (notes notes' : Noted) → TellsMarks routes cases notes notes'
    → marked_by is_marked cases routes notes' ≡ marked_by is_marked cases routes notes
marked_told false routes cases notes notes' tells = refl
marked_told true routes cases notes notes' tells = same_marks cases cases routes routes notes notes' (λ q. mark_told routes cases q _ _ (tells q))

-- nothing is noted
pub tells_none : (routes : Numbered) (cases : Slots) (notes : Noted) → TellsMarks routes cases notes notes
tells_none routes cases notes q = inl refl

-- ---- the notes of some cases' keys

module _ (index : Entries) (routes : Numbered) (cases : Slots) (of_peers : AreOfPeers routes cases) (held : IsReverse index routes) where
  both : (a b : Bool) → (a && b) ≡ true → b ≡ true
  both true b e = e
  both false b e = absurd (true≢false (sym e))

  has_it : (c : Option StoredCase) (n : ℕ) (q : Key) → is_key_of c index n q ≡ true → has index n q ≡ true
  has_it None n q e = absurd (true≢false (sym e))
  has_it (Some c) n q e = both (nat_eq c.asn q.peer.asn) (has index n q) e

  value_is : (o : Option ℕ) (n : ℕ) → is_value o n ≡ true → o ≡ Some n
  value_is None n e = absurd (true≢false (sym e))
  value_is (Some m) n e = ap Some (sym (exact_unsigned_eq n m e))

  abbrev note_of : List ℕ → Key → Option (Option Verdict)
  note_of numbers q = note_by index cases numbers q

  told_by : (numbers : List ℕ) (q : Key) → (note_of numbers q ≡ None) ⊎ TellsMark routes cases q None (note_of numbers q)
  told_by [] q = inl refl
  told_by (n ∷ ns) q = by (told_by ns q) (is_key_of (at cases n) index n q) refl where
    by : (note_of ns q ≡ None) ⊎ TellsMark routes cases q None (note_of ns q) → (b : Bool) → is_key_of (at cases n) index n q ≡ b
        → (cond b (Some (Some (marked_or (at cases n)))) (note_of ns q) ≡ None) ⊎ TellsMark routes cases q None (cond b (Some (Some (marked_or (at cases n)))) (note_of ns q))
    by ih true e = inr (record { was = refl; number = n; here = value_is (lookup (is_at (key_cmp q)) routes) n (sym (held n q) ∙ has_it (at cases n) n q e); told = refl })
    by ih false e = ih

  tells_at : (numbers : List ℕ) (q : Key) (old : Option (Option Verdict)) → (or_else old (note_of numbers q) ≡ old) ⊎ TellsMark routes cases q old (or_else old (note_of numbers q))
  tells_at numbers q None = told_by numbers q
  tells_at numbers q (Some v) = inl refl

  pub notes_tell : (numbers : List ℕ) (notes notes' : Noted) → NotesCases index cases numbers notes notes' → TellsMarks routes cases notes notes'
  notes_tell numbers notes notes' is q =
      subst (λ (o : Option (Option Verdict)). (o ≡ lookup (is_at (key_cmp q)) notes) ⊎ TellsMark routes cases q (lookup (is_at (key_cmp q)) notes) o) (sym (is q)) (tells_at numbers q (lookup (is_at (key_cmp q)) notes))

  -- a key of a case that differed is one of the case's
  is_one : (c : Option StoredCase) (n : ℕ) (q : Key) → has_differed c ≡ true → IsOfAs c q.peer.asn → has index n q ≡ true → is_key_of c index n q ≡ true
  is_one None n q differed of_as has_it = absurd (true≢false (sym differed))
  is_one (Some c) n q differed of_as has_it = (λ i. nat_eq (of_as i) q.peer.asn && has_it i) ∙ ap (λ (b : Bool). b && true) (nat_eq_equiv.refl q.peer.asn)

  some_by : (numbers : List ℕ) (q : Key) (n : ℕ) → numbers_have numbers n ≡ true → is_key_of (at cases n) index n q ≡ true → is_some (note_of numbers q) ≡ true
  some_by [] q n member e = absurd (true≢false (sym member))
  some_by (m ∷ ms) q n member e = by (some_by ms q n) (is_key_of (at cases m) index m q) refl (nat_eq n m) refl where
    by : (numbers_have ms n ≡ true → is_key_of (at cases n) index n q ≡ true → is_some (note_of ms q) ≡ true) → (b : Bool) → is_key_of (at cases m) index m q ≡ b → (d : Bool) → nat_eq n m ≡ d
        → is_some (cond b (Some (Some (marked_or (at cases m)))) (note_of ms q)) ≡ true
    by ih true t d u = refl
    by ih false t true u = absurd (true≢false (sym e ∙ ap (λ (j : ℕ). is_key_of (at cases j) index j q) (exact_unsigned_eq n m u) ∙ t))
    by ih false t false u = ih (later u) e where
      later : nat_eq n m ≡ false → numbers_have ms n ≡ true
      later u = sym (ap (λ (d : Bool). d || numbers_have ms n) u) ∙ member

  or_else_some : (old other : Option (Option Verdict)) → is_some other ≡ true → is_some (or_else old other) ≡ true
  or_else_some None other e = e
  or_else_some (Some v) other e = refl

  value_itself : (n : ℕ) → is_value (Some n) n ≡ true
  value_itself n = nat_eq_equiv.refl n

  pub notes_cover : (numbers : List ℕ) (notes notes' : Noted) → NotesCases index cases numbers notes notes' → AreCovered routes cases numbers notes'
  notes_cover numbers notes notes' is q n here member differed =
      ap is_some (is q) ∙ or_else_some (lookup (is_at (key_cmp q)) notes) (note_of numbers q)
      (some_by numbers q n member (is_one (at cases n) n q differed (of_peers q n here) (held n q ∙ ap (λ (o : Option ℕ). is_value o n) here ∙ value_itself n)))

-- ---- all verdicts are marked

marked_differed : (c : Option StoredCase) → has_differed (marked_now c) ≡ false
marked_differed None = refl
marked_differed (Some c) = refl

pub noted_marked : (routes : Numbered) (old new : Slots) (notes : Noted) (pending : List ℕ) → ((n : ℕ) → at new n ≡ marked_now (at old n)) → AreNoted true routes new notes pending
noted_marked routes old new notes pending marked t q n here differed = absurd (true≢false (sym differed ∙ ap has_differed (marked n) ∙ marked_differed (at old n)))

-- ---- one more of the cases, and one more of the keys

case_first : (old other : Option (Option Verdict)) (b : Bool) (was : Option Verdict) → or_else (or_noted old b was) other ≡ or_else old (cond b (Some was) other)
case_first None other true was = refl
case_first None other false was = refl
case_first (Some v) other b was = refl

pub noted_more : (index : Entries) (cases : Slots) (n : ℕ) (ns : List ℕ) (q : Key) (old new : Option (Option Verdict))
    → new ≡ or_noted old (is_key_of (at cases n) index n q) (Some (marked_or (at cases n)))
    → or_else new (note_by index cases ns q) ≡ or_else old (note_by index cases (n ∷ ns) q)
noted_more index cases n ns q old new is = ap (λ (o : Option (Option Verdict)). or_else o (note_by index cases ns q)) is
    ∙ case_first old (note_by index cases ns q) (is_key_of (at cases n) index n q) (Some (marked_or (at cases n)))

pub key_first : (old : Option (Option Verdict)) (b d : Bool) (was : Option Verdict) → or_noted (or_noted old b was) d was ≡ or_noted old (b || d) was
key_first None true d was = refl
key_first None false d was = refl
key_first (Some v) b d was = refl
