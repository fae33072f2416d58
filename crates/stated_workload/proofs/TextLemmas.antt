-- Each seed has one text, and what is written of it.
use Rattle.std.proofs.Common.{◌≡◌, ℕ, ◌<◌, List, [], ◌++◌, length, IfSome, refl, sym, ap, subst, ◌∙◌, append-nil}
use Rattle.std.specs.Io.KnownBytes.{append_known}
use Rattle.std.specs.declared.option.Option.{Option}
use Rattle.av_base.specs.Told.{AppendsFront, AppendsPart, Grows}
use Rattle.av_base.proofs.PouringLemmas.{written_front, written_part}
use Rattle.av_base.proofs.ToldLemmas.{AppendsFront-start, append_known-nil}
use Rattle.report_text.specs.declared.summary.Summary.{Summary}
use Rattle.report_text.specs.Change.{changed_text}
use Rattle.report_text.specs.Summary.{summary_text}
use Rattle.rib_store.specs.declared.journal.ChangedKey.{ChangedKey}
use Rattle.rib_store.specs.Changes.{AreChanges, IsMarked}
use Rattle.rib_store.specs.State.{State, no_state}
use Rattle.rib_store.proofs.ChangeLawLemmas.{has_one_list_of_changes}
use Rattle.rib_store.proofs.MarkLemmas.{has_one_marking}
use Rattle.analyser.specs.declared.event.Event.{Event}
use Rattle.stated_workload.specs.Happening.{HappenAll}
use Rattle.av_base.specs.One.{HasOne}
use Rattle.listings.specs.Summary.{IsSummary}
use Rattle.stated_workload.specs.Text.{IsTextOf, WritesFront, WritesPart, WritesText}
use Rattle.stated_workload.specs.Workload.{IsWorkload}
use Rattle.stated_workload.proofs.HappeningLemmas.{one_end, some_end}
use Rattle.listings.proofs.SummaryLemmas.{one_summary, some_summary}
use Rattle.stated_workload.proofs.WorkloadLawLemmas.{one_workload, some_workload}

abbrev lines_of : Summary → Summary → ℕ → List ℕ
lines_of first last changes = summary_text first ++ summary_text last ++ changed_text changes

-- ---- one text

one_marking : (state next one other : State) → next ≡ state → IsMarked state one → IsMarked next other → other ≡ one
one_marking state next one other same a b =
    let marking = has_one_marking state in
    marking.only other (subst (λ (s : State). IsMarked s other) same b) ∙ sym (marking.only one a)

summary_at : (state next : State) (one other : Summary) → next ≡ state → IsSummary state 0 0 one → IsSummary next 0 0 other → other ≡ one
summary_at state next one other same a b = one_summary state 0 0 other one (subst (λ (s : State). IsSummary s 0 0 other) same b) a

changes_at : (state next : State) (one other : List ChangedKey) → next ≡ state → AreChanges state one → AreChanges next other → other ≡ one
changes_at state next one other same a b =
    let changes = has_one_list_of_changes state in
    changes.only other (subst (λ (s : State). AreChanges s other) same b) ∙ sym (changes.only one a)

end_at : (old state : State) (events given : List Event) (new other : State) → state ≡ old → given ≡ events → HappenAll old events new → HappenAll state given other → other ≡ new
end_at old state events given new other from same a b = one_end old state events new other (sym from) a (subst (λ (l : List Event). HappenAll state l other) same b)

pub one_text : (seed : ℕ) (text other : List ℕ) → IsTextOf seed text → IsTextOf seed other → other ≡ text
one_text seed text other a b =
    let events = one_workload seed a.loading a.amending b.loading b.amending a.workload b.workload in
    let loaded : b.loaded ≡ a.loaded = end_at no_state no_state a.loading b.loading a.loaded b.loaded refl events.0 a.loads b.loads in
    let marked : b.marked ≡ a.marked = one_marking a.loaded b.loaded a.marked b.marked loaded a.marks b.marks in
    let amended : b.amended ≡ a.amended = end_at a.marked b.marked a.amending b.amending a.amended b.amended marked events.1 a.amends b.amends in
    let first : b.first ≡ a.first = summary_at a.loaded b.loaded a.first b.first loaded a.first_is b.first_is in
    let last : b.last ≡ a.last = summary_at a.amended b.amended a.last b.last amended a.last_is b.last_is in
    let changes : b.changes ≡ a.changes = changes_at a.amended b.amended a.changes b.changes amended a.changes_are b.changes_are in
    b.is ∙ (λ i. lines_of (first i) (last i) (length (changes i))) ∙ sym a.is

pub some_text : (seed : ℕ) → (text : List ℕ) × IsTextOf seed text
some_text seed =
    let workload = some_workload seed in
    let loaded = some_end no_state workload.0 in
    let first = some_summary loaded.0 0 0 in
    let marking = has_one_marking loaded.0 in
    let amended = some_end marking.one workload.1 in
    let last = some_summary amended.0 0 0 in
    let changes = has_one_list_of_changes amended.0 in (
      lines_of first.0 last.0 (length changes.one),
      record {
        loading = workload.0;
        amending = workload.1;
        workload = workload.2;
        loaded = loaded.0;
        loads = loaded.1;
        first = first.0;
        first_is = first.1;
        marked = marking.one;
        marks = marking.is;
        amended = amended.0;
        amends = amended.1;
        last = last.0;
        last_is = last.1;
        changes = changes.one;
        changes_are = changes.is;
        is = refl;
      },
    )

pub has_one_text : (seed : ℕ) → HasOne (IsTextOf seed)
has_one_text seed = let some = some_text seed in record { one = some.0; is = some.1; only = λ other is. one_text seed some.0 other some.1 is }

-- ---- what is written

pub writes_all : (seed : ℕ) (old new : Option (List ℕ)) (text : List ℕ) → IsTextOf seed text → append_known new [] ≡ append_known old text → WritesText seed old new
writes_all seed old new text is same = record { text = text; is = is; written = sym (append_known-nil new) ∙ same }

pub writes_nothing : (seed : ℕ) (old : Option (List ℕ)) → WritesFront seed old old
writes_nothing seed old text is = AppendsFront-start old text

pub writes_front : (seed : ℕ) (old new : Option (List ℕ)) (text held : List ℕ) → IsTextOf seed text → Grows old new → append_known new held ≡ append_known old text → WritesFront seed old new
writes_front seed old new text held is grows same other also = subst (λ (l : List ℕ). AppendsFront old new l) (one_text seed other text also is) (written_front old new held text grows same)

pub writes_part : (seed : ℕ) (old new : Option (List ℕ)) (text held : List ℕ) → IsTextOf seed text → Grows old new → append_known new held ≡ append_known old text → 0 < length held → WritesPart seed old new
writes_part seed old new text held is grows same some other also =
    subst (λ (l : List ℕ). IfSome old (λ before. AppendsPart old new l)) (append-nil text ∙ one_text seed other text also is) (written_part old new held text [] grows same some)

pub ruleset writing = (writes_all, writes_nothing, writes_front, writes_part)

-- the lines that were put one behind another, of states that were read where they stood
pub text_is : (seed : ℕ) (loading amending : List Event) (empty loaded marked amended one two three : State) (first last : Summary) (changes : List ChangedKey) (count : ℕ) (none some more all : List ℕ)
    → IsWorkload seed loading amending → empty ≡ no_state → HappenAll empty loading loaded → one ≡ loaded → IsSummary one 0 0 first → IsMarked loaded marked → HappenAll marked amending amended
    → two ≡ amended → IsSummary two 0 0 last → three ≡ amended → AreChanges three changes → count ≡ length changes
    → none ≡ [] → some ≡ none ++ summary_text first → more ≡ some ++ summary_text last → all ≡ more ++ changed_text count → IsTextOf seed all
text_is seed loading amending empty loaded marked amended one two three first last changes count none some more all workload nothing loads at_one first_is marks amends at_two last_is at_three changes_are counted is_none is_some is_more is_all = record {
  loading = loading;
  amending = amending;
  workload = workload;
  loaded = loaded;
  loads = subst (λ (s : State). HappenAll s loading loaded) nothing loads;
  first = first;
  first_is = subst (λ (s : State). IsSummary s 0 0 first) at_one first_is;
  marked = marked;
  marks = marks;
  amended = amended;
  amends = amends;
  last = last;
  last_is = subst (λ (s : State). IsSummary s 0 0 last) at_two last_is;
  changes = changes;
  changes_are = subst (λ (s : State). AreChanges s changes) at_three changes_are;
  is = is_all ∙ ap (λ (l : List ℕ). l ++ changed_text count) (is_more ∙ ap (λ (l : List ℕ). l ++ summary_text last) (is_some ∙ ap (λ (l : List ℕ). l ++ summary_text first) is_none))
      ∙ ap (λ (n : ℕ). lines_of first last n) counted;
}
