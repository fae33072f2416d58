-- What another table or other roles make of the state, and how many judgements they cost.
use Rattle.std.proofs.Common.{◌≡◌, ℕ, Bool, List, refl, ap, sym, subst, ◌∙◌, []}
use Rattle.std.specs.declared.option.Option.{Option}
use Rattle.std.specs.List.Sorted.{IsStrictlySortedBy}
use Rattle.std.specs.Map.{keys_of}
use Rattle.attestations.specs.CurrentTable.{Parts}
use Rattle.path_model.specs.Key.{key_cmp}
use Rattle.path_model.specs.Roles.{Relations}
use Rattle.vap_table.specs.declared.change.TableChange.{TableChange}
use Rattle.vap_table.specs.Change.{Alters}
use Rattle.vap_table.proofs.ChangeLemmas.{one_outcome}
use Rattle.shared_cases.specs.Cases.{Slots, AreSameCases}
use Rattle.shared_cases.specs.Differed.{AreNewlyDiffering}
use Rattle.shared_cases.specs.Grounds.{Grounds}
use Rattle.rib_store.specs.Grounds.{grounds}
use Rattle.shared_cases.specs.Touched.{AreWithinTouched}
use Rattle.route_map.specs.Keys.{Entries}
use Rattle.rib_store.specs.Cased.{Noted, Numbered, AreStored}
use Rattle.rib_store.specs.Marks.{AreCovered, AreKeysOfRoutes, AreMarks, AreNoted, AreSound, TellsMarks, Defers}
use Rattle.rib_store.specs.declared.marks.Marks.{Marks}
use Rattle.rib_store.specs.declared.routing.Routing.{Routing}
use Rattle.rib_store.specs.Routing.{routed_state, AreJudgedAnew}
use Rattle.rib_store.specs.Touched.{IsWithinTouched}
use Rattle.rib_store.proofs.MarksLemmas.{marked_told, noted_event, noted_gathered}
use Rattle.rib_store.proofs.NotedLemmas.{marked_rejudged}
use Rattle.rib_store.proofs.RouteLemmas.{state_by, same_state, routes_rejudged}
use Rattle.rib_store.proofs.TouchedLemmas.{within_routes}

module _ (parts parts' : Parts) (relations relations' : Relations) (is_marked : Bool) (routes : Numbered) (notes : Noted) where
  -- only the parts and the roles are other ones
  pub rejudged_state : (old new : Slots) → AreSameCases old new
      → state_by parts' relations' is_marked new routes notes ≡ record (state_by parts relations is_marked old routes notes) { parts = parts'; roles = relations' }
  rejudged_state old new same = same_state parts' relations' _ _ _ _ (routes_rejudged old new routes same) (marked_rejudged is_marked old new routes notes same)

  pub few_judged : (cases : Slots) (ticks : ℕ) → AreStored (grounds parts relations) routes cases → IsStrictlySortedBy key_cmp (keys_of routes)
      → AreWithinTouched (grounds parts relations) (grounds parts' relations') cases ticks
      → IsWithinTouched (state_by parts relations is_marked cases routes notes) (record (state_by parts relations is_marked cases routes notes) { parts = parts'; roles = relations' }) ticks
  few_judged cases ticks stored sorted within = within_routes (grounds parts relations) (state_by parts relations is_marked cases routes notes)
      (record (state_by parts relations is_marked cases routes notes) { parts = parts'; roles = relations' }) routes cases ticks stored sorted refl within

-- a change has one outcome
pub same_outcome : (parts one other : Parts) (change : TableChange) → Alters parts change one → Alters parts change other → one ≡ other
same_outcome parts one other change a b = let outcome = one_outcome parts change in outcome.only one a ∙ sym (outcome.only other b)

-- new notes of what is marked leave the state
pub noted_state : (parts : Parts) (relations : Relations) (was is : Bool) (routes : Numbered) (cases : Slots) (notes notes' : Noted) → TellsMarks routes cases notes notes' → is ≡ was
    → state_by parts relations is cases routes notes' ≡ state_by parts relations was cases routes notes
noted_state parts relations was is routes cases notes notes' told same = ap (λ (b : Bool). state_by parts relations b cases routes notes') same
    ∙ same_state parts relations _ _ _ _ refl (marked_told was routes cases notes notes' told)

-- the marks belong to the cases once those that newly differ are pending
event_sound : (g : Grounds) (routes : Numbered) (old new : Slots) (marks marks' : Marks) (numbers : List ℕ) → AreMarks routes old marks → AreStored g routes new → AreNewlyDiffering old new numbers
    → Defers marks.is_marked marks.pending numbers marks'.pending → marks'.is_marked ≡ marks.is_marked → marks'.notes ≡ marks.notes → marks'.keys ≡ marks.keys → AreSound g routes new marks'
event_sound g routes old new marks marks' numbers are stored newly defers same notes keys = record {
  stored = stored;
  marks = record {
    noted = subst (λ (b : Bool). AreNoted b routes new marks'.notes marks'.pending) (sym same)
        (subst (λ (es : Noted). AreNoted marks.is_marked routes new es marks'.pending) (sym notes)
        (noted_event marks.is_marked routes old new marks.notes marks.pending marks'.pending numbers are.noted newly defers));
    keys = subst (λ (index : Option Entries). AreKeysOfRoutes index routes) (sym keys) are.keys;
  };
}

module _ (routes : Numbered) (cases : Slots) (marks : Marks) (differing : List ℕ) (r : Routing) (judged : AreJudgedAnew routes cases marks differing r) where
  pub judged_sound : (g : Grounds) (old : Slots) → AreMarks routes old marks → AreStored g routes cases → AreNewlyDiffering old cases differing → AreSound g r.routes r.cases r.marks
  judged_sound g old are stored newly = subst (λ (x : Routing). AreSound g x.routes x.cases x.marks) (sym judged.same)
      (event_sound g routes old cases marks (record marks { pending = r.marks.pending }) differing are stored newly judged.deferred refl refl refl)

  pub judged_state : (parts : Parts) (relations : Relations) → routed_state parts relations r ≡ state_by parts relations marks.is_marked cases routes marks.notes
  judged_state parts relations = ap (λ (x : Routing). routed_state parts relations x) judged.same

-- and once the keys of the pending cases are noted
pub gathered_sound : (g : Grounds) (routes : Numbered) (cases : Slots) (marks marks' : Marks) → AreSound g routes cases marks → TellsMarks routes cases marks.notes marks'.notes
    → AreCovered routes cases marks.pending marks'.notes → AreKeysOfRoutes marks'.keys routes → marks'.pending ≡ [] → marks'.is_marked ≡ marks.is_marked → AreSound g routes cases marks'
gathered_sound g routes cases marks marks' sound told covered keys none same = record {
  stored = sound.stored;
  marks = record {
    noted = subst (λ (b : Bool). AreNoted b routes cases marks'.notes marks'.pending) (sym same)
        (subst (λ (ps : List ℕ). AreNoted marks.is_marked routes cases marks'.notes ps) (sym none)
        (noted_gathered marks.is_marked routes cases marks.notes marks'.notes marks.pending sound.marks.noted told covered));
    keys = keys;
  };
}
