-- What changed was listed, and all was marked.
use Rattle.std.proofs.Common.{◌≡◌, ℕ, ◌<◌, List, length, Ok, refl, sym, ap, subst, ◌∙◌, arith, flat_map}
use Rattle.std.specs.declared.option.Option.{Option}
use Rattle.std.specs.Io.KnownBytes.{append_known}
use Rattle.av_base.specs.Told.{AppendsFront, Rose}
use Rattle.rib_store.specs.declared.journal.ChangedKey.{ChangedKey}
use Rattle.rib_store.specs.Changes.{AreChanges, IsMarked}
use Rattle.rib_store.specs.State.{State as Analysis}
use Rattle.rib_store.proofs.MarkLemmas.{has_one_marking}
use Rattle.av_base.specs.declared.stop.Stop.{Stop}
use Rattle.av_base.specs.declared.stop.Stop.TheVariants as stops
use Rattle.listings.specs.Changes.{change_row}
use Rattle.listings.proofs.ReportedLemmas.{changes_reported, changes_reported_front}
use Rattle.aspa_top.specs.declared.task.Task.TheVariants.{Changes}
use Rattle.aspa_top.specs.declared.working.Working.{Working}
use Rattle.aspa_top.specs.Outside.{Outside, all_of}
use Rattle.aspa_top.specs.Performing.{Done, EndedEarly}
use Rattle.aspa_top.specs.Standing.{IsBegun}
use Rattle.aspa_top.specs.Working.{Marked}
use Rattle.aspa_top.proofs.DidLemmas.{some_done, stopped_by_sink}
use Rattle.aspa_top.proofs.ReadyLemmas.{kept_analysed, ready_streams}
use Rattle.aspa_top.proofs.StandsLemmas.{stands_analysed}

module _ (working : Working) (analysis : Analysis) (old : Outside) (written : Option (List ℕ)) (faults : ℕ) (held : List ℕ) (is : analysis ≡ working.progress.analyser) where
  pub listed : (next : Working) (changes : List ChangedKey) → IsBegun old working → AreChanges analysis changes → append_known written held ≡ append_known (all_of old) (flat_map change_row changes) → Marked working next
      → Done working (Ok Changes) old (record old { written = written; sink_faults = faults; held = held }) next
  listed next changes begun are added marked =
      let new : Outside = record old { written = written; sink_faults = faults; held = held } in
      record {
        goes = λ world tells state stands. record {
          text = flat_map change_row changes;
          after = record state { analysis = next.progress.analyser };
          does = λ ends comes. record {
            changes = changes;
            are = subst (λ (a : Analysis). AreChanges a changes) (is ∙ stands.analysis) are;
            text_is = refl;
            analysis = next.progress.analyser;
            marked = subst (λ (a : Analysis). IsMarked a next.progress.analyser) stands.analysis marked.marked;
            left = refl;
          };
          added = added;
          stands = stands_analysed old.files old.links working next state next.progress.analyser state.judgements marked.left stands;
          ticked = omega arith;
        };
        ready = ready_streams old new working next (omega arith) refl begun (kept_analysed working next marked.left);
        lines = ap (λ (w : Working). w.lines) marked.left;
        adds = changes_reported (all_of old) (all_of new) changes added old.link_faults;
      }

  -- some of it was listed
  pub list_stopped : (stop : Stop) (changes : List ChangedKey) → AreChanges analysis changes → AppendsFront (all_of old) (append_known written held) (flat_map change_row changes)
      → (stop ≡ stops.Shelf → ⊥) → (stop ≡ stops.Sink → 0 < length held) → (stop ≡ stops.Sink → Rose old.sink_faults faults)
      → EndedEarly working (Ok Changes) old (record old { written = written; sink_faults = faults; held = held }) stop
  list_stopped stop changes are front no_shelf some rose =
      let new : Outside = record old { written = written; sink_faults = faults; held = held } in
      some_done working (Ok Changes) old new stop refl
      (λ world tells state stands.
      let marking = has_one_marking state.analysis in
      record {
        part = front.before.front;
        rest = front.rest;
        after = record state { analysis = marking.one };
        does = λ ends. record {
          changes = changes;
          are = subst (λ (a : Analysis). AreChanges a changes) (is ∙ stands.analysis) are;
          text_is = sym front.before.whole;
          analysis = marking.one;
          marked = marking.is;
          left = refl;
        };
        added = front.before.told;
        ticked = omega arith;
        came_to = λ ends. tt;
      })
      (changes_reported_front (all_of old) (all_of new) changes front old.link_faults) (stopped_by_sink working (Ok Changes) old new stop no_shelf some rose)
