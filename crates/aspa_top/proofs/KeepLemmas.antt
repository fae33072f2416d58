-- What every call keeps of what it is passed.
use Rattle.std.proofs.Common.{◌≡◌, ℕ, ◌≤◌, List, refl, ◌∙◌, arith}
use Rattle.std.specs.declared.option.Option.{Option}
use Rattle.av_base.specs.declared.standing.Standing.{Standing}
use Rattle.av_base.specs.Files.{Files}
use Rattle.av_base.specs.Told.{Grows}
use Rattle.av_base.proofs.LaterLemmas.{ToldLater-refl, ToldLater-trans}
use Rattle.av_base.proofs.PouringLemmas.{Grows-refl, Grows-trans}
use Rattle.connection_calls.specs.Faults.{BreaksByFault}
use Rattle.connection_calls.proofs.FaultsLemmas.{BreaksByFault-refl, BreaksByFault-trans}
use Rattle.connection_calls.proofs.GoingLemmas.{AddsAttempts-refl, AddsAttempts-trans}
use Rattle.aspa_top.specs.Outside.{Keeps, Outside}
use Rattle.aspa_top.specs.World.{GoesOn, Links, names_of}

pub GoesOn-refl : (links : Links) → GoesOn links links
GoesOn-refl links = record { attempts = AddsAttempts-refl links.wire links.attempts; wire = ToldLater-refl links.wire }

pub GoesOn-trans : {old mid new : Links} → GoesOn old mid → GoesOn mid new → GoesOn old new
GoesOn-trans first second = record { attempts = AddsAttempts-trans first.wire first.attempts second.attempts; wire = ToldLater-trans first.wire second.wire }

pub Keeps-trans : {old mid new : Outside} → Keeps old mid → Keeps mid new → Keeps old new
Keeps-trans first second = record {
  names = second.names ∙ first.names;
  shelf_faults = omega (arith, first.shelf_faults, second.shelf_faults);
  later = GoesOn-trans first.later second.later;
  broke = BreaksByFault-trans first.broke second.broke;
  grows = Grows-trans first.grows second.grows;
  sink_faults = omega (arith, first.sink_faults, second.sink_faults);
}

-- whatever is held, and however often the counter ticked
pub keeps_all : (old : Outside) (held : List ℕ) (ticks : ℕ) → Keeps old (record old { held = held; ticks = ticks })
keeps_all old held ticks = record {
  names = refl;
  shelf_faults = omega arith;
  later = GoesOn-refl old.links;
  broke = BreaksByFault-refl old.link_faults old.standings;
  grows = Grows-refl old.written;
  sink_faults = omega arith;
}

-- a call that uses the shelf alone
pub keeps_shelf : (old : Outside) (files : Option Files) (opened faults : ℕ) (held : List ℕ) (ticks : ℕ) → names_of files ≡ names_of old.files → old.shelf_faults ≤ faults
    → Keeps old (record old { files = files; opened = opened; shelf_faults = faults; held = held; ticks = ticks })
keeps_shelf old files opened faults held ticks names later = record {
  names = names;
  shelf_faults = later;
  later = GoesOn-refl old.links;
  broke = BreaksByFault-refl old.link_faults old.standings;
  grows = Grows-refl old.written;
  sink_faults = omega arith;
}

-- the sink alone
pub keeps_sink : (old : Outside) (written : Option (List ℕ)) (faults : ℕ) (held : List ℕ) (ticks : ℕ) → Grows old.written written → old.sink_faults ≤ faults
    → Keeps old (record old { written = written; sink_faults = faults; held = held; ticks = ticks })
keeps_sink old written faults held ticks grows later = record {
  names = refl;
  shelf_faults = omega arith;
  later = GoesOn-refl old.links;
  broke = BreaksByFault-refl old.link_faults old.standings;
  grows = grows;
  sink_faults = later;
}

-- both
pub keeps_both : (old : Outside) (files : Option Files) (opened shelf_faults : ℕ) (written : Option (List ℕ)) (sink_faults : ℕ) (held : List ℕ) (ticks : ℕ)
    → names_of files ≡ names_of old.files → old.shelf_faults ≤ shelf_faults → Grows old.written written → old.sink_faults ≤ sink_faults
    → Keeps old (record old { files = files; opened = opened; shelf_faults = shelf_faults; written = written; sink_faults = sink_faults; held = held; ticks = ticks })
keeps_both old files opened shelf_faults written sink_faults held ticks names later grows more = record {
  names = names;
  shelf_faults = later;
  later = GoesOn-refl old.links;
  broke = BreaksByFault-refl old.link_faults old.standings;
  grows = grows;
  sink_faults = more;
}

-- the links alone
pub keeps_links : (old : Outside) (links : Links) (standings : List Standing) (faults : ℕ) (held : List ℕ) (ticks : ℕ) → GoesOn old.links links
    → BreaksByFault old.link_faults faults old.standings standings
    → Keeps old (record old { links = links; standings = standings; link_faults = faults; held = held; ticks = ticks })
keeps_links old links standings faults held ticks later broke = record {
  names = refl;
  shelf_faults = omega arith;
  later = later;
  broke = broke;
  grows = Grows-refl old.written;
  sink_faults = omega arith;
}

-- the links and the sink
pub keeps_talk : (old : Outside) (links : Links) (standings : List Standing) (faults : ℕ) (written : Option (List ℕ)) (sink_faults : ℕ) (held : List ℕ) (ticks : ℕ) → GoesOn old.links links
    → BreaksByFault old.link_faults faults old.standings standings → Grows old.written written → old.sink_faults ≤ sink_faults
    → Keeps old (record old { links = links; standings = standings; link_faults = faults; written = written; sink_faults = sink_faults; held = held; ticks = ticks })
keeps_talk old links standings faults written sink_faults held ticks later broke grows more = record {
  names = refl;
  shelf_faults = omega arith;
  later = later;
  broke = broke;
  grows = grows;
  sink_faults = more;
}
