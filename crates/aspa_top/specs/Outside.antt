-- All that a run is passed down: what is outside, the text that it holds and its counter, at one moment; private contracts alone cite it.
use Rattle.std.specs.Prelude.{◌≡◌, ℕ, ◌≤◌, List}
use Rattle.std.specs.Io.KnownBytes.{append_known}
use Rattle.std.specs.declared.option.Option.{Option}
use Rattle.av_base.specs.declared.links.Links.{Ghosts as LinksOf}
use Rattle.av_base.specs.declared.shelf.Shelf.{Ghosts as ShelfOf}
use Rattle.av_base.specs.declared.sink.Sink.{Ghosts as SinkOf}
use Rattle.av_base.specs.declared.standing.Standing.{Standing}
use Rattle.av_base.specs.Files.{Files}
use Rattle.av_base.specs.Told.{Grows}
use Rattle.connection_calls.specs.Faults.{BreaksByFault}
use Rattle.aspa_top.specs.World.{GoesOn, Links, linked, names_of}

pub record Outside : Type 0 where
  -- the shelf: its files where it tells them, how many were opened, and the faults that it counted
  pub files : Option Files
  pub opened : ℕ
  pub shelf_faults : ℕ
  -- the links: what they tell, how their connections stand, and their faults
  pub links : Links
  pub standings : List Standing
  pub link_faults : ℕ
  -- the sink: what was written where it tells that, and its faults
  pub written : Option (List ℕ)
  pub sink_faults : ℕ
  -- the text that is held, and the counter
  pub held : List ℕ
  pub ticks : ℕ

-- read off the objects themselves, by the words of their traits
abbrev pub outside : {F K W : Type 0} → ShelfOf F → LinksOf K → SinkOf W → F → K → W → List ℕ → ℕ → Outside
outside F K W shelf links out held ticks = record {
  files = F.files shelf;
  opened = F.opened shelf;
  shelf_faults = F.faults shelf;
  links = linked (K.attempts links) (K.wire links);
  standings = K.standings links;
  link_faults = K.faults links;
  written = W.written out;
  sink_faults = W.faults out;
  held = held;
  ticks = ticks;
}

-- what was written, and behind it what is held
abbrev pub all_of : Outside → Option (List ℕ)
all_of now = append_known now.written now.held

-- What every call keeps, whatever comes of it: names stay, counts of faults don't fall, connections only go on, where one breaks a fault
-- was counted, and what was written stays.
pub record Keeps (old new : Outside) : Type 0 where
  pub names : names_of new.files ≡ names_of old.files
  pub shelf_faults : old.shelf_faults ≤ new.shelf_faults
  pub later : GoesOn old.links new.links
  pub broke : BreaksByFault old.link_faults new.link_faults old.standings new.standings
  pub grows : Grows old.written new.written
  pub sink_faults : old.sink_faults ≤ new.sink_faults
