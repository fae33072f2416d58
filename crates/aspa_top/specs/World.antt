-- What a run meets outside.
use Rattle.std.specs.Prelude.{◌≡◌, ℕ, List, Some, length}
use Rattle.std.specs.Option.{option_map, unwrap_or}
use Rattle.std.specs.declared.option.Option.{Option}
use Rattle.av_base.specs.Connections.{Attempt, Link, ToldLater}
use Rattle.av_base.specs.Files.{Files}
use Rattle.connection_calls.specs.World.{AddsAttempts, ComesTo as Comes, World as Ends}
pub use Rattle.stream_lines.specs.Frames.{names_of}

-- The outside as a run's text depends on it: what each name holds, which stays while the run lasts; how many attempts to connect and to
-- accept were made before it; and the attempts and connections as they stand when it ends.
pub record World : Type 0 where
  pub named : List ℕ → Option (List ℕ)
  pub made : ℕ
  pub ends : Ends

-- the same outside, with other attempts and connections in the end
abbrev pub ending : World → Ends → World
ending world ends = record world { ends = ends }

-- a shelf that tells its files names what this world does
pub record Tells (files : Option Files) (world : World) : Type 0 where
  pub told : Files
  pub is : files ≡ Some told
  pub named : told.named ≡ world.named

-- what links tell at some moment: the attempts, and the connections
pub record Links : Type 0 where
  pub attempts : Option (List Attempt)
  pub wire : Option (List Link)

abbrev pub linked : Option (List Attempt) → Option (List Link) → Links
linked attempts wire = record { attempts = attempts; wire = wire }

-- attempts were added, which made connections behind those before, and all connections went on
pub record GoesOn (old new : Links) : Type 0 where
  pub attempts : AddsAttempts old.wire old.attempts new.attempts
  pub wire : ToldLater old.wire new.wire

-- how many attempts were made, where they are told
abbrev pub count_of : Option (List Attempt) → ℕ
count_of attempts = unwrap_or (option_map length attempts) 0

-- before the run so many attempts were made
abbrev pub BeginsAt : World → Links → Type 0
BeginsAt world links = (before : List Attempt) → links.attempts ≡ Some before → world.made ≡ length before

-- what the links told at a moment came to this in the end
abbrev pub ComesTo : Links → Ends → Type 0
ComesTo links ends = Comes links.attempts links.wire ends

-- the world of a shelf that tells these files, and of links that told these attempts first, and in the end these and these connections
abbrev pub world_of : Files → Option (List Attempt) → Option (List Attempt) → List Link → World
world_of files before attempts links = record {
  named = files.named;
  made = count_of before;
  ends = record { attempts = attempts; links = links };
}

-- Where a run ends: the shelf tells its files, so many attempts were made before, and the attempts and connections stand so.
pub record Meets (files : Option Files) (before after : Links) (world : World) : Type 0 where
  pub tells : Tells files world
  pub begins : BeginsAt world before
  pub attempts : after.attempts ≡ world.ends.attempts
  pub wire : after.wire ≡ Some world.ends.links
