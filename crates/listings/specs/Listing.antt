-- Listings: what each step adds, and what comes of all.
use Rattle.std.specs.Prelude.{◌≡◌, ℕ, ◌<◌, ◌≤◌, Bool, true, false, List, [], ◌∷◌, ◌++◌, length, flat_map, OnOk, IsErrOf}
use Rattle.std.specs.Io.KnownBytes.{append_known}
use Rattle.std.specs.declared.option.Option.{Option}
use Rattle.std.specs.declared.result.Result.{Result}
use Rattle.av_base.specs.declared.sink.Sink.{Ghosts as SinkOf}
use Rattle.av_base.specs.Told.{AppendsFront, Grows, Rose}
use Rattle.av_base.specs.declared.stop.Stop.{Stop}
use Rattle.av_base.specs.declared.stop.Stop.TheVariants.{Shelf, Sink}

-- the first of what is left was added
pub record Adds (left more : List (List ℕ)) (text_old text_new : List ℕ) : Type 0 where
  pub piece : List ℕ
  pub first : left ≡ piece ∷ more
  pub added : text_new ≡ text_old ++ piece

-- it was, or nothing is left
abbrev pub Steps : Bool → List (List ℕ) → List (List ℕ) → List ℕ → List ℕ → Type 0
Steps true left more text_old text_new = Adds left more text_old text_new
Steps false left more text_old text_new = (left ≡ []) × (text_new ≡ text_old)

-- what was written, where the sink tells it, the faults that it counted, and what is held
pub record Pouring : Type 0 where
  pub written : Option (List ℕ)
  pub faults : ℕ
  pub held : List ℕ

abbrev pub pouring : {W : Type 0} → SinkOf W → W → List ℕ → Pouring
pouring W out held = record { written = W.written out; faults = W.faults out; held = held }

-- what was written, and behind it what is held
abbrev pub all_of : Pouring → Option (List ℕ)
all_of now = append_known now.written now.held

-- This text was added, or a front of it where that ended early.
pub record Listed {T : Type 0} (text : List ℕ) (old new : Pouring) (result : Result T Stop) : Type 0 where
  pub whole : OnOk result (all_of new ≡ append_known (all_of old) text)
  pub front : AppendsFront (all_of old) (all_of new) text
  pub held : IsErrOf result Sink → 0 < length new.held
  pub sink_cause : IsErrOf result Sink → Rose old.faults new.faults
  pub sink_faults : old.faults ≤ new.faults
  pub grows : Grows old.written new.written
  pub no_shelf : IsErrOf result Shelf → ⊥

-- The lines of some rows were, which are as they are to be.
pub record Lists {Row T : Type 0} (Are : List Row → Type 0) (line_of : Row → List ℕ) (old new : Pouring) (result : Result T Stop) : Type 0 where
  pub rows : List Row
  pub are : Are rows
  pub listed : Listed (flat_map line_of rows) old new result
