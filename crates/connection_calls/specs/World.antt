-- What becomes of the attempts and the connections until a run ends.
use Rattle.std.specs.Prelude.{◌≡◌, ℕ, ◌≤◌, List, ◌++◌, length, slice_get, IfSome}
use Rattle.std.specs.List.{All}
use Rattle.std.specs.declared.option.Option.{Option}
use Rattle.std.specs.declared.option.Option.TheVariants.{Some}
use Rattle.av_base.specs.Connections.{Attempt, Failed, Link, Made, ToldLater, Unaccepted}

-- The outside as it stands when the run ends: its attempts to connect and to accept, unless they were cut, and its connections.
pub record World : Type 0 where
  pub attempts : Option (List Attempt)
  pub links : List Link

-- what a connection is in the end
pub record InEnd (world : World) (link : ℕ) (is : Link → Type 0) : Type 0 where
  pub t : Link
  pub there : slice_get world.links link ≡ Some t
  pub so : is t

-- the attempt with this number, where the attempts are told
abbrev pub IsAttempt : World → ℕ → Attempt → Type 0
IsAttempt world number attempt = IfSome world.attempts (λ all. slice_get all number ≡ Some attempt)

-- the connection that an attempt made has a number from so many on
abbrev pub IsMadeFrom : ℕ → Attempt → Type 0
IsMadeFrom count (Made link) = count ≤ link
IsMadeFrom count (Failed place) = Unit {0}
IsMadeFrom count (Unaccepted place) = Unit {0}

-- Attempts were added behind those that were made, where they are told. The connections that these made are none of those before, where
-- these are told.
pub record AddsAttempts (wire : Option (List Link)) (old new : Option (List Attempt)) : Type 0 where
  pub added : (after : List Attempt) → new ≡ Some after → (before : List Attempt) × (more : List Attempt) × (old ≡ Some before) × (after ≡ before ++ more)
      × ((links : List Link) → wire ≡ Some links → All (IsMadeFrom (length links)) more)

-- the attempts and connections that are told came to this
pub record ComesTo (attempts : Option (List Attempt)) (wire : Option (List Link)) (world : World) : Type 0 where
  pub adds : AddsAttempts wire attempts world.attempts
  pub goes_on : ToldLater wire (Some world.links)
