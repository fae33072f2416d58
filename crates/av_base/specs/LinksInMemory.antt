-- Links in memory, as a contract sees them.
use Rattle.std.specs.Prelude.{◌≡◌, ◌⊎◌, ℕ, ◌-◌, ◌^◌, ◌<◌, min, length, take, drop, map, List, [], ◌∷◌, ◌++◌, None, Some, IfSome, if◌then◌else◌}
use Rattle.std.specs.Option.{option_map}
use Rattle.std.specs.Str.{bytes_eq}
use Rattle.std.specs.declared.option.Option.{Option}
use Rattle.av_base.specs.declared.plan.PlanStep.{PlanStep}
use Rattle.av_base.specs.declared.standing.Standing.{Standing}
use Rattle.av_base.specs.Connections.{Link, Attempt, Made, connects, standing_of, to_come_of}
use Rattle.av_base.specs.Plan.{moved_by}

-- bytes that a connection to a place will receive
pub record Coming : Type 0 where
  pub place : List ℕ
  pub bytes : List ℕ

-- the connections, what later ones that are made will receive and what those that are accepted will, the attempts unless they are cut, the steps of the plan that are left, and the faults counted
pub record LinksInMemory : Type 0 where
  pub links : List Link
  pub coming : List Coming
  pub callers : List Coming
  pub attempts : Option (List Attempt)
  pub plan : List PlanStep
  pub faults : ℕ

-- what the next connection to a place will receive, where something is left for it: the first that was put there
abbrev pub next_at : List Coming → List ℕ → Option (List ℕ)
next_at [] place = None
next_at (first ∷ more) place = if bytes_eq first.place place then Some first.bytes else next_at more place

-- all but that
abbrev pub after_next : List Coming → List ℕ → List Coming
after_next [] place = []
after_next (first ∷ more) place = if bytes_eq first.place place then more else first ∷ after_next more place

-- nothing was put and no attempt made
abbrev pub nothing_made : List PlanStep → LinksInMemory
nothing_made plan = record { links = []; coming = []; callers = []; attempts = Some []; plan = plan; faults = 0 }

-- the next connection to a place behind those that are coming will receive these bytes
abbrev pub puts : List ℕ → List ℕ → LinksInMemory → LinksInMemory
puts place bytes old = record old { coming = old.coming ++ record { place = place; bytes = bytes } ∷ [] }

-- the next caller at a place behind those that are waiting brings these bytes
abbrev pub calls : List ℕ → List ℕ → LinksInMemory → LinksInMemory
calls place bytes old = record old { callers = old.callers ++ record { place = place; bytes = bytes } ∷ [] }

-- so many bytes that were to come were received
abbrev pub moves_on : ℕ → Link → Link
moves_on count t = record t { received = t.received ++ take count t.to_come; to_come = drop count t.to_come }

-- how connections stand
abbrev pub standings_of : List Link → List Standing
standings_of links = map standing_of links

-- a receive moves what the plan's next step says of what is to come and fits
abbrev pub ReceivesByPlan : LinksInMemory → ℕ → ℕ → Option ℕ → Type 0
ReceivesByPlan old link room moved = IfSome (to_come_of (Some old.links) link) (λ left. moved ≡ moved_by old.plan (min (length left) room))

-- one attempt more, unless they are cut
abbrev pub listed : Option (List Attempt) → Attempt → Option (List Attempt)
listed attempts attempt = option_map (λ before. before ++ attempt ∷ []) attempts

-- what becomes a connection: bytes that wait at their places, with the connections, the attempts and the plan
pub record Waiting : Type 0 where
  pub waiting : List Coming
  pub links : List Link
  pub attempts : Option (List Attempt)
  pub plan : List PlanStep

-- a connection was made of it: the plan let it, something was waiting at the place, and there was a number for it
pub record MakesNext (old new : Waiting) (place : List ℕ) (link : ℕ) : Type 0 where
  pub bytes : List ℕ
  pub next : next_at old.waiting place ≡ Some bytes
  pub planned : moved_by old.plan 0 ≡ Some 0
  pub number : link ≡ length old.links
  pub room : length old.links < 2 ^ 32 - 1
  pub links : new.links ≡ connects place bytes old.links
  pub rest : new.waiting ≡ after_next old.waiting place
  pub attempts : new.attempts ≡ listed old.attempts (Made link)

-- what waits for connections that are made, and the callers that wait
abbrev pub awaiting_connect : LinksInMemory → Waiting
awaiting_connect s = record { waiting = s.coming; links = s.links; attempts = s.attempts; plan = s.plan }

abbrev pub awaiting_accept : LinksInMemory → Waiting
awaiting_accept s = record { waiting = s.callers; links = s.links; attempts = s.attempts; plan = s.plan }

-- a connection was made
pub record Makes (old new : LinksInMemory) (place : List ℕ) (link : ℕ) : Type 0 where
  pub made : MakesNext (awaiting_connect old) (awaiting_connect new) place link
  pub callers : new.callers ≡ old.callers

-- a caller was accepted
pub record Accepts (old new : LinksInMemory) (place : List ℕ) (link : ℕ) : Type 0 where
  pub made : MakesNext (awaiting_accept old) (awaiting_accept new) place link
  pub coming : new.coming ≡ old.coming

-- nothing but the plan and the count of faults changed
pub record Keeps (old new : LinksInMemory) : Type 0 where
  pub links : new.links ≡ old.links
  pub coming : new.coming ≡ old.coming
  pub callers : new.callers ≡ old.callers
  pub attempts : new.attempts ≡ old.attempts

-- the attempt that failed is listed, or the attempts are cut
abbrev pub ListsFailed : Option (List Attempt) → Option (List Attempt) → Attempt → Type 0
ListsFailed old new attempt = (new ≡ None) ⊎ (new ≡ listed old attempt)

-- what is coming and the attempts stayed, and the plan is one step further
pub record SameElse (old new : LinksInMemory) : Type 0 where
  pub coming : new.coming ≡ old.coming
  pub callers : new.callers ≡ old.callers
  pub attempts : new.attempts ≡ old.attempts
  pub plan : new.plan ≡ drop 1 old.plan
