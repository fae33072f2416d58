-- What links in memory keep, as values: only private contracts cite this.
use Rattle.std.specs.Prelude.{◌≡◌, ℕ, ◌+◌, List, ◌++◌, Some, IfSome, Vec, take, drop, map, slice_get}
use Rattle.std.specs.Option.{option_map}
use Rattle.std.specs.String.{string_bytes}
use Rattle.std.specs.declared.option.Option.{Option}
use Rattle.av_base.specs.declared.kept_attempt.KeptAttempt.{KeptAttempt}
use Rattle.av_base.specs.declared.kept_attempt.KeptAttempt.TheVariants.{Made as KeptMade, Failed as KeptFailed, Unaccepted as KeptUnaccepted}
use Rattle.av_base.specs.declared.kept_attempt.KeptComing.{KeptComing}
use Rattle.av_base.specs.Connections.{Attempt, Link, Made, Failed, Unaccepted}
use Rattle.av_base.specs.LinksInMemory.{Coming, Waiting, next_at, after_next}
use Rattle.av_base.specs.declared.plan.PlanStep.{PlanStep}

abbrev pub attempt_of : KeptAttempt → Attempt
attempt_of (KeptMade link) = Made link
attempt_of (KeptFailed place) = Failed (string_bytes place)
attempt_of (KeptUnaccepted place) = Unaccepted (string_bytes place)

abbrev pub coming_of : KeptComing → Coming
coming_of coming = record { place = string_bytes coming.place; bytes = coming.bytes.items }

abbrev pub attempts_of : {A : Type 0} → Option (Vec KeptAttempt A) → Option (List Attempt)
attempts_of kept = option_map (λ list. map attempt_of list.items) kept

-- what waits, with what a connection that is made of it changes
abbrev pub waiting_of : List KeptComing → List Link → Option (List Attempt) → List PlanStep → Waiting
waiting_of waiting links attempts plan = record { waiting = map coming_of waiting; links = links; attempts = attempts; plan = plan }

-- at this place stands what the next connection to a place will receive
abbrev pub IsNextAt : List KeptComing → List ℕ → ℕ → Type 0
IsNextAt coming place i = IfSome (slice_get coming i) (λ c. (next_at (map coming_of coming) place ≡ Some c.bytes.items) × (string_bytes c.place ≡ place))

-- without it, all others are left
abbrev pub LeavesOthers : List KeptComing → List ℕ → ℕ → Type 0
LeavesOthers coming place i = after_next (map coming_of coming) place ≡ map coming_of (take i coming ++ drop (i + 1) coming)
