-- What one line of a script does as a cache: it serves routers at a place, one after another.
use Rattle.std.specs.Prelude.{◌≡◌, ℕ, ◌+◌, ◌<◌, ◌≤◌, Bool, true, false, List, length, slice_get}
use Rattle.std.specs.Io.KnownBytes.{append_known}
use Rattle.std.specs.declared.option.Option.{Option}
use Rattle.std.specs.declared.option.Option.TheVariants.{Some}
use Rattle.av_base.specs.Connections.{Attempt, Link, Made, Unaccepted}
use Rattle.rtr_cache.specs.Cache.{Versions}
use Rattle.connection_calls.specs.Connection.{IsOpenWith, Now}
use Rattle.connection_calls.specs.World.{ComesTo, InEnd, IsAttempt, World}
use Rattle.rtr_server.specs.declared.outcome.Outcome.{Outcome}
use Rattle.rtr_server.specs.declared.routers.Served.{Served}
use Rattle.rtr_server.specs.Outcomes.{Reports, outcomes_text, reached_lines}
use Rattle.rtr_server.specs.Serving.{Serves, ServesFirst, Serving, started}

-- The line: its number in the script, the place, how many routers it serves, and how many attempts to connect and to accept were made
-- before it.
pub record Asking : Type 0 where
  pub line : ℕ
  pub place : List ℕ
  pub count : ℕ
  pub made : ℕ

-- ---- what came of the attempts

-- the attempt with this number accepted a router at the place, and this came of it
pub record IsServed (world : World) (cache : Versions) (place : List ℕ) (number : ℕ) (out : Outcome) : Type 0 where
  pub link : ℕ
  pub accepted : IsAttempt world number (Made link)
  pub serves : InEnd world link (λ t. (t.place ≡ place) × Serves t cache 65536 started out)

-- this came of the routers, each accepted by one attempt, in their order
abbrev pub AreServed : World → Versions → List ℕ → ℕ → List Outcome → Type 0
AreServed world cache place made outcomes =
    (k : ℕ) (out : Outcome) → slice_get outcomes k ≡ Some out → IsServed world cache place (made + k) out

-- behind so many routers none is left to serve, or the next attempt failed
abbrev pub EndsBehind : World → Asking → ℕ → Bool → Type 0
EndsBehind world asking done true = done ≡ asking.count
EndsBehind world asking done false = (done < asking.count) × IsAttempt world (asking.made + done) (Unaccepted asking.place)

-- routers are served until there were as many as were asked for, or an attempt failed
pub record ServesRouters (world : World) (cache : Versions) (asking : Asking) (outcomes : List Outcome) (reached : Bool) : Type 0 where
  pub are : AreServed world cache asking.place asking.made outcomes
  pub ends : EndsBehind world asking (length outcomes) reached

-- what came of them is reported and counted
pub record ServesLine (world : World) (cache : Versions) (asking : Asking) (served : Served) (text : List ℕ) : Type 0 where
  pub outcomes : List Outcome
  pub serves : ServesRouters world cache asking outcomes served.reached
  pub reports : Reports asking.line outcomes served text

-- the attempts that a line made
abbrev pub attempts_in : Served → ℕ
attempts_in served = served.accepted + reached_lines served.reached

-- ---- a line that ended early

-- What the last attempt came to, if one more was made: a router that was answered so far, one that was served, or none. None of it is
-- reported.
pub data Begun : Type 0 where
  NoneMore : Begun
  Halts : (link : ℕ) (state : Serving) → Begun
  Unreported : (out : Outcome) → Begun
  Unreached : Begun

-- at most 65,536 first PDUs of the router were answered
pub record AnswersFirst (t : Link) (cache : Versions) (place : List ℕ) (state : Serving) : Type 0 where
  pub there : t.place ≡ place
  pub count : ℕ
  pub few : count ≤ 65536
  pub first : ServesFirst t cache count started state

abbrev pub HasBegun : World → Versions → List ℕ → ℕ → Begun → Type 0
HasBegun world cache place number NoneMore = Unit {0}
HasBegun world cache place number (Halts link state) =
    IsAttempt world number (Made link) × InEnd world link (λ t. AnswersFirst t cache place state)
HasBegun world cache place number (Unreported out) = IsServed world cache place number out
HasBegun world cache place number Unreached = IsAttempt world number (Unaccepted place)

-- some first routers were served and reported, and one more attempt may have been made
pub record ServesPart (world : World) (cache : Versions) (asking : Asking) (outcomes : List Outcome) (begun : Begun) : Type 0 where
  pub are : AreServed world cache asking.place asking.made outcomes
  pub few : length outcomes ≤ asking.count
  pub begins : HasBegun world cache asking.place (asking.made + length outcomes) begun

-- one attempt more, or none
abbrev pub attempts_begun : Begun → ℕ
attempts_begun NoneMore = 0
attempts_begun (Halts link state) = 1
attempts_begun (Unreported out) = 1
attempts_begun Unreached = 1

-- a router that is served still was sent this much, and its connection is neither closed nor broken
abbrev pub HasSentAll : Option (List Link) → Begun → Type 0
HasSentAll wire NoneMore = Unit {0}
HasSentAll wire (Halts link state) = Now wire link (IsOpenWith state.sent)
HasSentAll wire (Unreported out) = Unit {0}
HasSentAll wire Unreached = Unit {0}

-- ---- from the objects

-- as many attempts were made as this, where they are told
abbrev pub AreMade : Option (List Attempt) → ℕ → Type 0
AreMade attempts made = (now : List Attempt) → attempts ≡ Some now → made ≡ length now

-- A line was performed and a text was added, whatever the attempts and the connections come to. `all` is what was written and then what is
-- held.
pub record ServedAs (attempts_old attempts_new : Option (List Attempt)) (wire : Option (List Link)) (cache : Versions) (line : ℕ) (place : List ℕ) (count : ℕ)
    (served : Served) (all_old all_new : Option (List ℕ)) : Type 0 where
  pub outcomes : List Outcome
  pub text : List ℕ
  pub added : all_new ≡ append_known all_old text
  pub reports : Reports line outcomes served text
  pub made : (before : ℕ) → AreMade attempts_old before → AreMade attempts_new (before + attempts_in served)
  pub serves : (before : ℕ) → AreMade attempts_old before → (world : World) → ComesTo attempts_new wire world
      → ServesRouters world cache (record { line = line; place = place; count = count; made = before }) outcomes served.reached

-- the same of one that ended early
pub record HaltedAs (attempts_old attempts_new : Option (List Attempt)) (wire : Option (List Link)) (cache : Versions) (line : ℕ) (place : List ℕ) (count : ℕ)
    (all_old all_new : Option (List ℕ)) : Type 0 where
  pub outcomes : List Outcome
  pub begun : Begun
  pub added : all_new ≡ append_known all_old (outcomes_text line outcomes)
  pub made : (before : ℕ) → AreMade attempts_old before → AreMade attempts_new (before + length outcomes + attempts_begun begun)
  pub sent : HasSentAll wire begun
  pub serves : (before : ℕ) → AreMade attempts_old before → (world : World) → ComesTo attempts_new wire world
      → ServesPart world cache (record { line = line; place = place; count = count; made = before }) outcomes begun
