-- Laws of the definitions, each the contract of a public function of the module `laws`.
use Rattle.std.specs.Prelude.{◌≡◌, ℕ, List}
use Rattle.std.specs.declared.option.Option.TheVariants.{Some}
use Rattle.av_base.specs.Connections.{Attempt, Link}
use Rattle.av_base.specs.declared.standing.Break.{Break}
use Rattle.rtr_cache.specs.Cache.{Versions}
use Rattle.connection_calls.specs.World.{World}
use Rattle.rtr_server.specs.declared.outcome.Outcome.{Outcome}
use Rattle.rtr_server.specs.declared.routers.Served.{Served}
use Rattle.rtr_server.specs.Routers.{Asking, ServesLine}
use Rattle.rtr_server.specs.declared.outcome.RouterEnd.TheVariants.{Lost}
use Rattle.rtr_server.specs.Serving.{Serves, Serving}

-- a router is reported as lost exactly where its connection is broken
pub record LostAsBroken (t : Link) (out : Outcome) : Type 0 where
  pub broke : out.end ≡ Some Lost → (call : Break) × (t.broken ≡ Some call)
  pub lost : (call : Break) → t.broken ≡ Some call → out.end ≡ Some Lost

abbrev pub LostRoutersBroke : Type 0
LostRoutersBroke = (t : Link) (cache : Versions) (count : ℕ) (old : Serving) (out : Outcome) → Serves t cache count old out → LostAsBroken t out

-- on the same connection, from the same cache, a router has no two outcomes
abbrev pub RoutersHaveOneOutcome : Type 0
RoutersHaveOneOutcome = (t : Link) (cache : Versions) (count : ℕ) (old : Serving) (one other : Outcome) → Serves t cache count old one → Serves t cache count old other → one ≡ other

-- in a world whose attempts are told a line counts no two things, and has no two texts
abbrev pub ServeLinesHaveOneOutcome : Type 0
ServeLinesHaveOneOutcome =
    (world : World) (attempts : List Attempt) → world.attempts ≡ Some attempts → (cache : Versions) (asking : Asking) (one two : Served) (text other : List ℕ)
    → ServesLine world cache asking one text → ServesLine world cache asking two other → (one ≡ two) × (text ≡ other)
