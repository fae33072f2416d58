-- Laws of the rows and of changes, each the contract of a public function of the module `laws`.
use Rattle.std.specs.Prelude.{ℕ, Bool, List}
use Rattle.av_base.specs.One.{HasOne}
use Rattle.path_model.specs.Routes.{Routes}
use Rattle.origin_model.specs.Current.{Parts}
use Rattle.origin_model.specs.Vrp.{Payload}
use Rattle.origin_validation.specs.Records.{PatchesSource}
use Rattle.origin_validation.specs.Rows.{AreOriginRows}

-- the routes have exactly one list of rows with their states
abbrev pub RoutesHaveOneListOfStates : Type 0
RoutesHaveOneListOfStates = (routes : Routes) (parts : Parts) → HasOne (AreOriginRows routes parts)

-- changes of a source's payloads have exactly one result
abbrev pub EachPatchHasOneResult : Type 0
EachPatchHasOneResult = (before : Parts) (name : List ℕ) (changes : List (Payload × Bool)) → HasOne (PatchesSource before name changes)
