-- What an AS's silence counts as. Private contracts alone cite it.
use Rattle.std.specs.Prelude.{◌≡◌, ◌≢◌}
use Rattle.path_model.specs.declared.authority.Authority.{Authority}
use Rattle.path_model.specs.declared.authority.Authority.TheVariants.{Refuses, Provides}
use Rattle.witness_checker.specs.declared.silence.Silence.{Silence}
use Rattle.witness_checker.specs.declared.silence.Silence.TheVariants.{Nothing, Consent}

-- a hop of which this is said climbs, or descends
abbrev pub GoesOn : Silence → Authority → Type 0
GoesOn Nothing authority = authority ≡ Provides
GoesOn Consent authority = authority ≢ Refuses

-- it doesn't
abbrev pub Stops : Silence → Authority → Type 0
Stops Nothing authority = authority ≢ Provides
Stops Consent authority = authority ≡ Refuses
