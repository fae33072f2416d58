-- The line that reports the state of a route's origin.
use Rattle.std.specs.Prelude.{ℕ, List, [], ◌∷◌, ◌++◌, codes}
use Rattle.path_model.specs.declared.key.Key.{Key}
use Rattle.origin_model.specs.declared.origin_state.OriginState.{OriginState}
use Rattle.origin_model.specs.declared.origin_state.OriginState.TheVariants.{Valid, Invalid, NotFound}
use Rattle.report_text.specs.Keys.{key_text}

-- the one spelling of a state (RFC 6811, section 2)
abbrev pub state_text : OriginState → List ℕ
state_text Valid = codes "valid"
state_text Invalid = codes "invalid"
state_text NotFound = codes "not-found"

-- the route's key, and the state of its origin, with one space between them, without the line feed
abbrev pub origin_line : Key → OriginState → List ℕ
origin_line key state = key_text key ++ 32 ∷ state_text state

-- and with it
abbrev pub origin_text : Key → OriginState → List ℕ
origin_text key state = origin_line key state ++ 10 ∷ []
