-- Rows of sources that are counted in place of others; private contracts alone cite it.
use Rattle.std.specs.Prelude.{◌≡◌, ℕ, ◌+◌, Bool, false, not, ◌&&◌, List, [], ◌∷◌, length, map, if◌then◌else◌}
use Rattle.std.specs.declared.option.Option.{Option}
use Rattle.std.specs.declared.option.Option.TheVariants.{Some, None}
use Rattle.std.specs.List.{filter}
use Rattle.attestations.specs.declared.term.Term.{Term}
use Rattle.attestations.specs.Terms.{is_alive}
use Rattle.vap_table.specs.declared.tally.Tally.{Tally}
use Rattle.vap_table.specs.Stepping.{times}
use Rattle.vap_table.specs.Tally.{holding, IsTallyOfRows}

-- there is a moment at which an attestation with this end is alive
abbrev pub is_counted : Option ℕ → Option ℕ → Bool
is_counted None until = false
is_counted (Some moment) until = is_alive moment until

-- the rows of those that are
abbrev pub rows_at : Option ℕ → List Term → List (List ℕ)
rows_at moment terms = map {B = List ℕ} (λ t. t.providers) (filter (λ t. is_counted moment t.until) terms)

-- the rows of those that are counted at the one moment and not at the other one
abbrev pub rows_left : Option ℕ → Option ℕ → List Term → List (List ℕ)
rows_left from to terms = map {B = List ℕ} (λ t. t.providers) (filter (λ t. is_counted from t.until && not (is_counted to t.until)) terms)

abbrev pub row_if : Bool → List ℕ → List (List ℕ)
row_if b row = if b then row ∷ [] else []

-- these rows more are there, wherever among them
pub record AreGrown (more rows grown : List (List ℕ)) : Type 0 where
  pub number : length grown ≡ length more + length rows
  pub held : (y : ℕ) → holding y grown ≡ holding y more + holding y rows

-- so many rows these are, and so often each number of the list is held by one of them
pub record AreGathered (rows : List (List ℕ)) (number : ℕ) (numbers : List ℕ) : Type 0 where
  pub count : number ≡ length rows
  pub each : (y : ℕ) → times numbers y ≡ holding y rows

-- the same of these rows more
pub record AreGatheredToo (more : List (List ℕ)) (number : ℕ) (numbers : List ℕ) (number' : ℕ) (numbers' : List ℕ) : Type 0 where
  pub count : number' ≡ number + length more
  pub each : (y : ℕ) → times numbers' y ≡ times numbers y + holding y more

-- in place of some rows before there are others after
pub record AreTurned (gone come before after : List (List ℕ)) : Type 0 where
  pub rest : List (List ℕ)
  pub was : AreGrown gone rest before
  pub is : AreGrown come rest after

-- the next tally is the right one wherever these rows of sources come in place of those
abbrev pub IsTurned : List (List ℕ) → List (List ℕ) → Option Tally → Option Tally → Type 0
IsTurned gone come tally next = (before after other : List (List ℕ)) → AreTurned gone come before after
    → IsTallyOfRows before other tally → IsTallyOfRows after other next
