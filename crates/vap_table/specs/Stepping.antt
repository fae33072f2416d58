-- Counted numbers, once a step is taken as often for each number as rows hold it; private contracts alone cite it.
use Rattle.std.specs.Prelude.{◌≡◌, ℕ, nat_eq, ◌+◌, ◌-◌, ◌<◌, Bool, true, ◌&&◌, List, [], ◌∷◌, ◌++◌, map, count_by, replicate, All, IfSome, option_to_list, if◌then◌else◌}
use Rattle.std.specs.declared.option.Option.{Option}
use Rattle.std.specs.declared.option.Option.TheVariants.{Some, None}
use Rattle.std.specs.Ordering.{nat_cmp}
use Rattle.std.specs.List.Sorted.{IsStrictlySortedBy}
use Rattle.path_model.specs.Authority.{has}
use Rattle.vap_table.specs.declared.tally.Given.{Given}
use Rattle.vap_table.specs.declared.tally.Tally.{Tally}
use Rattle.vap_table.specs.declared.stepping.Step.{Step}
use Rattle.vap_table.specs.declared.stepping.Step.TheVariants.{SourceMore, SourceLess, AssertionMore, AssertionLess}
use Rattle.vap_table.specs.Tally.{counted}

-- the numbers that are counted
abbrev pub numbers_of : List Given → List ℕ
numbers_of given = map (λ g. g.provider) given

abbrev pub pair_of : Given → ℕ × ℕ
pair_of one = (one.sources, one.assertions)

abbrev pub one : Bool → ℕ
one b = if b then 1 else 0

-- how often a number is in the list
abbrev pub times : List ℕ → ℕ → ℕ
times numbers y = count_by (λ n. nat_eq n y) numbers

-- the counts of a number after so many steps
abbrev pub stepped : Step → ℕ → Given → Given
stepped SourceMore n one = record one { sources = one.sources + n }
stepped SourceLess n one = record one { sources = one.sources - n }
stepped AssertionMore n one = record one { assertions = one.assertions + n }
stepped AssertionLess n one = record one { assertions = one.assertions - n }

-- the same of the two counts alone
abbrev pub stepped_pair : Step → ℕ → ℕ × ℕ → ℕ × ℕ
stepped_pair SourceMore n pair = (pair.0 + n, pair.1)
stepped_pair SourceLess n pair = (pair.0 - n, pair.1)
stepped_pair AssertionMore n pair = (pair.0, pair.1 + n)
stepped_pair AssertionLess n pair = (pair.0, pair.1 - n)

-- a number is listed where something holds it
abbrev pub listed : Given → List Given
listed one = if nat_eq one.sources 0 && nat_eq one.assertions 0 then [] else one ∷ []

-- the counts once the step is taken so many times for each number
pub record AreStepped (step : Step) (given : List Given) (often : ℕ → ℕ) (new : List Given) : Type 0 where
  pub rising : IsStrictlySortedBy nat_cmp (numbers_of new)
  pub held : All (λ g. 0 < g.sources + g.assertions) new
  pub each : (y : ℕ) → counted new y ≡ stepped_pair step (often y) (counted given y)

-- what is left of a list behind the first items, each of which is this number, and the next one isn't
pub record IsBehind (number : ℕ) (list rest : List ℕ) : Type 0 where
  pub often : ℕ
  pub whole : list ≡ replicate often number ++ rest
  pub other : (more : List ℕ) → rest ≡ number ∷ more → ⊥

-- a number that nothing holds
abbrev pub uncounted : ℕ → Given
uncounted number = record { provider = number; sources = 0; assertions = 0 }

-- the counts below a number, that of the number, if something holds it, and those above it
pub record ArePartedAt (counts : List Given) (number : ℕ) (below : List Given) (one : Option Given) (above : List Given) : Type 0 where
  pub whole : counts ≡ below ++ (option_to_list one ++ above)
  pub of_it : IfSome one (λ g. g.provider ≡ number)
  pub before : (y : ℕ) → has (numbers_of below) y ≡ true → y < number
  pub behind : (y : ℕ) → has (numbers_of above) y ≡ true → number < y

-- ---- tallies

-- how many rows of each kind there are
abbrev pub rows_in : Option Tally → ℕ × ℕ
rows_in None = (0, 0)
rows_in (Some tally) = (tally.sources, tally.assertions)

-- what is counted
abbrev pub given_in : Option Tally → List Given
given_in None = []
given_in (Some tally) = tally.given

-- the tally of so many rows; none, where there are none
abbrev pub tally_made : ℕ × ℕ → List Given → Option Tally
tally_made rows given = if nat_eq rows.0 0 && nat_eq rows.1 0 then None else Some (record { sources = rows.0; assertions = rows.1; given = given })

-- the tally once the step is taken so many times for each number, and so many times for the number of rows
pub record AreStepsTaken (step : Step) (rows : ℕ) (often : ℕ → ℕ) (before after : Option Tally) : Type 0 where
  pub given : List Given
  pub stepped : AreStepped step (given_in before) often given
  pub whole : after ≡ tally_made (stepped_pair step rows (rows_in before)) given

-- the same for the numbers of one row, which counts as a row if it is another one
abbrev pub IsTallyStepped : Step → Bool → List ℕ → Option Tally → Option Tally → Type 0
IsTallyStepped step is_other row before after = AreStepsTaken step (one is_other) (λ y. one (has row y)) before after
