-- How the routes between an AS and those beside it are counted, case by case; private contracts alone cite it.
use Rattle.std.specs.Prelude.{ℕ, nat_lt, ◌+◌, Bool, ◌||◌, List, if◌then◌else◌}
use Rattle.std.specs.BTreeMap.{is_at}
use Rattle.std.specs.Map.{lookup}
use Rattle.std.specs.Ordering.{nat_cmp}
use Rattle.std.specs.declared.option.Option.{Option}
use Rattle.std.specs.declared.option.Option.TheVariants.{Some, None}
use Rattle.path_model.specs.Authority.{Table, authority_of}
use Rattle.report_text.specs.declared.neighbour.Neighbour.{Neighbour}
use Rattle.shared_cases.specs.declared.case.StoredCase.{StoredCase}
use Rattle.listings.specs.declared.went.Count.{Count}
use Rattle.listings.specs.declared.went.Went.{Went}
use Rattle.listings.specs.Neighbours.{goes}

-- how many routes of a case went so
abbrev pub users_by : (List ℕ → Bool) → Option StoredCase → ℕ
users_by way None = 0
users_by way (Some c) = if way c.trail.chain then c.users else 0

-- nothing is counted
abbrev pub uncounted : Went
uncounted = record { to = record { routes = 0; next = 0 }; from = record { routes = 0; next = 0 } }

-- what is counted at an AS, if something is
abbrev pub went_at : List (ℕ × Went) → ℕ → Option Went
went_at rows y = lookup (is_at (nat_cmp y)) rows

-- and nothing else
abbrev pub went_or : Option Went → Went
went_or None = uncounted
went_or (Some went) = went

-- with the routes of a case, where they aren't counted yet
abbrev pub with_case : ℕ → ℕ → Count → Count
with_case number users count = if nat_lt number count.next then count else record { routes = count.routes + users; next = number + 1 }

-- with them to the AS, and from it, if they went so
abbrev pub with_ways : Bool → Bool → ℕ → ℕ → Went → Went
with_ways to from number users went = record {
  to = if to then with_case number users went.to else went.to;
  from = if from then with_case number users went.from else went.from;
}

-- what is counted at an AS then
abbrev pub counted : Bool → Bool → ℕ → ℕ → Option Went → Option Went
counted to from number users went = if to || from then Some (with_ways to from number users (went_or went)) else went

-- and with a case, by the ways in which it went between the two ASes
abbrev pub counted_by : ℕ → ℕ → ℕ → Option StoredCase → Option Went → Option Went
counted_by asn y number None went = went
counted_by asn y number (Some c) went = counted (goes c.trail.chain asn y) (goes c.trail.chain y asn) number c.users went

-- the row of an AS at which so many are counted
abbrev pub row_of : Table → ℕ → ℕ × Went → Neighbour
row_of table asn row = record {
  asn = asn;
  neighbour = row.0;
  climb = authority_of table asn row.0;
  descend = authority_of table row.0 asn;
  to = row.1.to.routes;
  from = row.1.from.routes;
}
