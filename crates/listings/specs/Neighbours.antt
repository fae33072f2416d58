-- The text that lists the ASes beside an AS: what the two attest of each other, and how many routes went between them.
use Rattle.std.specs.Prelude.{◌≡◌, ◌↔◌, ℕ, zero, suc, nat_eq, ◌+◌, ◌-◌, Bool, true, false, ◌||◌, ◌&&◌, List, length, map, slice_index}
use Rattle.std.specs.FinMap as fin
use Rattle.std.specs.List.{count_by}
use Rattle.std.specs.List.Sorted.{IsStrictlySortedBy}
use Rattle.std.specs.Ordering.{nat_cmp}
use Rattle.std.specs.declared.option.Option.TheVariants.{Some}
use Rattle.attestations.specs.CurrentTable.{IsCurrentTable}
use Rattle.hop_index.specs.Hops.{AreNeighbours}
use Rattle.path_model.specs.declared.key.Key.{Key}
use Rattle.path_model.specs.Authority.{Table, authority_of, has}
use Rattle.path_model.specs.Routes.{Routes}
use Rattle.path_model.specs.Trail.{Path}
use Rattle.report_text.specs.declared.neighbour.Neighbour.{Neighbour}
use Rattle.report_text.specs.Neighbours.{neighbour_text}
use Rattle.rib_store.specs.State.{State}

-- whether x stands at this place of the chain and y right behind it, on the neighbour's side,
abbrev pub goes_at : List ℕ → ℕ → ℕ → ℕ → Bool
goes_at chain place x y = nat_eq x (slice_index chain place) && nat_eq y (slice_index chain (place + 1))

-- at one of the first so many,
abbrev pub goes_within : ℕ → List ℕ → ℕ → ℕ → Bool
goes_within zero chain x y = false
goes_within (suc places) chain x y = goes_within places chain x y || goes_at chain places x y

-- and at any: then the route went from x to y
abbrev pub goes : List ℕ → ℕ → ℕ → Bool
goes chain x y = goes_within (length chain - 1) chain x y

-- how many routes went from x to y, each once
abbrev pub routes_over : Routes → ℕ → ℕ → ℕ
routes_over routes x y = count_by (λ (route : Key × Path). goes route.1.chain x y) (fin.entries routes)

-- the two stand beside each other on some route's path
pub record AreBeside (routes : Routes) (x y : ℕ) : Type 0 where
  pub key : Key
  pub path : Path
  pub route : fin.get routes key ≡ Some path
  pub neighbours : AreNeighbours path.chain x y

-- what is said of an AS and one beside it
abbrev pub neighbour_of : Table → Routes → ℕ → ℕ → Neighbour
neighbour_of table routes asn other = record {
  asn = asn;
  neighbour = other;
  climb = authority_of table asn other;
  descend = authority_of table other asn;
  to = routes_over routes asn other;
  from = routes_over routes other asn;
}

-- By the current table, so of each AS that stands beside it, rising.
pub record AreNeighboursOf (state : State) (asn : ℕ) (rows : List Neighbour) : Type 0 where
  pub table : Table
  pub current : IsCurrentTable state.parts table
  pub ases : List ℕ
  pub rising : IsStrictlySortedBy nat_cmp ases
  pub exact : (other : ℕ) → (has ases other ≡ true) ↔ AreBeside state.routes asn other
  pub rows_are : rows ≡ map (neighbour_of table state.routes asn) ases

-- the line of one
abbrev pub neighbour_row : Neighbour → List ℕ
neighbour_row = neighbour_text
