-- The states that are held, one for each pair of a prefix and an origin: private contracts alone cite it.
use Rattle.std.specs.Prelude.{◌≡◌, ℕ, Bool, true, List, IfSome}
use Rattle.std.specs.BTreeMap.{is_at}
use Rattle.std.specs.Borrow.{Bor}
use Rattle.std.specs.List.{AllByRecursion}
use Rattle.std.specs.Map.{lookup}
use Rattle.std.specs.Ordering.{nat_cmp, ordering_then}
use Rattle.std.specs.declared.cmp.Ordering.{Ordering}
use Rattle.std.specs.declared.option.Option.{Option}
use Rattle.std.specs.declared.option.Option.TheVariants.{Some}
use Rattle.path_model.specs.Prefix.{Subnet, subnet_cmp}
use Rattle.origin_model.specs.declared.origin_state.OriginState.{OriginState}
use Rattle.origin_model.specs.declared.prefix_filter.PrefixFilter.{PrefixFilter}
use Rattle.origin_model.specs.Covering.{Covers}
use Rattle.origin_model.specs.Current.{Parts, IsCurrent}
use Rattle.origin_model.specs.OriginState.{HasState}
use Rattle.origin_model.specs.PrefixFilter.{Hits, IsHit}
use Rattle.origin_model.specs.Vrp.{Payload}
use Rattle.origin_model.specs.VrpChanges.{said}
use Rattle.origin_model.specs.VrpSet.{has}

-- a prefix and an AS that originates it, or 0 where none does
abbrev pub Pair : Type 0
Pair = Subnet × ℕ

abbrev pub pair_cmp : Pair → Pair → Ordering
pair_cmp a b = ordering_then (subnet_cmp a.0 b.0) (nat_cmp a.1 b.1)

abbrev pub Entries : Type 0
Entries = List (Pair × OriginState)

-- the state that is held of a pair
abbrev pub at : Entries → Pair → Option OriginState
at held p = lookup (is_at (pair_cmp p)) held

-- the state is the pair's
abbrev pub IsRight : Parts → Pair → OriginState → Type 0
IsRight parts p state = HasState (IsCurrent parts) p.0 (Some p.1) state

-- each state that is held is the pair's
pub record AreRight (parts : Parts) (held : Entries) : Type 0 where
  pub each : (p : Pair) (state : OriginState) → at held p ≡ Some state → IsRight parts p state

-- each of these states is its pair's
abbrev pub AreAllRight : Parts → Entries → Type 0
AreAllRight parts entries = AllByRecursion (λ e. IsRight parts e.0 e.1) entries

-- the state is its pair's, if there is one
abbrev pub IsRightBeside : Parts → Option (Bor Pair × Bor OriginState) → Type 0
IsRightBeside parts beside = IfSome beside (λ e. IsRight parts e.0.now e.1.now)

-- the pair's state is held as before, and the pair is so
pub record IsKept (Quiet : Pair → Type 0) (before : Entries) (p : Pair) (state : OriginState) : Type 0 where
  pub was : at before p ≡ Some state
  pub quiet : Quiet p

-- what is held afterwards was held before, and all of its pairs are so
pub record Keeps (Quiet : Pair → Type 0) (before after : Entries) : Type 0 where
  pub each : (p : Pair) (state : OriginState) → at after p ≡ Some state → IsKept Quiet before p state

-- no pair under the prefix is held
abbrev pub HasNoneUnder : Entries → Subnet → Type 0
HasNoneUnder held prefix = (p : Pair) (state : OriginState) → Covers prefix p.0 → ¬ (at held p ≡ Some state)

-- the prefix doesn't cover the pair's
abbrev pub IsApart : Subnet → Pair → Type 0
IsApart prefix p = ¬ Covers prefix p.0

-- if the payload covers the pair, it is among these
abbrev pub IsAmongCovering : List Payload → Payload → Pair → Type 0
IsAmongCovering others v p = Covers v.prefix p.0 → has others v ≡ true

-- what covers the pair and is among some is among others, too
abbrev pub AllHave : List Payload → List Payload → Pair → Type 0
AllHave some others p = (v : Payload) → Covers v.prefix p.0 → has some v ≡ true → has others v ≡ true

-- what covers the pair is among both or among neither
pub record SameHave (one other : List Payload) (p : Pair) : Type 0 where
  pub to : AllHave one other p
  pub from : AllHave other one p

-- if the payload covers the pair, it is among these exactly where it was announced
abbrev pub IsAlready : List Payload → Payload → Bool → Pair → Type 0
IsAlready payloads v announced p = Covers v.prefix p.0 → has payloads v ≡ announced

-- what the changes say of each payload that covers the pair is so already
abbrev pub AreAlready : List Payload → List (Payload × Bool) → Pair → Type 0
AreAlready payloads changes p = (v : Payload) (announced : Bool) → Covers v.prefix p.0 → said changes v ≡ Some announced → has payloads v ≡ announced

-- the filter hits nothing that covers the pair
abbrev pub IsUnhitBy : PrefixFilter → Pair → Type 0
IsUnhitBy f p = (v : Payload) → Covers v.prefix p.0 → ¬ Hits f v

-- none of the filters hits anything that covers the pair
abbrev pub IsUnhitByAll : List PrefixFilter → Pair → Type 0
IsUnhitByAll filters p = (v : Payload) → Covers v.prefix p.0 → ¬ IsHit filters v
