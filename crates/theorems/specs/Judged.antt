-- What a store keeps while events come: its cases, the index of their hops, and what may be judged anew.
use Rattle.std.specs.Prelude.{◌≡◌, ◌≤◌, ◌+◌, ◌↔◌, ℕ, true, List, [], ◌∷◌, Some}
use Rattle.std.specs.FinMap as fin
use Rattle.std.specs.declared.option.Option.{Option}
use Rattle.std.specs.declared.option.Option.TheVariants.{None}
use Rattle.av_base.specs.One.{HasOnePair}
use Rattle.path_model.specs.declared.key.Key.{Key}
use Rattle.path_model.specs.declared.verdict.Verdict.{Verdict}
use Rattle.path_model.specs.declared.witness.Witness.{Witness}
use Rattle.path_model.specs.Authority.{Table, authority_of}
use Rattle.path_model.specs.PrintedWitness.{IsPrinted}
use Rattle.path_model.specs.Roles.{role_of}
use Rattle.path_model.specs.Trail.{Path}
use Rattle.path_model.specs.Witness.{Facts}
use Rattle.attestations.specs.CurrentTable.{IsCurrentTable}
use Rattle.hop_index.specs.Hops.{AreNeighbours}
use Rattle.hop_index.specs.Index.{Entries, has}
use Rattle.shared_cases.specs.declared.case.StoredCase.{StoredCase}
use Rattle.shared_cases.specs.Cases.{AreDistinct, IsStoredAs, Slots, at}
use Rattle.shared_cases.specs.Touched.{IsTouched}
use Rattle.rib_store.specs.Pairs.{routes_with}
use Rattle.rib_store.specs.Shown.{IsExplained}
use Rattle.rib_store.specs.State.{State}
use Rattle.rib_store.specs.Touched.{grounds_of}
use Rattle.analyser.specs.declared.event.Event.{Event}
use Rattle.analyser.specs.Events.{Happens}
use Rattle.analyser.specs.Touched.{Costs, TicksWithin}

-- ---- the cases and their index

-- The case is judged as it is by the current table and the role of its peer AS: right verdict, printed witness, whose facts hold.
pub record IsJudgedRight (state : State) (c : StoredCase) : Type 0 where
  pub printed : (table : Table) → IsCurrentTable state.parts table → IsPrinted table (role_of state.roles c.asn) c.asn c.trail c.judged.verdict c.judged.witness
  pub facts : (table : Table) → IsCurrentTable state.parts table → Facts table (role_of state.roles c.asn) c.asn c.trail c.judged.verdict c.judged.witness

-- x and y stand beside each other in the path of the case
abbrev pub IsHopOf : Option StoredCase → ℕ → ℕ → Type 0
IsHopOf None x y = ⊥
IsHopOf (Some c) x y = AreNeighbours c.trail.chain x y

-- The cases are those of the routes, and the index is that of the cases.
pub record IsInOrder (state : State) (cases : Slots) (index : Entries) : Type 0 where
  -- each route has a case, of its peer's AS and its path, and each case some route; no two cases have the same AS and path
  pub of_each_route : (key : Key) (path : Path) → fin.get state.routes key ≡ Some path → (n : ℕ) × IsStoredAs (at cases n) key.peer.asn path
  pub of_a_route : (n asn : ℕ) (path : Path) → IsStoredAs (at cases n) asn path → (key : Key) × (key.peer.asn ≡ asn) × (fin.get state.routes key ≡ Some path)
  pub once : AreDistinct cases
  -- it counts its routes, and is judged right
  pub users : (n : ℕ) (c : StoredCase) → at cases n ≡ Some c → c.users ≡ routes_with state.routes c.asn c.trail
  pub judged : (n : ℕ) (c : StoredCase) → at cases n ≡ Some c → IsJudgedRight state c
  -- the index has the number of a case between two ASes exactly where they stand beside each other in its path, in either order
  pub indexed : (x y n : ℕ) → (has index x y n ≡ true) ↔ IsHopOf (at cases n) x y

-- ---- what may be judged anew

-- The events leave a route alone: the role of its peer's AS is as it was, and so is what each of two neighbours in its path attests of the other.
pub record IsLeftAlone (old new : State) (asn : ℕ) (path : Path) : Type 0 where
  pub role : role_of old.roles asn ≡ role_of new.roles asn
  pub hops : (before after : Table) → IsCurrentTable old.parts before → IsCurrentTable new.parts after
      → (x y : ℕ) → AreNeighbours path.chain x y → authority_of before x y ≡ authority_of after x y

-- events, one after another: what they come to, and how many judgements they may cost together
abbrev pub AllCost : List Event → State → State → ℕ → Type 0
AllCost [] old new cost = (new ≡ old) × (cost ≡ 0)
AllCost (event ∷ more) old new cost =
    (mid : State) × (first : ℕ) × (rest : ℕ) × Happens old event mid × Costs old event mid first × AllCost more mid new rest × (cost ≡ first + rest)

-- They happened while a counter went from one number to another, which each moved no further than an event may (`Analyser::step`).
abbrev pub AllCounted : List Event → State → ℕ → ℕ → Type 0
AllCounted [] old before after = after ≡ before
AllCounted (event ∷ more) old before after =
    (mid : State) × (count : ℕ) × Happens old event mid × TicksWithin old event before count × AllCounted more mid count after

pub record JudgesWhatIsTouched : Type 0 where
  -- any events come to one state, at one cost, and no more is judged than that
  pub cost : (list : List Event) (old : State) → HasOnePair (AllCost list old)
  pub bounded : (list : List Event) (old new : State) (cost before after : ℕ) → AllCost list old new cost → AllCounted list old before after → after ≤ before + cost
  -- a route that is left alone adds nothing to the cost of a change, since it isn't touched, and it keeps its verdict and its witness
  pub free : (old new : State) (asn : ℕ) (path : Path) → IsLeftAlone old new asn path → ¬ IsTouched (grounds_of old) (grounds_of new) (asn, path)
  pub stays : (old new : State) (key : Key) (path : Path) → fin.get old.routes key ≡ Some path → fin.get new.routes key ≡ Some path → IsLeftAlone old new key.peer.asn path
      → (verdict : Verdict) (witness : Witness) → IsExplained old key verdict witness → IsExplained new key verdict witness
