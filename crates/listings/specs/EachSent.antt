-- What the step of a route that is sent adds, and the verdicts that are held for it; private contracts alone cite it.
use Rattle.std.specs.Prelude.{◌≡◌, ◌≢◌, ℕ, ◌+◌, true, is_some, List, [], ◌∷◌, ◌++◌, map, slice_index_or, All, IsSome}
use Rattle.std.specs.List.{count_by}
use Rattle.std.specs.declared.option.Option.{Option}
use Rattle.std.specs.declared.option.Option.TheVariants.{Some, None}
use Rattle.attestations.specs.ComputedTable.{table_of}
use Rattle.path_model.specs.declared.key.Key.{Key}
use Rattle.path_model.specs.declared.role.Role.{Role}
use Rattle.path_model.specs.declared.verdict.Verdict.{Verdict}
use Rattle.path_model.specs.RightVerdict.{IsRight}
use Rattle.rib_store.specs.Numbered.{AreNumbered}
use Rattle.rib_store.specs.State.{State}
use Rattle.rib_store.specs.Stored.{Stored}
use Rattle.shared_cases.specs.declared.case.StoredCase.{StoredCase}
use Rattle.shared_cases.specs.Cases.{at}
use Rattle.listings.specs.Sent.{SentRow, first_of, is_sent, of_route, sent_path, sent_row}

-- the verdict that is held under a number, if one is
abbrev pub verdict_at : List (Option Verdict) → ℕ → Option Verdict
verdict_at verdicts n = slice_index_or verdicts n None

-- the routes of a case are sent
abbrev pub IsSentCase : State → Option StoredCase → Type 0
IsSentCase state None = ⊥
IsSentCase state (Some c) = is_sent state.roles c.asn ≡ true

-- the verdict is that of the case's path behind these ASes, in this role of the first one
abbrev pub IsSeenCase : State → Role → List ℕ → Option StoredCase → Verdict → Type 0
IsSeenCase state role ases None verdict = ⊥
IsSeenCase state role ases (Some c) verdict = IsRight (table_of state.parts) role (first_of ases) (sent_path ases c.trail) verdict

-- each verdict that is held is that of the case of its number, whose routes are sent
abbrev pub AreSeen : Stored → Role → List ℕ → List (Option Verdict) → Type 0
AreSeen stored role ases verdicts =
    (n : ℕ) (verdict : Verdict) → verdict_at verdicts n ≡ Some verdict
    → IsSentCase stored.state (at stored.cases n) × IsSeenCase stored.state role ases (at stored.cases n) verdict

-- the verdict of one case more is held
pub record HoldsOne (stored : Stored) (role : Role) (ases : List ℕ) (n : ℕ) (old new : List (Option Verdict)) : Type 0 where
  pub verdict : Verdict
  pub seen : IsSeenCase stored.state role ases (at stored.cases n) verdict
  pub here : verdict_at new n ≡ Some verdict
  pub others : (m : ℕ) → m ≢ n → verdict_at new m ≡ verdict_at old m
  pub counted : count_by is_some new ≡ count_by is_some old + 1

-- where the route is sent, one is held under its number
abbrev pub IsHeld : Stored → List (Option Verdict) → Key × ℕ → Type 0
IsHeld stored verdicts e = is_sent stored.state.roles e.0.peer.asn ≡ true → IsSome (verdict_at verdicts e.1)

-- and so for each route
abbrev pub AreHeld : Stored → List (Option Verdict) → Type 0
AreHeld stored verdicts =
    (routes : List (Key × ℕ)) → AreNumbered stored.state stored.cases routes → All (IsHeld stored verdicts) routes

-- ---- what the steps add

-- the line of what we originate, where it is still to come
abbrev pub own_pieces : Option Verdict → List (List ℕ)
own_pieces None = []
own_pieces (Some verdict) = sent_row (None, verdict) ∷ []

-- the line of a route, and nothing where no verdict is held
abbrev pub piece_by : Key → Option Verdict → List ℕ
piece_by key None = []
piece_by key (Some verdict) = sent_row (of_route (key, verdict))

abbrev pub piece_of : List (Option Verdict) → Key × ℕ → List ℕ
piece_of verdicts e = piece_by e.0 (verdict_at verdicts e.1)

-- what all that are left add
abbrev pub pieces : Option Verdict → List (Option Verdict) → List (Key × ℕ) → List (List ℕ)
pieces own verdicts routes = own_pieces own ++ map (piece_of verdicts) routes
