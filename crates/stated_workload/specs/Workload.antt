-- The stated workload of a seed: events that load an analysis, and events that amend it by hand. Draws are made in the order in which the
-- fields of each record name them.
use Rattle.std.specs.Prelude.{◌≡◌, ℕ, zero, suc, ◌+◌, ◌*◌, ◌%◌, ◌^◌, ◌==◌, false, List, [], ◌∷◌, ◌++◌, codes, if◌then◌else◌}
use Rattle.std.specs.declared.option.Option.TheVariants.{None}
use Rattle.rand_pcg.specs.Lcg.{Lcg}
use Rattle.path_model.specs.declared.addr.Addr.TheVariants.{V4}
use Rattle.path_model.specs.declared.change.Change.TheVariants.{Announce}
use Rattle.path_model.specs.declared.key.Key.{Key}
use Rattle.path_model.specs.declared.role.Role.{Role as AnyRole}
use Rattle.path_model.specs.declared.role.Role.TheVariants.{Provider, Customer, Peer, Rs, RsClient, Mutual}
use Rattle.path_model.specs.Rows.{RowMap}
use Rattle.path_model.specs.Trail.{path_of}
use Rattle.attestations.specs.Terms.{terms_of}
use Rattle.vap_table.specs.declared.change.TableChange.{TableChange}
use Rattle.vap_table.specs.declared.change.TableChange.TheVariants.{Replace, Filter, Unfilter, Assert, Unassert}
use Rattle.analyser.specs.declared.event.Event.{Event}
use Rattle.analyser.specs.declared.event.Event.TheVariants.{Routes, Table, Role}
use Rattle.stated_workload.specs.Draws.{Draws, DrawsAll, DrawsAs, generator_of}
use Rattle.stated_workload.specs.Rows.{DrawsRows}

-- the roles in the order in which they are listed everywhere
abbrev pub role_numbered : ℕ → AnyRole
role_numbered n =
    if n == 0 then Provider
    else (if n == 1 then Customer else (if n == 2 then Peer else (if n == 3 then Rs else (if n == 4 then RsClient else Mutual))))

-- the first so many ASes get a role each, in turn
unfoldable pub role_events : ℕ → List Event
role_events zero = []
role_events (suc q) = role_events q ++ Role (1 + q) (role_numbered (q % 6)) ∷ []

-- the peer 10.0.0.0 plus 1 + q with AS 1 + q, the prefix 11.0.0.0 plus 256 p of length 24, and no path identifier
abbrev pub key_of : ℕ → ℕ → Key
key_of q p = record {
  peer = record { addr = V4 (10 * 2 ^ 24 + 1 + q); asn = 1 + q };
  prefix = record { addr = V4 (11 * 2 ^ 24 + 256 * p); len = 24 };
  path = None;
}

-- an announcement of the prefix numbered p, from a peer and by up to five more ASes
pub record DrawsAnnouncement (p : ℕ) (old : Lcg) (event : Event) (new : Lcg) : Type 0 where
  pub q : ℕ
  pub n : ℕ
  pub ases : List ℕ
  pub after_q : Lcg
  pub after_n : Lcg
  pub q_drawn : Draws 20 old q after_q
  pub n_drawn : Draws 6 after_q n after_n
  pub ases_drawn : DrawsAll (λ _. DrawsAs) n after_n ases new
  pub is : event ≡ Routes (Announce (key_of q p) (path_of false ((1 + q) ∷ ases)) ∷ [])

-- the amendment by hand of this number, for customer x: 2 asserts one provider more, and no other draws
abbrev pub DrawsAmended : ℕ → ℕ → Lcg → TableChange → Lcg → Type 0
DrawsAmended zero x old change new = (change ≡ Filter x) × (new ≡ old)
DrawsAmended (suc zero) x old change new = (change ≡ Unfilter x) × (new ≡ old)
DrawsAmended (suc (suc zero)) x old change new = (provider : ℕ) × DrawsAs old provider new × (change ≡ Assert x (provider ∷ []))
DrawsAmended (suc (suc (suc m))) x old change new = (change ≡ Unassert x) × (new ≡ old)

-- an amendment by hand
pub record DrawsAmendment (old : Lcg) (event : Event) (new : Lcg) : Type 0 where
  pub x : ℕ
  pub m : ℕ
  pub change : TableChange
  pub after_x : Lcg
  pub after_m : Lcg
  pub x_drawn : DrawsAs old x after_x
  pub m_drawn : Draws 4 after_x m after_m
  pub change_drawn : DrawsAmended m x after_m change new
  pub is : event ≡ Table change

-- the source that holds the rows
abbrev pub source_name : List ℕ
source_name = codes "demo"

-- what loads: the rows of 2,000 customers, which never end, the roles of 20 ASes, and 20,000 announcements
pub record DrawsLoading (old : Lcg) (events : List Event) (new : Lcg) : Type 0 where
  pub rows : RowMap
  pub announcements : List Event
  pub after_rows : Lcg
  pub rows_drawn : DrawsRows 2000 old rows after_rows
  pub announcements_drawn : DrawsAll DrawsAnnouncement 20000 after_rows announcements new
  pub are : events ≡ Table (Replace source_name (terms_of rows)) ∷ role_events 20 ++ announcements

-- the events that load, and then the 1,000 that amend
pub record IsWorkload (seed : ℕ) (loading amending : List Event) : Type 0 where
  pub after_loading : Lcg
  pub after : Lcg
  pub loading_drawn : DrawsLoading (generator_of seed) loading after_loading
  pub amending_drawn : DrawsAll (λ _. DrawsAmendment) 1000 after_loading amending after
