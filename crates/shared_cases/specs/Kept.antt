-- What keeps the cases, their names and their indexes together. Private contracts alone cite it.
use Rattle.std.specs.Prelude.{◌≡◌, ℕ, nat_eq, Bool, true, not, ◌||◌, ◌&&◌, List}
use Rattle.hop_index.specs.declared.gone.GoneHop.{GoneHop}
use Rattle.hop_index.specs.Hops.{has_hop}
use Rattle.hop_index.specs.Index.{Entries, has as hops_have, stays}
use Rattle.shared_cases.specs.declared.kept.Kept.{Kept}
use Rattle.shared_cases.specs.declared.names.Names.{Names}
use Rattle.shared_cases.specs.Cases.{Slots, at, has_differed, hops_of, is_of_peer}
use Rattle.shared_cases.specs.Differed.{AreSettledOrDiffered}
use Rattle.shared_cases.specs.Naming.{AreNamed}
use Rattle.shared_cases.specs.Numbers.{has}
use Rattle.shared_cases.specs.Owning.{IsOwnOrAmong}
use Rattle.shared_cases.specs.Peers.{ByPeer, Members, is_member}
use Rattle.shared_cases.specs.Totals.{totals_of}
use Rattle.shared_cases.specs.Verdicts.{AreVerdictsOf}

-- whether there is a hop between two ASes of the case n
abbrev pub Hops : Type 0
Hops = ℕ → ℕ → ℕ → Bool

-- the hops of an index but for those that go
abbrev pub staying : Entries → List GoneHop → Hops
staying index gone = stays index gone

-- the hops with those of one case, and without them
abbrev pub with_chain : Hops → ℕ → List ℕ → Hops
with_chain hops case chain x y n = hops x y n || (nat_eq n case && has_hop chain x y)

abbrev pub without_chain : Hops → ℕ → List ℕ → Hops
without_chain hops case chain x y n = hops x y n && not (nat_eq n case && has_hop chain x y)

-- the hops are the same
abbrev pub AreSameHops : Hops → Hops → Type 0
AreSameHops before after = (x y n : ℕ) → after x y n ≡ before x y n

-- the names are those of the cases, the hops those of their paths, and the members of an AS its cases
pub record AreIndexed (cases : Slots) (names : Names) (hops : Hops) (peers : Members) : Type 0 where
  pub named : AreNamed cases names
  pub indexed : (x y n : ℕ) → hops x y n ≡ hops_of (at cases n) x y
  pub members : (asn n : ℕ) → is_member peers asn n ≡ is_of_peer (at cases n) asn

-- and each case that hasn't differed is settled, and each that has is among `differed`, and the AS of each is among those of the default role
-- but where the case says that it has one of its own
pub record AreKept (cases : Slots) (names : Names) (hops : Hops) (peers : ByPeer) (differed : List ℕ) : Type 0 where
  pub indexed : AreIndexed cases names hops peers.members
  pub settled : AreSettledOrDiffered cases
  pub listed : (n : ℕ) → has_differed (at cases n) ≡ true → has differed n ≡ true
  pub defaulted : (n : ℕ) → IsOwnOrAmong peers.defaulted (at cases n)

-- what is kept of the cases is theirs, with these hops: and the totals and the verdicts are those of the cases
abbrev pub FitBy : Hops → Slots → Kept → Type 0
FitBy hops cases kept =
    AreKept cases kept.names hops kept.peers kept.differed × (kept.totals ≡ totals_of cases) × AreVerdictsOf cases kept.verdicts

-- the same with the hops of the index
abbrev pub FitTogether : Slots → Kept → Type 0
FitTogether cases kept = FitBy (hops_have kept.index) cases kept

-- the same, but for the totals and the verdicts
abbrev pub AreOnlyRejudged : Kept → Kept → Type 0
AreOnlyRejudged before after = after ≡ record before { totals = after.totals; verdicts = after.verdicts }
