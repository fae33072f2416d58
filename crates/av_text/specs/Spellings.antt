-- Laws of the spellings: a text is that of one value or of none, and no text of a value has a line feed.
use Rattle.std.specs.Prelude.{◌≡◌, ◌≢◌, ◌⊎◌, ℕ, ◌<◌, ◌^◌, List, decimal}
use Rattle.path_model.specs.declared.addr.Addr.{Addr}
use Rattle.path_model.specs.declared.peer.Peer.{Peer}
use Rattle.path_model.specs.declared.role.Role.{Role}
use Rattle.path_model.specs.declared.verdict.Verdict.{Verdict}
use Rattle.path_model.specs.Name.{IsName}
use Rattle.path_model.specs.Prefix.{IsAddr, Subnet, IsSubnet}
use Rattle.av_text.specs.AddressText.{addr_text}
use Rattle.av_text.specs.Marks.{Lacks}
use Rattle.av_text.specs.Number.{Is32Bit}
use Rattle.av_text.specs.PeerText.{peer_text}
use Rattle.av_text.specs.PrefixText.{prefix_text}
use Rattle.av_text.specs.RoleText.{role_text}
use Rattle.av_text.specs.VerdictText.{verdict_text}

-- two numbers of 64 bits with one text are equal
abbrev pub OneNumberPerText : Type 0
OneNumberPerText = (m n : ℕ) → m < 2 ^ 64 → n < 2 ^ 64 → decimal m ≡ decimal n → m ≡ n

-- two addresses with one text are equal
abbrev pub OneAddressPerText : Type 0
OneAddressPerText = (a b : Addr) → IsAddr a → IsAddr b → addr_text a ≡ addr_text b → a ≡ b

-- two prefixes with one text are equal
abbrev pub OnePrefixPerText : Type 0
OnePrefixPerText = (p q : Subnet) → IsSubnet p → IsSubnet q → prefix_text p ≡ prefix_text q → p ≡ q

-- a peer whose address and AS aren't too large
abbrev pub IsPeer : Peer → Type 0
IsPeer peer = IsAddr peer.addr × Is32Bit peer.asn

-- two peers with one text are equal
abbrev pub OnePeerPerText : Type 0
OnePeerPerText = (p q : Peer) → IsPeer p → IsPeer q → peer_text p ≡ peer_text q → p ≡ q

-- two roles with one text are equal
abbrev pub OneRolePerText : Type 0
OneRolePerText = (r s : Role) → role_text r ≡ role_text s → r ≡ s

-- two verdicts with one text are equal
abbrev pub OneVerdictPerText : Type 0
OneVerdictPerText = (v w : Verdict) → verdict_text v ≡ verdict_text w → v ≡ w

-- the text is that of a value, or of none
abbrev pub SpellsOne : (A : Type 0) → (A → Type 0) → (A → List ℕ) → List ℕ → Type 0
SpellsOne A IsValue spell text = ((a : A) × IsValue a × (text ≡ spell a)) ⊎ ((a : A) → IsValue a → text ≢ spell a)

-- so it is with numbers of 32 bits, addresses, prefixes and roles
abbrev pub NumbersAreTold : Type 0
NumbersAreTold = (text : List ℕ) → SpellsOne ℕ Is32Bit decimal text

abbrev pub AddressesAreTold : Type 0
AddressesAreTold = (text : List ℕ) → SpellsOne Addr IsAddr addr_text text

abbrev pub PrefixesAreTold : Type 0
PrefixesAreTold = (text : List ℕ) → SpellsOne Subnet IsSubnet prefix_text text

abbrev pub RolesAreTold : Type 0
RolesAreTold = (text : List ℕ) → SpellsOne Role (λ role. Unit {0}) role_text text

-- a text without a line feed
abbrev pub IsInLine : List ℕ → Type 0
IsInLine text = Lacks 10 text

-- whatever the value, its text has none
abbrev pub NumbersAreInLine : Type 0
NumbersAreInLine = (n : ℕ) → IsInLine (decimal n)

abbrev pub AddressesAreInLine : Type 0
AddressesAreInLine = (addr : Addr) → IsInLine (addr_text addr)

abbrev pub PrefixesAreInLine : Type 0
PrefixesAreInLine = (prefix : Subnet) → IsInLine (prefix_text prefix)

abbrev pub PeersAreInLine : Type 0
PeersAreInLine = (peer : Peer) → IsInLine (peer_text peer)

abbrev pub NamesAreInLine : Type 0
NamesAreInLine = (name : List ℕ) → IsName name → IsInLine name

abbrev pub RolesAreInLine : Type 0
RolesAreInLine = (role : Role) → IsInLine (role_text role)

abbrev pub VerdictsAreInLine : Type 0
VerdictsAreInLine = (verdict : Verdict) → IsInLine (verdict_text verdict)
