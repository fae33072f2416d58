-- How a host and a port are written, which is what a place of a script is.
use Rattle.std.specs.Prelude.{◌≡◌, ◌≢◌, ℕ, ◌<◌, ◌≤◌, ◌==◌, ◌||◌, ◌⊎◌, Bool, List, [], ◌∷◌, ◌++◌, length, slice_index, decimal, All, IsTrue}
use Rattle.std.specs.Char.{is_ascii_alphanumeric, is_ascii_alphabetic}
use Rattle.std.specs.Net.Grammar.{IsIpv6Text}
use Rattle.std.specs.declared.net.ipv6_addr.Ipv6Addr.{Ipv6Addr}
use Rattle.path_model.specs.declared.addr.Addr.TheVariants.{V4}
use Rattle.av_text.specs.AddressText.{IsAddrText}

-- a letter, a digit, `-` or `_`
abbrev pub is_label_byte : ℕ → Bool
is_label_byte byte = is_ascii_alphanumeric byte || (byte == 45) || (byte == 95)

-- a part of a name
pub record IsLabel (text : List ℕ) : Type 0 where
  pub some : text ≢ []
  pub bytes : All (λ byte. IsTrue (is_label_byte byte)) text

-- the last part begins with a letter, so that no text of numbers is a name
abbrev pub AreLabels : List (List ℕ) → Type 0
AreLabels [] = Unit {0}
AreLabels (last ∷ []) = IsLabel last × IsTrue (is_ascii_alphabetic (slice_index last 0))
AreLabels (label ∷ next ∷ more) = IsLabel label × AreLabels (next ∷ more)

-- these, with dots between them
abbrev pub dotted : List ℕ → List (List ℕ) → List ℕ
dotted first [] = first
dotted first (next ∷ more) = first ++ 46 ∷ dotted next more

-- labels joined by dots
pub record IsDotted (text : List ℕ) : Type 0 where
  pub first : List ℕ
  pub more : List (List ℕ)
  pub are : AreLabels (first ∷ more)
  pub joined : text ≡ dotted first more

-- a name of a host (RFC 1123, section 2.1, with `_`), of at most 253 bytes (RFC 1035, section 2.3.4)
pub record IsHostName (text : List ℕ) : Type 0 where
  pub short : length text ≤ 253
  pub dots : IsDotted text

-- an IPv4 address, as it is written everywhere here
abbrev pub IsFour : List ℕ → Type 0
IsFour text = (n : ℕ) × IsAddrText text (V4 n)

-- an IPv6 address in any text form (RFC 4291, section 2.2), without a zone
abbrev pub IsSix : List ℕ → Type 0
IsSix text = (addr : Ipv6Addr) × IsIpv6Text text addr

-- a name and an IPv4 address are written as themselves, an IPv6 address in brackets (RFC 3986, section 3.2.2)
abbrev pub IsHost : List ℕ → Type 0
IsHost text = IsHostName text ⊎ (IsFour text ⊎ ((inner : List ℕ) × (text ≡ 91 ∷ inner ++ 93 ∷ []) × IsSix inner))

-- a port that can be connected to
abbrev pub IsPort : ℕ → Type 0
IsPort port = (0 < port) × (port < 65536)

-- the text is this host, a colon and this port
pub record IsHostPort (text host : List ℕ) (port : ℕ) : Type 0 where
  pub is_host : IsHost host
  pub is_port : IsPort port
  pub whole : text ≡ host ++ 58 ∷ decimal port

-- the text is no host with a port
abbrev pub IsNoHostPort : List ℕ → Type 0
IsNoHostPort text = (host : List ℕ) (port : ℕ) → ¬ IsHostPort text host port
