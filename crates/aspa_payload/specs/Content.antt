-- The shape of a payload's content (draft-ietf-sidrops-aspa-profile, section 3, ASProviderAttestation).
use Rattle.std.specs.Prelude.{◌≡◌, ◌≢◌, ℕ, List, [], ◌∷◌, slice_get}
use Rattle.std.specs.declared.option.Option.{Option}
use Rattle.std.specs.declared.option.Option.TheVariants.{Some, None}
use Rattle.der_reader.specs.Value.{Begins}
use Rattle.der_reader.specs.Integer.{TakesInteger}
use Rattle.aspa_payload.specs.declared.content.Parts.{Parts}
use Rattle.path_model.specs.Union.{Attestation}

-- an explicit version is one value of tag A0 that holds exactly one INTEGER
pub record TakesExplicit (content : List ℕ) (version : ℕ) (rest : List ℕ) : Type 0 where
  pub inner : List ℕ
  pub begins : Begins 160 content inner rest
  pub alone : TakesInteger inner version []

-- perhaps an explicit version, and the rest
abbrev pub TakesVersion : List ℕ → Option ℕ → List ℕ → Type 0
TakesVersion content None rest = (slice_get content 0 ≢ Some 160) × (rest ≡ content)
TakesVersion content (Some version) rest = TakesExplicit content version rest

-- the bytes are these INTEGERs, one after another
abbrev pub AreIntegers : List ℕ → List ℕ → Type 0
AreIntegers bytes [] = bytes ≡ []
AreIntegers bytes (n ∷ ns) = (rest : List ℕ) × TakesInteger bytes n rest × AreIntegers rest ns

-- perhaps a version, then the customer, then a value of tag 30 that holds the providers, and nothing more
pub record IsContent (content : List ℕ) (parts : Parts) : Type 0 where
  pub after_version : List ℕ
  pub version : TakesVersion content parts.version after_version
  pub after_customer : List ℕ
  pub customer : TakesInteger after_version parts.customer after_customer
  pub list : List ℕ
  pub last : Begins 48 after_customer list []
  pub providers : AreIntegers list parts.providers

-- the content has the version 1, and this is what it says
abbrev pub Says : List ℕ → Attestation → Type 0
Says content a = IsContent content (record { version = Some 1; customer = a.customer; providers = a.providers })
