-- Texts read and put part by part. Only private contracts cite this module.
use Rattle.std.specs.Prelude.{◌≡◌, ◌≢◌, ℕ, ◌+◌, ◌<◌, ◌^◌, List, ◌∷◌, ◌++◌, decimal}
use Rattle.path_model.specs.declared.addr.Addr.{Addr}
use Rattle.path_model.specs.Prefix.{IsAddr}
use Rattle.av_text.specs.AddressText.{parts_text, addr_text}

-- the text is that of a number in so many digits
abbrev pub IsParts : (ℕ → List ℕ) → ℕ → ℕ → ℕ → List ℕ → ℕ → Type 0
IsParts spell mark base marks text n = (n < base ^ (marks + 1)) × (text ≡ parts_text spell mark base marks n)

-- it is of none
abbrev pub IsNoParts : (ℕ → List ℕ) → ℕ → ℕ → ℕ → List ℕ → Type 0
IsNoParts spell mark base marks text = (n : ℕ) → n < base ^ (marks + 1) → text ≢ parts_text spell mark base marks n

-- an address, a mark and a number
abbrev pub marked_text : Addr → ℕ → ℕ → List ℕ
marked_text addr mark n = addr_text addr ++ mark ∷ decimal n

-- the text is an address, `/` and a number below 256
abbrev pub AreParts : List ℕ → Addr → ℕ → Type 0
AreParts text addr n = IsAddr addr × (n < 256) × (text ≡ marked_text addr 47 n)

-- something was appended, or nothing
abbrev pub IsGrown : List ℕ → List ℕ → Type 0
IsGrown old new = (added : List ℕ) × (new ≡ old ++ added)
