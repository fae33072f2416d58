-- What cases say of their ASes' roles. Private contracts alone cite it.
use Rattle.std.specs.Prelude.{◌≡◌, ⊤, ℕ, nat_eq, Bool, true, false, ◌||◌, List}
use Rattle.std.specs.declared.option.Option.{Option}
use Rattle.std.specs.declared.option.Option.TheVariants.{Some, None}
use Rattle.shared_cases.specs.declared.case.StoredCase.{StoredCase}
use Rattle.shared_cases.specs.Cases.{Slots, at}
use Rattle.shared_cases.specs.Numbers.{has}

-- whether the case says that its AS has a role of its own
abbrev pub says_own : Option StoredCase → Bool
says_own None = false
says_own (Some c) = c.own

-- each says what it said
abbrev pub SayTheSame : Slots → Slots → Type 0
SayTheSame before after = (n : ℕ) → says_own (at after n) ≡ says_own (at before n)

-- the case says so from now on
abbrev pub owned : Option StoredCase → Option StoredCase
owned None = None
owned (Some c) = Some (record c { own = true })

-- the case says so from now on, if it is of this AS
abbrev pub owned_of : ℕ → Option StoredCase → Option StoredCase
owned_of asn None = None
owned_of asn (Some c) = Some (record c { own = nat_eq asn c.asn || c.own })

-- where the case doesn't say so, its AS is one of these
abbrev pub IsOwnOrAmong : List ℕ → Option StoredCase → Type 0
IsOwnOrAmong ases None = ⊤
IsOwnOrAmong ases (Some c) = c.own ≡ false → has ases c.asn ≡ true
