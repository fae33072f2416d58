-- Which cases got another verdict than the marked one.
use Rattle.std.specs.Prelude.{◌≡◌, ℕ, false, not, ◌||◌, ◌&&◌, List}
use Rattle.std.specs.declared.option.Option.{Option}
use Rattle.shared_cases.specs.declared.case.StoredCase.{StoredCase}
use Rattle.shared_cases.specs.Cases.{Slots, at, differs, has_differed, IsSettled}
use Rattle.shared_cases.specs.Numbers.{has}

-- a case has differed now exactly where it had before, or differs now
abbrev pub HasDiffered : Option StoredCase → Option StoredCase → Type 0
HasDiffered before now = has_differed now ≡ (has_differed before || differs now)

-- so it is with each case
abbrev pub HaveDiffered : Slots → Slots → Type 0
HaveDiffered before now = (n : ℕ) → HasDiffered (at before n) (at now n)

-- these are the numbers of exactly the cases that have differed and hadn't before
abbrev pub AreNewlyDiffering : Slots → Slots → List ℕ → Type 0
AreNewlyDiffering before now numbers =
    (n : ℕ) → has numbers n ≡ (has_differed (at now n) && not (has_differed (at before n)))

-- each case that hasn't differed is settled
abbrev pub AreSettledOrDiffered : Slots → Type 0
AreSettledOrDiffered cases = (n : ℕ) → has_differed (at cases n) ≡ false → IsSettled (at cases n)
