-- The cases by number.
use Rattle.std.specs.Prelude.{◌≡◌, ◌≢◌, ℕ, nat_eq, Bool, true, false, not, List, slice_index_or, ⊤}
use Rattle.std.specs.declared.option.Option.{Option}
use Rattle.std.specs.declared.option.Option.TheVariants.{Some, None}
use Rattle.path_model.specs.declared.verdict.Verdict.{Verdict}
use Rattle.path_model.specs.declared.verdict.Verdict.TheVariants.{Valid, Unknown, Invalid}
use Rattle.path_model.specs.Trail.{Path}
use Rattle.hop_index.specs.Hops.{has_hop}
use Rattle.hop_index.specs.Index.{Entries, has}
use Rattle.shared_cases.specs.declared.case.Case.{Case}
use Rattle.shared_cases.specs.declared.case.StoredCase.{StoredCase}

-- What stands under each number from 0 on: a peer AS with a path, its judgement, its verdict at the last mark, and how many use it; or nothing.
abbrev pub Slots : Type 0
Slots = List (Option StoredCase)

-- what stands under a number
abbrev pub at : Slots → ℕ → Option StoredCase
at cases n = slice_index_or cases n None

-- one number has this from now on, and every other what it had
pub record Rewrites (old new : Slots) (n : ℕ) (value : Option StoredCase) : Type 0 where
  pub here : at new n ≡ value
  pub others : (m : ℕ) → m ≢ n → at new m ≡ at old m

-- a case of this AS and path
abbrev pub IsStoredAs : Option StoredCase → ℕ → Path → Type 0
IsStoredAs None asn path = ⊥
IsStoredAs (Some c) asn path = (c.asn ≡ asn) × (c.trail ≡ path)

-- no case of this AS and path
abbrev pub IsAbsent : Slots → ℕ → Path → Type 0
IsAbsent cases asn path = (n : ℕ) → ¬ IsStoredAs (at cases n) asn path

-- each peer AS and path stands under one number at most
abbrev pub AreDistinct : Slots → Type 0
AreDistinct cases =
    (m n asn : ℕ) (path : Path) → IsStoredAs (at cases m) asn path → IsStoredAs (at cases n) asn path → m ≡ n

-- the hops of a case
abbrev pub hops_of : Option StoredCase → ℕ → ℕ → Bool
hops_of None x y = false
hops_of (Some c) x y = has_hop c.trail.chain x y

-- the index has the hops of these cases, each under its case's number, and no others
abbrev pub IsIndexOf : Slots → Entries → Type 0
IsIndexOf cases index = (x y n : ℕ) → has index x y n ≡ hops_of (at cases n) x y

-- whether the case is of this AS
abbrev pub is_of_peer : Option StoredCase → ℕ → Bool
is_of_peer None asn = false
is_of_peer (Some c) asn = nat_eq asn c.asn

-- this is shown of what stands under a number
abbrev pub IsShown : Option Case → Option StoredCase → Type 0
IsShown None None = ⊤
IsShown None (Some c) = ⊥
IsShown (Some shown) None = ⊥
IsShown (Some shown) (Some c) =
    (shown.asn ≡ c.asn) × (shown.trail.now ≡ c.trail) × (shown.judged.now ≡ c.judged) × (shown.marked ≡ c.marked)
    × (shown.users ≡ c.users)

-- the verdict of a case, and the marked one; invalid where there is none
abbrev pub verdict_or : Option StoredCase → Verdict
verdict_or None = Invalid
verdict_or (Some c) = c.judged.verdict

abbrev pub marked_or : Option StoredCase → Verdict
marked_or None = Invalid
marked_or (Some c) = c.marked

-- its verdict is the marked one
abbrev pub IsSettled : Option StoredCase → Type 0
IsSettled None = ⊤
IsSettled (Some c) = c.marked ≡ c.judged.verdict

-- whether two verdicts are the same
abbrev pub same_verdict : Verdict → Verdict → Bool
same_verdict Valid Valid = true
same_verdict Valid Unknown = false
same_verdict Valid Invalid = false
same_verdict Unknown Valid = false
same_verdict Unknown Unknown = true
same_verdict Unknown Invalid = false
same_verdict Invalid Valid = false
same_verdict Invalid Unknown = false
same_verdict Invalid Invalid = true

-- whether its verdict is another one than the marked one
abbrev pub differs : Option StoredCase → Bool
differs None = false
differs (Some c) = not (same_verdict c.marked c.judged.verdict)

-- whether its verdict was another one than the marked one at some time since the last mark, or since it came
abbrev pub has_differed : Option StoredCase → Bool
has_differed None = false
has_differed (Some c) = c.differed

-- its verdict becomes the marked one, and from then on it hasn't differed
abbrev pub marked_now : Option StoredCase → Option StoredCase
marked_now None = None
marked_now (Some c) = Some (record c { marked = c.judged.verdict; differed = false })

-- the same case with another judgement at most, and whether it has differed
abbrev pub IsSameCase : Option StoredCase → Option StoredCase → Type 0
IsSameCase None None = ⊤
IsSameCase None (Some d) = ⊥
IsSameCase (Some c) None = ⊥
IsSameCase (Some c) (Some d) = (c.asn ≡ d.asn) × (c.trail ≡ d.trail) × (c.users ≡ d.users) × (c.marked ≡ d.marked)

abbrev pub AreSameCases : Slots → Slots → Type 0
AreSameCases old new = (n : ℕ) → IsSameCase (at old n) (at new n)
