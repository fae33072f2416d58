-- One user more of a case, one less, and many less.
use Rattle.std.specs.Prelude.{◌≡◌, ℕ, zero, suc, nat_eq, nat_lt, ◌+◌, ◌-◌, Bool, false, List, if◌then◌else◌, ◌⊎◌}
use Rattle.std.specs.List.{sum_by}
use Rattle.std.specs.declared.option.Option.{Option}
use Rattle.std.specs.declared.option.Option.TheVariants.{Some, None}
use Rattle.path_model.specs.Trail.{Path}
use Rattle.ramps.specs.Judgement.{Judgement}
use Rattle.shared_cases.specs.declared.case.StoredCase.{StoredCase}
use Rattle.shared_cases.specs.Cases.{Slots, at, Rewrites, IsStoredAs, IsAbsent}
use Rattle.shared_cases.specs.Grounds.{Grounds, has_own, IsRightJudgement}

-- a case with one user more
abbrev pub raised : Option StoredCase → Option StoredCase
raised None = None
raised (Some c) = Some (record c { users = c.users + 1 })

-- whether it has another user beside one
abbrev pub is_shared : Option StoredCase → Bool
is_shared None = false
is_shared (Some c) = nat_lt 1 c.users

-- a case with one user less
abbrev pub lowered : Option StoredCase → Option StoredCase
lowered None = None
lowered (Some c) = Some (record c { users = c.users - 1 })

-- what is left of a case after one of its users: nothing after the last one
abbrev pub left : Option StoredCase → Option StoredCase
left c = if is_shared c then lowered c else None

-- how often a number stands in a list
abbrev pub times : ℕ → List ℕ → ℕ
times n numbers = sum_by (λ m. if nat_eq m n then 1 else 0) numbers

-- what is left of a case after so many of its users, one after another
abbrev pub left_times : ℕ → Option StoredCase → Option StoredCase
left_times zero c = c
left_times (suc k) c = left (left_times k c)

-- a new case: it has one user, its verdict is the marked one, and it hasn't differed; and whether its AS has a role of its own
abbrev pub new_case : ℕ → Path → Judgement → Bool → StoredCase
new_case asn path judgement own =
    record { trail = path; users = 1; judged = judgement; asn = asn; marked = judgement.verdict; differed = false; own = own }

-- the case of this AS and path is there under n, and has one user more
pub record Joins (asn : ℕ) (path : Path) (before after : Slots) (n : ℕ) : Type 0 where
  pub stored : IsStoredAs (at before n) asn path
  pub raised : Rewrites before after n (raised (at before n))

-- a case of this AS and path is new, under a number that had none, with its right judgement
pub record Adds (g : Grounds) (asn : ℕ) (path : Path) (before after : Slots) (n : ℕ) : Type 0 where
  pub absent : IsAbsent before asn path
  pub vacant : at before n ≡ None
  pub judgement : Judgement
  pub right : IsRightJudgement g asn path judgement
  pub added : Rewrites before after n (Some (new_case asn path judgement (has_own g.roles asn)))

-- one user more of the case of this AS and path, which has the number n
abbrev pub Takes : Grounds → ℕ → Path → Slots → Slots → ℕ → Type 0
Takes g asn path before after n = Joins asn path before after n ⊎ Adds g asn path before after n

-- ---- many users less at once; private contracts alone cite this part

-- how many users a case has
abbrev pub users_or : Option StoredCase → ℕ
users_or None = 0
users_or (Some c) = c.users

-- a case with so many users less
abbrev pub lowered_by : ℕ → Option StoredCase → Option StoredCase
lowered_by k None = None
lowered_by k (Some c) = Some (record c { users = c.users - k })

-- `before` has one number so many times more than `after`, and each other as often
abbrev pub TakesOut : List ℕ → ℕ → ℕ → List ℕ → Type 0
TakesOut before number count after =
    (n : ℕ) → times n before ≡ times n after + (if nat_eq number n then count else 0)
