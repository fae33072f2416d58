-- How many routes have cases with which verdict.
use Rattle.std.specs.Prelude.{ℕ, ◌+◌, ◌-◌, Bool, true, false, if◌then◌else◌}
use Rattle.std.specs.List.{sum_by}
use Rattle.std.specs.declared.option.Option.{Option}
use Rattle.std.specs.declared.option.Option.TheVariants.{Some, None}
use Rattle.path_model.specs.declared.verdict.Verdict.{Verdict}
use Rattle.path_model.specs.declared.verdict.Verdict.TheVariants.{Valid, Unknown, Invalid}
use Rattle.shared_cases.specs.declared.case.StoredCase.{StoredCase}
use Rattle.shared_cases.specs.declared.totals.Totals.{Totals}
use Rattle.shared_cases.specs.Cases.{Slots}

abbrev pub is_valid : Verdict → Bool
is_valid Valid = true
is_valid Unknown = false
is_valid Invalid = false

abbrev pub is_unknown : Verdict → Bool
is_unknown Valid = false
is_unknown Unknown = true
is_unknown Invalid = false

abbrev pub is_invalid : Verdict → Bool
is_invalid Valid = false
is_invalid Unknown = false
is_invalid Invalid = true

-- how many routes have a case, where its verdict is such a one, and else none
abbrev pub users_if : (Verdict → Bool) → Option StoredCase → ℕ
users_if is None = 0
users_if is (Some c) = if is c.judged.verdict then c.users else 0

-- how many routes have cases with such a verdict
abbrev pub users_with : (Verdict → Bool) → Slots → ℕ
users_with is cases = sum_by (users_if is) cases

-- how many have cases with each verdict
abbrev pub totals_of : Slots → Totals
totals_of cases = record {
  valid = users_with is_valid cases;
  unknown = users_with is_unknown cases;
  invalid = users_with is_invalid cases;
}

-- ---- how totals change; private contracts alone cite this part

abbrev pub no_users : Totals
no_users = record { valid = 0; unknown = 0; invalid = 0 }

-- so many routes, all with this verdict
abbrev pub users_of : Verdict → ℕ → Totals
users_of verdict users = record {
  valid = if is_valid verdict then users else 0;
  unknown = if is_unknown verdict then users else 0;
  invalid = if is_invalid verdict then users else 0;
}

-- the routes of one case, one of them, and so many of them
abbrev pub share_of : Option StoredCase → Totals
share_of None = no_users
share_of (Some c) = users_of c.judged.verdict c.users

abbrev pub one_user : Option StoredCase → Totals
one_user None = no_users
one_user (Some c) = users_of c.judged.verdict 1

abbrev pub some_users : ℕ → Option StoredCase → Totals
some_users k None = no_users
some_users k (Some c) = users_of c.judged.verdict k

abbrev pub plus : Totals → Totals → Totals
plus a b = record { valid = a.valid + b.valid; unknown = a.unknown + b.unknown; invalid = a.invalid + b.invalid }

abbrev pub minus : Totals → Totals → Totals
minus a b = record { valid = a.valid - b.valid; unknown = a.unknown - b.unknown; invalid = a.invalid - b.invalid }
