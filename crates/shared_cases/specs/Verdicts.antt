-- The verdicts of the cases, beside the slab. Private contracts alone cite it.
use Rattle.std.specs.Prelude.{◌≡◌, ◌≢◌, ℕ, List, slice_index_or}
use Rattle.path_model.specs.declared.verdict.Verdict.{Verdict}
use Rattle.path_model.specs.declared.verdict.Verdict.TheVariants.{Invalid}
use Rattle.shared_cases.specs.Cases.{Slots, at, verdict_or}

-- the verdict under a number; invalid where there is none
abbrev pub verdict_at : List Verdict → ℕ → Verdict
verdict_at verdicts n = slice_index_or verdicts n Invalid

-- one number has this verdict from now on, and every other what it had
pub record SetsVerdict (old new : List Verdict) (n : ℕ) (verdict : Verdict) : Type 0 where
  pub here : verdict_at new n ≡ verdict
  pub others : (m : ℕ) → m ≢ n → verdict_at new m ≡ verdict_at old m

-- these are the verdicts of the cases, each under its case's number
abbrev pub AreVerdictsOf : Slots → List Verdict → Type 0
AreVerdictsOf cases verdicts = (n : ℕ) → verdict_at verdicts n ≡ verdict_or (at cases n)
