-- The cases that there are, one after another.
use Rattle.std.specs.Prelude.{ℕ, List}
use Rattle.std.specs.List.{filter_map}
use Rattle.std.specs.Option.{option_map}
use Rattle.path_model.specs.declared.verdict.Verdict.{Verdict}
use Rattle.path_model.specs.Trail.{Path}
use Rattle.ramps.specs.Judgement.{Judgement}
use Rattle.shared_cases.specs.declared.case.Case.{Case}
use Rattle.shared_cases.specs.declared.case.StoredCase.{StoredCase}
use Rattle.shared_cases.specs.Cases.{Slots}

-- what is listed of a case: the peer AS with the path, its judgement, its verdict at the last mark, and how many routes have it
pub record Listed : Type 0 where
  pub asn : ℕ
  pub trail : Path
  pub judged : Judgement
  pub marked : Verdict
  pub users : ℕ

abbrev pub listed : StoredCase → Listed
listed c = record { asn = c.asn; trail = c.trail; judged = c.judged; marked = c.marked; users = c.users }

-- what a shown case says
abbrev pub shown : Case → Listed
shown case = record { asn = case.asn; trail = case.trail.now; judged = case.judged.now; marked = case.marked; users = case.users }

-- what is listed of the cases that there are, by rising number
abbrev pub cases_of : Slots → List Listed
cases_of cases = filter_map (option_map listed) cases
