-- What judgements rest on, and which are right.
use Rattle.std.specs.Prelude.{◌≡◌, ⊤, ℕ, Bool, true, is_some}
use Rattle.std.specs.declared.option.Option.{Option}
use Rattle.std.specs.declared.option.Option.TheVariants.{Some, None}
use Rattle.std.specs.FinMap as map
use Rattle.path_model.specs.declared.role.Role.{Role}
use Rattle.path_model.specs.Authority.{Table}
use Rattle.path_model.specs.PrintedWitness.{IsPrinted}
use Rattle.path_model.specs.Roles.{Relations, role_of}
use Rattle.path_model.specs.Trail.{Path}
use Rattle.ramps.specs.Judgement.{Judgement}
use Rattle.shared_cases.specs.declared.case.StoredCase.{StoredCase}
use Rattle.shared_cases.specs.declared.grounds.Grounds.{Grounds as LentGrounds}

-- a table of attestations, and the roles of the peers
pub record Grounds : Type 0 where
  pub table : Table
  pub roles : Relations

abbrev pub by_table : Table → Relations → Grounds
by_table table relations = record { table = table; roles = relations }

-- what is lent, where these are the rows of such a table
abbrev pub lent : {T : Type 0} → (T → Table) → LentGrounds T → Grounds
lent rows on = by_table (rows on.table.now) on.roles.now

-- the same with another table, with other roles, and with another default role
abbrev pub with_table : Table → Grounds → Grounds
with_table table g = record g { table = table }

abbrev pub with_roles : Relations → Grounds → Grounds
with_roles relations g = record g { roles = relations }

abbrev pub with_default : Role → Grounds → Grounds
with_default role g = record g { roles = record g.roles { default = role } }

-- the right verdict of a path from this AS, in the role of that AS, and the witness that is printed
abbrev pub IsRightJudgement : Grounds → ℕ → Path → Judgement → Type 0
IsRightJudgement g asn path judgement = IsPrinted g.table (role_of g.roles asn) asn path judgement.verdict judgement.witness

-- whether the AS has a role of its own
abbrev pub has_own : Relations → ℕ → Bool
has_own relations asn = is_some (map.get relations.set asn)

-- a case with its right judgement
abbrev pub IsRightCase : Grounds → Option StoredCase → Type 0
IsRightCase g None = ⊤
IsRightCase g (Some c) = IsRightJudgement g c.asn c.trail c.judged

-- where the case says that its AS has a role of its own, it has
abbrev pub HasOwnAsSaid : Relations → Option StoredCase → Type 0
HasOwnAsSaid relations None = ⊤
HasOwnAsSaid relations (Some c) = c.own ≡ true → has_own relations c.asn ≡ true

-- a case with its right judgement, which says nothing wrong of its AS
abbrev pub IsJudged : Grounds → Option StoredCase → Type 0
IsJudged g c = IsRightCase g c × HasOwnAsSaid g.roles c
