-- What another role touches, and what it doesn't.
use Rattle.std.proofs.Common.{◌≡◌, ◌≢◌, ℕ, true, false, None, Some, is_some, refl, ap, sym, subst, ◌∙◌, inl, true≢false}
use Rattle.std.specs.Cmp.{nat_eq_equiv}
use Rattle.std.specs.declared.option.Option.{Option}
use Rattle.std.specs.FinMap as map
use Rattle.std.specs.Option.{unwrap_or}
use Rattle.std.proofs.lemmas.Map.Views.{exact_unsigned_eq}
use Rattle.path_model.specs.declared.role.Role.{Role}
use Rattle.path_model.specs.Authority.{Table}
use Rattle.path_model.specs.PrintedWitness.{IsPrinted}
use Rattle.path_model.specs.Roles.{Relations, role_of}
use Rattle.shared_cases.specs.declared.case.StoredCase.{StoredCase}
use Rattle.shared_cases.specs.Cases.{is_of_peer}
use Rattle.shared_cases.specs.Grounds.{by_table, IsRightCase}
use Rattle.shared_cases.proofs.TouchLemmas.{IsTouchedNumber}

module _ (table : Table) (old new : Relations) where
  -- a case of an AS with the same role keeps its right judgement
  pub same_role_judged : (c : Option StoredCase) → ((asn : ℕ) → is_of_peer c asn ≡ true → role_of old asn ≡ role_of new asn) → IsRightCase (by_table table old) c → IsRightCase (by_table table new) c
  same_role_judged None same right = tt
  same_role_judged (Some c) same right =
      subst (λ (role : Role). IsPrinted table role c.asn c.trail c.judged.verdict c.judged.witness) (same c.asn (nat_eq_equiv.refl c.asn)) right

  -- and one of an AS with another role is touched
  pub other_role_touches : (c : Option StoredCase) (asn : ℕ) → is_of_peer c asn ≡ true → role_of old asn ≢ role_of new asn → IsTouchedNumber (by_table table old) (by_table table new) c
  other_role_touches None asn of_peer other = true≢false (sym of_peer)
  other_role_touches (Some c) asn of_peer other = inl (subst (λ (a : ℕ). role_of old a ≢ role_of new a) (exact_unsigned_eq asn c.asn of_peer) other)

-- ---- another default role
module _ (roles : Relations) (before : Role) (asn : ℕ) where
  same_or : (o : Option Role) (a b : Role) → is_some o ≡ true → unwrap_or o a ≡ unwrap_or o b
  same_or None a b own = absurd (true≢false (sym own))
  same_or (Some role) a b own = refl

  default_or : (o : Option Role) (a : Role) → is_some o ≡ false → unwrap_or o a ≡ a
  default_or None a none = refl
  default_or (Some role) a none = absurd (true≢false none)

  -- where the default is the same, all roles are
  pub same_default : before ≡ roles.default → role_of (record roles { default = before }) asn ≡ role_of roles asn
  same_default same = ap (unwrap_or (map.get roles.set asn)) same

  -- an AS with a role of its own keeps it
  pub own_role : is_some (map.get roles.set asn) ≡ true → role_of (record roles { default = before }) asn ≡ role_of roles asn
  own_role own = same_or (map.get roles.set asn) before roles.default own

  -- and any other has another one, where the default is another one
  pub other_default : is_some (map.get roles.set asn) ≡ false → before ≢ roles.default → role_of (record roles { default = before }) asn ≢ role_of roles asn
  other_default none other = λ same.
      other (sym (default_or (map.get roles.set asn) before none) ∙ same ∙ default_or (map.get roles.set asn) roles.default none)
