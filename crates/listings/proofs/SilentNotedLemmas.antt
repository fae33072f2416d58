-- For which silent ASes a pair is noted.
use Rattle.std.proofs.Common.{◌≡◌, ℕ, inl, inr, List, refl, sym, ◌∙◌, subst}
use Rattle.std.specs.Cmp.{nat_cmp_total}
use Rattle.std.proofs.lemmas.Map.Lookups.{exact_unsigned}
use Rattle.path_model.specs.declared.role.Role.{Role}
use Rattle.path_model.specs.declared.verdict.Verdict.{Verdict}
use Rattle.path_model.specs.declared.verdict.Verdict.TheVariants.{Valid, Unknown, Invalid}
use Rattle.path_model.specs.Authority.{Table}
use Rattle.path_model.specs.Labelling.{direction_of}
use Rattle.path_model.specs.RightVerdict.{IsRight}
use Rattle.path_model.specs.Roles.{role_of}
use Rattle.path_model.proofs.Decide.{Decided}
use Rattle.path_model.proofs.LawLemmas.{one_right}
use Rattle.attestations.specs.ComputedTable.{table_of}
use Rattle.rib_store.specs.Pairs.{IsPaired, Paired}
use Rattle.rib_store.specs.State.{State}
use Rattle.listings.specs.Silent.{IsAsked, IsAskedBy}
use Rattle.listings.specs.SilentSteps.{IsNotedFor}
use Rattle.listings.proofs.SilentListLemmas.{silent_exact, silent_in}
use Rattle.listings.proofs.TallyHitLemmas.{printed_here}
use Rattle.listings.proofs.TallyTestLemmas.{decided_in}

module _ (state : State) (p : Paired) (paired : IsPaired state p) (asn : ℕ) where
  abbrev here : Table
  here = table_of state.parts

  abbrev role : Role
  role = role_of state.roles p.asn

  right : IsRight here role p.asn p.standing.path p.standing.verdict
  right = (printed_here state p paired).right

  -- a path of a pair that is noted asks about the AS,
  pub noted_asked : IsNotedFor here p asn → IsAskedBy here state.roles asn p.asn p.standing.path
  noted_asked noted = record {
    no_row = noted.no_row;
    unknown = subst (λ (v : Verdict). IsRight here role p.asn p.standing.path v) noted.unknown right;
    asked = subst (λ (r : Role). IsAsked (direction_of r) p.standing.path.chain asn) paired.stands.role noted.asked;
  }

  -- and the other way round
  pub asked_noted : IsAskedBy here state.roles asn p.asn p.standing.path → IsNotedFor here p asn
  asked_noted is =
      let one = one_right here role p.asn p.standing.path in
      record {
        unknown = one.only p.standing.verdict right ∙ sym (one.only Unknown is.unknown);
        no_row = is.no_row;
        asked = subst (λ (r : Role). IsAsked (direction_of r) p.standing.path.chain asn) (sym paired.stands.role) is.asked;
      }

decided_unknown : (v : Verdict) → Decided (v ≡ Unknown)
decided_unknown Valid = inr (λ same. cc)
decided_unknown Unknown = inl refl
decided_unknown Invalid = inr (λ same. cc)

-- the silent ASes of the pair's path
abbrev pub silent_of_pair : Table → Paired → List ℕ
silent_of_pair table p = silent_in table (direction_of p.standing.role) p.standing.path.chain

-- a pair is noted for an AS or isn't
pub decided_noted : (table : Table) (p : Paired) (asn : ℕ) → Decided (IsNotedFor table p asn)
decided_noted table p asn = elim (decided_unknown p.standing.verdict) [
  | inl unknown ↦ elim (decided_in nat_cmp_total exact_unsigned (silent_of_pair table p) asn) [
    | inl there ↦
        let both = (silent_exact table (direction_of p.standing.role) p.standing.path.chain asn).0 there in
        inl (record { unknown = unknown; no_row = both.0; asked = both.1 })
    | inr none ↦ inr (λ noted. none ((silent_exact table (direction_of p.standing.role) p.standing.path.chain asn).1 (noted.no_row, noted.asked)))
  ]
  | inr other ↦ inr (λ noted. other noted.unknown)
]
