-- For which valleys a pair is noted.
use Rattle.std.proofs.Common.{◌≡◌, ℕ, sym, ◌∙◌, subst}
use Rattle.path_model.specs.declared.role.Role.{Role}
use Rattle.path_model.specs.declared.verdict.Verdict.{Verdict}
use Rattle.path_model.specs.declared.verdict.Verdict.TheVariants.{Invalid}
use Rattle.path_model.specs.declared.witness.Witness.{Witness}
use Rattle.path_model.specs.declared.witness.Witness.TheVariants.{Valid as ByLabelling, Empty, Set, Neighbour, Blocked, Unsettled}
use Rattle.path_model.specs.Authority.{Table}
use Rattle.path_model.specs.Labelling.{direction_of}
use Rattle.path_model.specs.PrintedWitness.{IsPrinted}
use Rattle.path_model.specs.Roles.{role_of}
use Rattle.path_model.proofs.LawLemmas.{one_printed}
use Rattle.attestations.specs.ComputedTable.{table_of}
use Rattle.av_base.specs.One.{HasOnePair}
use Rattle.rib_store.specs.Pairs.{IsPaired, Paired}
use Rattle.rib_store.specs.State.{State}
use Rattle.valleys.specs.declared.valley.Valley.{Valley}
use Rattle.valleys.specs.Valleys.{HasValley}
use Rattle.listings.specs.SuspectSteps.{IsBlocked, IsNoted}
use Rattle.listings.specs.Suspects.{IsBlockedWith}
use Rattle.listings.proofs.TallyHitLemmas.{printed_here}

module _ (state : State) (p : Paired) (paired : IsPaired state p) (v : Valley) where
  abbrev here : Table
  here = table_of state.parts

  abbrev role : Role
  role = role_of state.roles p.asn

  printed : IsPrinted here role p.asn p.standing.path p.standing.verdict p.standing.witness
  printed = printed_here state p paired

  by_witness : (verdict : Verdict) (witness : Witness) → IsPrinted here role p.asn p.standing.path verdict witness → IsBlocked witness
      → HasValley here (direction_of role) p.standing.path.chain v → IsBlockedWith here state.roles v p.asn p.standing.path
  by_witness verdict Empty shown blocked has = absurd blocked
  by_witness verdict Set shown blocked has = absurd blocked
  by_witness verdict Neighbour shown blocked has = absurd blocked
  by_witness verdict (ByLabelling c f d) shown blocked has = absurd blocked
  by_witness verdict (Unsettled first last c f d) shown blocked has = absurd blocked
  by_witness verdict (Blocked first last) shown blocked has = record {
    first = first;
    last = last;
    printed = subst (λ (d : Verdict). IsPrinted here role p.asn p.standing.path d (Blocked first last)) shown.verdict_shown shown;
    has = has;
  }

  -- a pair that is noted is blocked with the valley,
  pub noted_blocked : IsNoted here p v → IsBlockedWith here state.roles v p.asn p.standing.path
  noted_blocked noted = by_witness p.standing.verdict p.standing.witness printed noted.blocked
      (subst (λ (r : Role). HasValley here (direction_of r) p.standing.path.chain v) paired.stands.role noted.has)

  -- and the other way round
  pub blocked_noted : IsBlockedWith here state.roles v p.asn p.standing.path → IsNoted here p v
  blocked_noted is =
      let one : HasOnePair (IsPrinted here role p.asn p.standing.path) = one_printed here role p.asn p.standing.path in
      let same : p.standing.witness ≡ Blocked is.first is.last = (one.only p.standing.verdict p.standing.witness printed).1 ∙ sym (one.only Invalid (Blocked is.first is.last) is.printed).1 in
      record {
        blocked = subst (λ (w : Witness). IsBlocked w) (sym same) tt;
        has = subst (λ (r : Role). HasValley here (direction_of r) p.standing.path.chain v) (sym paired.stands.role) is.has;
      }
