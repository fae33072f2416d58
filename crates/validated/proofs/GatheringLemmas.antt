-- Attestations, of which some are gathered.
use Rattle.std.proofs.Common.{◌≡◌, ℕ, ◌+◌, ◌<◌, ◌≤◌, List, [], ◌∷◌, ◌++◌, length, get_or, take, map, refl, ◌∙◌}
use Rattle.std.specs.FinMap as map
use Rattle.attestations.specs.Gathered.{AreTermsOf, TermLists, with_gathered}
use Rattle.attestations.specs.Terms.{TermMap}
use Rattle.aspa_payload.specs.declared.line.Dated.{Dated}
use Rattle.aspa_payload.proofs.AttestedLemmas.{IsGathered, attested_of, gathered_next, gathered_start, same_gathered}
use Rattle.json_fields.specs.Each.{Each}
use Rattle.json_fields.proofs.EachLemmas.{each_grown, each_whole}
use Rattle.validated.specs.Content.{AreAttestations, Attests}
use Rattle.validated.specs.Form.{aspa_view}
use Rattle.validated.specs.declared.draft.DraftAspa.{DraftAspa}

-- what the first attestations attest is gathered
pub record Gathering (aspas : List DraftAspa) (i : ℕ) (gathered : TermLists) : Type 0 where
  pub units : List Dated
  pub each : Each Attests (map aspa_view (take i aspas)) units
  pub is : IsGathered units gathered

pub gathering_start : (aspas : List DraftAspa) (gathered : TermLists) → gathered ≡ map.empty → Gathering aspas 0 gathered
gathering_start aspas gathered e = record { units = []; each = tt; is = gathered_start gathered e }

pub gathering_next : (aspas : List DraftAspa) (i : ℕ) (aspa : DraftAspa) (old new : TermLists) (unit : Dated) (given : List ℕ) → i < length aspas
    → aspa ≡ get_or aspas i aspa → Gathering aspas i old → Attests (aspa_view aspa) unit → given ≡ unit.payload.providers
    → new ≡ with_gathered old unit.payload.customer (record { providers = given; until = unit.until }) → Gathering aspas (i + 1) new
gathering_next aspas i aspa old new unit given h at g attests same e = record {
  units = g.units ++ unit ∷ [];
  each = each_grown Attests aspa_view aspas i aspa g.units (g.units ++ unit ∷ []) unit h at g.each attests refl;
  is = gathered_next g.units unit old new g.is (e ∙ same_gathered old unit unit.payload.customer given refl same);
}

pub gathering_end : (aspas : List DraftAspa) (gathered : TermLists) (terms : TermMap) (i : ℕ) → length aspas ≤ i → Gathering aspas i gathered
    → AreTermsOf gathered terms → AreAttestations (map aspa_view aspas) terms
gathering_end aspas gathered terms i all g sets = record {
  units = g.units;
  each = each_whole Attests aspa_view aspas i g.units all g.each;
  attested = attested_of g.units gathered terms g.is sets;
}
