-- Assertions, of which some are gathered.
use Rattle.std.proofs.Common.{◌≡◌, ℕ, ◌+◌, ◌<◌, List, [], ◌∷◌, ◌++◌, length, get_or, take, map, ap, ◌≤◌, ◌∙◌, subst, add-one}
use Rattle.std.proofs.lemmas.List.{take_all}
use Rattle.std.specs.FinMap as map
use Rattle.path_model.specs.Rows.{RowMap, AreSetsOf, row_or_empty}
use Rattle.path_model.specs.Union.{Attestation}
use Rattle.path_model.proofs.UnionLemmas.{IsGathered, gathered_start, gathered_next, united_by}
use Rattle.json_fields.specs.Each.{Each}
use Rattle.slurm_rules.specs.Form.{assertion_view}
use Rattle.slurm_rules.specs.Numbers.{Attests, AreAssertions}
use Rattle.slurm_rules.specs.declared.draft.DraftAssertion.{DraftAssertion}
use Rattle.json_fields.proofs.EachLemmas.{each_next}

-- what the first assertions attest is gathered
pub record Gathering (assertions : List DraftAssertion) (i : ℕ) (gathered : RowMap) : Type 0 where
  pub attestations : List Attestation
  pub each : Each Attests (map assertion_view (take i assertions)) attestations
  pub is : IsGathered attestations gathered

pub gathering_start : (assertions : List DraftAssertion) (gathered : RowMap) → gathered ≡ map.empty
    → Gathering assertions 0 gathered
gathering_start assertions gathered e = record { attestations = []; each = tt; is = gathered_start gathered e }

same_insert : (rows : RowMap) (x : ℕ) (ps qs : List ℕ) → ps ≡ qs
    → map.insert rows x (row_or_empty (map.get rows x) ++ ps) ≡ map.insert rows x (row_or_empty (map.get rows x) ++ qs)
same_insert rows x ps qs e = ap (λ (xs : List ℕ). map.insert rows x (row_or_empty (map.get rows x) ++ xs)) e

pub gathering_next : (assertions : List DraftAssertion) (i : ℕ) (assertion : DraftAssertion) (gathered new : RowMap) (a : Attestation)
    → i < length assertions → assertion ≡ get_or assertions i assertion
    → Gathering assertions i gathered → Attests (assertion_view assertion) a → (given : List ℕ) → given ≡ a.providers
    → new ≡ map.insert gathered a.customer (row_or_empty (map.get gathered a.customer) ++ given)
    → Gathering assertions (i + 1) new
gathering_next assertions i assertion gathered new a h at g attests given same e = record {
  attestations = g.attestations ++ a ∷ [];
  each = rw add-one (each_next Attests assertion_view assertions i assertion g.attestations a h g.each (subst (λ (d : DraftAssertion). Attests (assertion_view d) a) at attests));
  is = gathered_next g.attestations a gathered new g.is (e ∙ same_insert gathered a.customer given a.providers same);
}

pub gathering_end : (assertions : List DraftAssertion) (gathered rows : RowMap) (i : ℕ) → length assertions ≤ i
    → Gathering assertions i gathered → AreSetsOf gathered rows → AreAssertions (map assertion_view assertions) rows
gathering_end assertions gathered rows i all g sets = record {
  attestations = g.attestations;
  each = subst (λ (ds : List DraftAssertion). Each Attests (map assertion_view ds) g.attestations) (take_all i assertions all) g.each;
  united = united_by g.attestations gathered rows g.is sets;
}
