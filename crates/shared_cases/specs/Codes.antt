-- Codes of cases: what a Model that has them needs.
use Rattle.std.specs.Prelude.{◌≡◌, ℕ, nat_eq, Bool, true, false, List, if◌then◌else◌, refl}
use Rattle.std.specs.declared.option.Option.{Option}
use Rattle.std.specs.declared.option.Option.TheVariants.{None}
use Rattle.std.specs.Coded.{Coded, code_by, coded×, coded_ℕ, coded_bool, coded_list, coded_option}
use Rattle.path_model.specs.declared.verdict.Verdict.{Verdict}
use Rattle.path_model.specs.declared.verdict.Verdict.TheVariants.{Valid, Unknown, Invalid}
use Rattle.path_model.specs.declared.witness.Witness.{Witness}
use Rattle.path_model.specs.declared.witness.Witness.TheVariants.{Valid as ByLabelling, Empty, Set, Neighbour, Blocked, Unsettled}
use Rattle.path_model.specs.Codes.{coded_path}
use Rattle.path_model.specs.Trail.{Path}
use Rattle.ramps.specs.Judgement.{Judgement}
use Rattle.shared_cases.specs.declared.case.StoredCase.{StoredCase}
use Rattle.shared_cases.specs.Cases.{Slots}
use Rattle.shared_cases.specs.Peers.{ByPeer}

-- a verdict as two truth values
abbrev pub verdict_parts : Verdict → Bool × Bool
verdict_parts Valid = (true, true)
verdict_parts Unknown = (true, false)
verdict_parts Invalid = (false, false)

abbrev pub verdict_from : Bool → Bool → Verdict
verdict_from true true = Valid
verdict_from true false = Unknown
verdict_from false other = Invalid

pub verdict_back : (verdict : Verdict) → verdict_from (verdict_parts verdict).0 (verdict_parts verdict).1 ≡ verdict
verdict_back Valid = refl
verdict_back Unknown = refl
verdict_back Invalid = refl

abbrev pub coded_verdict : Coded Verdict
coded_verdict = code_by (Bool × Bool) (coded× coded_bool coded_bool) verdict_parts (λ p. verdict_from p.0 p.1) verdict_back

-- a witness as its kind and its numbers
abbrev pub witness_parts : Witness → ℕ × (ℕ × (Option ℕ × (ℕ × (ℕ × ℕ))))
witness_parts (ByLabelling climbs free descents) = (0, (0, (None, (climbs, (free, descents)))))
witness_parts Empty = (1, (0, (None, (0, (0, 0)))))
witness_parts Set = (2, (0, (None, (0, (0, 0)))))
witness_parts Neighbour = (3, (0, (None, (0, (0, 0)))))
witness_parts (Blocked first last) = (4, (first, (last, (0, (0, 0)))))
witness_parts (Unsettled first last climbs free descents) = (5, (first, (last, (climbs, (free, descents)))))

abbrev pub witness_from : ℕ → ℕ → Option ℕ → ℕ → ℕ → ℕ → Witness
witness_from kind first last climbs free descents =
    if nat_eq kind 0 then ByLabelling climbs free descents
    else if nat_eq kind 1 then Empty
    else if nat_eq kind 2 then Set
    else if nat_eq kind 3 then Neighbour
    else if nat_eq kind 4 then Blocked first last
    else Unsettled first last climbs free descents

abbrev pub witness_of : ℕ × (ℕ × (Option ℕ × (ℕ × (ℕ × ℕ)))) → Witness
witness_of p = witness_from p.0 p.1.0 p.1.1.0 p.1.1.1.0 p.1.1.1.1.0 p.1.1.1.1.1

pub witness_back : (witness : Witness) → witness_of (witness_parts witness) ≡ witness
witness_back (ByLabelling climbs free descents) = refl
witness_back Empty = refl
witness_back Set = refl
witness_back Neighbour = refl
witness_back (Blocked first last) = refl
witness_back (Unsettled first last climbs free descents) = refl

abbrev pub coded_witness : Coded Witness
coded_witness = code_by (ℕ × (ℕ × (Option ℕ × (ℕ × (ℕ × ℕ)))))
    (coded× coded_ℕ (coded× coded_ℕ (coded× (coded_option coded_ℕ) (coded× coded_ℕ (coded× coded_ℕ coded_ℕ)))))
    witness_parts witness_of witness_back

abbrev pub coded_judgement : Coded Judgement
coded_judgement = code_by (Verdict × Witness) (coded× coded_verdict coded_witness) (λ j. (j.verdict, j.witness))
    (λ p. record { verdict = p.0; witness = p.1 }) (λ _. refl)

abbrev pub coded_case : Coded StoredCase
coded_case = code_by (Path × (ℕ × (Judgement × (ℕ × (Verdict × (Bool × Bool))))))
    (coded× coded_path (coded× coded_ℕ (coded× coded_judgement (coded× coded_ℕ (coded× coded_verdict (coded× coded_bool coded_bool))))))
    (λ c. (c.trail, (c.users, (c.judged, (c.asn, (c.marked, (c.differed, c.own)))))))
    (λ p. record {
      trail = p.0;
      users = p.1.0;
      judged = p.1.1.0;
      asn = p.1.1.1.0;
      marked = p.1.1.1.1.0;
      differed = p.1.1.1.1.1.0;
      own = p.1.1.1.1.1.1;
    }) (λ _. refl)

abbrev pub coded_slots : Coded Slots
coded_slots = coded_list (coded_option coded_case)

abbrev pub coded_peers : Coded ByPeer
coded_peers = code_by (List (ℕ × List ℕ) × List ℕ) (coded× (coded_list (coded× coded_ℕ (coded_list coded_ℕ))) (coded_list coded_ℕ))
    (λ p. (p.members, p.defaulted)) (λ p. record { members = p.0; defaulted = p.1 }) (λ _. refl)
