-- What a client's session keeps.
use Rattle.std.specs.Prelude.{◌≡◌, ℕ, nat_eq, Bool, cond, List, [], refl}
use Rattle.std.specs.FinMap as map
use Rattle.std.specs.Coded.{Coded, code_by, coded×, coded_ℕ, coded_bool, coded_list, coded_option}
use Rattle.path_model.specs.Codes.{coded_subnet}
use Rattle.path_model.specs.Prefix.{Subnet}
use Rattle.path_model.specs.Rows.{RowMap, PatchMap}
use Rattle.origin_model.specs.Vrp.{Payload}
use Rattle.rtr_session.specs.declared.act.Phase.{Phase}
use Rattle.rtr_session.specs.declared.act.Phase.TheVariants.{Fresh, AskedWhole, AskedChanges, ReceivingWhole, ReceivingChanges, Ready, Over}

-- The phase; the session and the serial of the last End of Data, and while an answer is received its session; the rows of the
-- last End of Data, and while an answer is received the pending rows; for each customer that the answer named so far its pending
-- row, or none; the payloads of the last End of Data, and while an answer is received the pending ones, in their order; and the payloads
-- that the answer named so far, in their order, each with whether it was announced last. What was kept before an answer needs no place
-- beside what is pending: an answer that isn't ended leaves the session over.
pub record State : Type 0 where
  pub phase : Phase
  pub session : ℕ
  pub serial : ℕ
  pub rows : RowMap
  pub changes : PatchMap
  pub payloads : List Payload
  pub payload_changes : List (Payload × Bool)

-- before anything was asked
abbrev pub fresh : State
fresh = record { phase = Fresh; session = 0; serial = 0; rows = map.empty; changes = map.empty; payloads = []; payload_changes = [] }

-- ---- codes, which a Model with finite maps needs

abbrev pub phase_number : Phase → ℕ
phase_number Fresh = 0
phase_number AskedWhole = 1
phase_number AskedChanges = 2
phase_number ReceivingWhole = 3
phase_number ReceivingChanges = 4
phase_number Ready = 5
phase_number Over = 6

abbrev pub phase_from : ℕ → Phase
phase_from n =
    cond (nat_eq n 0) Fresh (cond (nat_eq n 1) AskedWhole (cond (nat_eq n 2) AskedChanges (cond (nat_eq n 3) ReceivingWhole (cond (nat_eq n 4) ReceivingChanges (cond (nat_eq n 5) Ready Over)))))

pub phase_back : (phase : Phase) → phase_from (phase_number phase) ≡ phase
phase_back Fresh = refl
phase_back AskedWhole = refl
phase_back AskedChanges = refl
phase_back ReceivingWhole = refl
phase_back ReceivingChanges = refl
phase_back Ready = refl
phase_back Over = refl

abbrev pub coded_phase : Coded Phase
coded_phase = code_by ℕ coded_ℕ phase_number phase_from phase_back

abbrev pub coded_rows : Coded RowMap
coded_rows = map.code coded_ℕ (coded_list coded_ℕ)

abbrev pub coded_patch : Coded PatchMap
coded_patch = map.code coded_ℕ (coded_option (coded_list coded_ℕ))

abbrev pub coded_payload : Coded Payload
coded_payload = code_by (Subnet × (ℕ × ℕ)) (coded× coded_subnet (coded× coded_ℕ coded_ℕ)) (λ v. (v.prefix, (v.max, v.asn))) (λ p. record { prefix = p.0; max = p.1.0; asn = p.1.1 }) (λ _. refl)

abbrev pub coded_payload_changes : Coded (List (Payload × Bool))
coded_payload_changes = coded_list (coded× coded_payload coded_bool)

abbrev pub coded_state : Coded State
coded_state =
    code_by (Phase × (ℕ × (ℕ × (RowMap × (PatchMap × (List Payload × List (Payload × Bool)))))))
    (coded× coded_phase (coded× coded_ℕ (coded× coded_ℕ (coded× coded_rows (coded× coded_patch (coded× (coded_list coded_payload) coded_payload_changes))))))
    (λ s. (s.phase, (s.session, (s.serial, (s.rows, (s.changes, (s.payloads, s.payload_changes)))))))
    (λ p. record { phase = p.0; session = p.1.0; serial = p.1.1.0; rows = p.1.1.1.0; changes = p.1.1.1.1.0; payloads = p.1.1.1.1.1.0; payload_changes = p.1.1.1.1.1.1 }) (λ _. refl)
