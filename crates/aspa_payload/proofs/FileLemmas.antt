-- A file of payloads, of which some are read.
use Rattle.std.proofs.Common.{◌≡◌, ℕ, ◌+◌, ◌≤◌, List, [], ◌∷◌, ◌++◌, length, refl, sym, subst, arith, length-append}
use Rattle.std.specs.FinMap as map
use Rattle.path_model.specs.Rows.{RowMap, AreSetsOf, row_or_empty}
use Rattle.der_reader.specs.Value.{Begins}
use Rattle.der_reader.proofs.FrontLemmas.{begins_shorter}
use Rattle.path_model.specs.Union.{Attestation}
use Rattle.aspa_payload.specs.Reading.{TakesPayload, IsRefused}
use Rattle.aspa_payload.specs.Answers.{MemoryOr}
use Rattle.aspa_payload.specs.File.{ArePayloads, IsPayloadFile, IsFileReading, FileAnswers, IsOfUnit}
use Rattle.aspa_payload.specs.declared.file.FileFault.{FileFault}
use Rattle.aspa_payload.specs.declared.file.FileFault.TheVariants.{Bad, NoMemory as OutOfMemory}
use Rattle.aspa_payload.specs.declared.fault.PayloadFault.{PayloadFault}
use Rattle.aspa_payload.proofs.AnswerLemmas.{due}
use Rattle.path_model.proofs.UnionLemmas.{IsGathered, gathered_start, gathered_next, united_by}
use Rattle.std.specs.declared.result.Result.TheVariants.{Err}

pub record Reading (bytes rest : List ℕ) (gathered : RowMap) (unit : ℕ) : Type 0 where
  pub before : List Attestation
  pub good : ArePayloads bytes before rest
  pub is : IsGathered before gathered
  pub number : unit ≡ length before
  pub fits : unit + length rest ≤ length bytes

payloads_push : (bytes rest after : List ℕ) (before : List Attestation) (a : Attestation) → ArePayloads bytes before rest
    → TakesPayload rest a after → ArePayloads bytes (before ++ a ∷ []) after
payloads_push bytes rest after [] a good taken = (after, subst (λ (b : List ℕ). TakesPayload b a after) (sym good) taken, refl)
payloads_push bytes rest after (b ∷ before) a good taken = (good.0, good.1, payloads_push good.0 rest after before a good.2 taken)

pub reading_start : (bytes : List ℕ) (gathered : RowMap) → gathered ≡ map.empty → Reading bytes bytes gathered 0
reading_start bytes gathered e = record { before = []; good = refl; is = gathered_start gathered e; number = refl; fits = omega arith }

pub reading_next : (bytes rest after : List ℕ) (gathered now : RowMap) (unit : ℕ) (a : Attestation)
    → Reading bytes rest gathered unit → TakesPayload rest a after
    → now ≡ map.insert gathered a.customer (row_or_empty (map.get gathered a.customer) ++ a.providers)
    → Reading bytes after now (unit + 1)
reading_next bytes rest after gathered now unit a r taken e =
    let shorter = begins_shorter 48 rest taken.content after taken.begins in
    record {
      before = r.before ++ a ∷ [];
      good = payloads_push bytes rest after r.before a r.good taken;
      is = gathered_next r.before a gathered now r.is e;
      number = rw length-append (omega (arith, r.number));
      fits = omega (arith, r.fits);
    }

pub reading_end : (bytes rest : List ℕ) (gathered rows : RowMap) (unit : ℕ) → Reading bytes rest gathered unit → rest ≡ []
    → AreSetsOf gathered rows → IsPayloadFile bytes rows
reading_end bytes rest gathered rows unit r end sets = record {
  attestations = r.before;
  whole = subst (ArePayloads bytes r.before) end r.good;
  united = united_by r.before gathered rows r.is sets;
}

-- ---- refused units

pub reading_refused : (bytes rest : List ℕ) (gathered : RowMap) (unit : ℕ) (cause : PayloadFault) (fault : FileFault)
    → Reading bytes rest gathered unit → (rest ≡ [] → ⊥) → MemoryOr cause (IsRefused (Begins 48 rest) cause)
    → IsOfUnit (unit + 1) cause fault → FileAnswers (IsFileReading bytes) (Err fault)
reading_refused bytes rest gathered unit cause (Bad n c) r some refused of = record {
  before = r.before;
  rest = rest;
  good = r.good;
  some = some;
  number = omega (arith, of.0, r.number);
  refused = subst (IsRefused (Begins 48 rest)) (sym of.1) (due cause _ of.2 refused);
}
reading_refused bytes rest gathered unit cause OutOfMemory r some refused of = tt

pub same_insert : (rows : RowMap) (x y : ℕ) (ps qs : List ℕ) → x ≡ y → ps ≡ qs
    → map.insert rows x (row_or_empty (map.get rows x) ++ ps) ≡ map.insert rows y (row_or_empty (map.get rows y) ++ qs)
same_insert rows x y ps qs e f = λ i. map.insert rows (e i) (row_or_empty (map.get rows (e i)) ++ f i)
