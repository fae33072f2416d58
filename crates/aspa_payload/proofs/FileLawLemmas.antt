-- Each file of payloads has one reading.
use Rattle.std.proofs.Common.{◌≡◌, ℕ, zero, suc, ◌+◌, ◌<◌, ◌≤◌, ◌⊎◌, inl, inr, List, [], ◌∷◌, length, refl, sym, ap, ◌∙◌, subst, arith}
use Rattle.std.specs.declared.result.Result.{Result}
use Rattle.std.specs.declared.result.Result.TheVariants.{Ok, Err}
use Rattle.path_model.specs.Rows.{RowMap}
use Rattle.der_reader.specs.Value.{Begins}
use Rattle.der_reader.proofs.FrontLemmas.{begins_some, begins_shorter}
use Rattle.path_model.specs.Union.{Attestation}
use Rattle.aspa_payload.specs.Reading.{TakesPayload, IsRefused}
use Rattle.path_model.specs.Union.{AreUnited}
use Rattle.aspa_payload.specs.File.{ArePayloads, RefusedAt, IsFileReading}
use Rattle.av_base.specs.One.{HasOne}
use Rattle.aspa_payload.specs.Laws.{EachFileHasOneReading}
use Rattle.aspa_payload.specs.declared.file.FileFault.{FileFault}
use Rattle.aspa_payload.specs.declared.file.FileFault.TheVariants.{Bad, NoMemory as OutOfMemory}
use Rattle.aspa_payload.specs.declared.fault.PayloadFault.{PayloadFault}
use Rattle.aspa_payload.proofs.OneLemmas.{one_payload, unit_once, one_unit_refused}
use Rattle.path_model.proofs.UnionLawLemmas.{one_union, some_union}
use Rattle.aspa_payload.proofs.DecideLemmas.{SomeUnit, some_unit}

-- ---- not more than one

taken_some : (bytes : List ℕ) (a : Attestation) (rest : List ℕ) → TakesPayload bytes a rest → bytes ≡ [] → ⊥
taken_some bytes a rest t none = begins_some 48 bytes t.content rest t.begins none

one_list : (bytes : List ℕ) (us vs : List Attestation) → ArePayloads bytes us [] → ArePayloads bytes vs [] → us ≡ vs
one_list bytes [] [] s t = refl
one_list bytes [] (v ∷ vs) s t = absurd (taken_some bytes v t.0 t.1 s)
one_list bytes (u ∷ us) [] s t = absurd (taken_some bytes u s.0 s.1 t)
one_list bytes (u ∷ us) (v ∷ vs) s t =
    let same = one_payload bytes u v s.0 t.0 s.1 t.1 in
    let more = one_list t.0 us vs (subst (λ (r : List ℕ). ArePayloads r us []) same.1 s.2) t.2 in
    λ i. same.0 i ∷ more i

whole_or_refused : (bytes : List ℕ) (us vs : List Attestation) (rest : List ℕ) (f : PayloadFault) → ArePayloads bytes us []
    → ArePayloads bytes vs rest → (rest ≡ [] → ⊥) → IsRefused (Begins 48 rest) f → ⊥
whole_or_refused bytes [] [] rest f s t some h = some (sym t ∙ s)
whole_or_refused bytes [] (v ∷ vs) rest f s t some h = taken_some bytes v t.0 t.1 s
whole_or_refused bytes (u ∷ us) [] rest f s t some h = unit_once rest u s.0 f (subst (λ (b : List ℕ). TakesPayload b u s.0) t s.1) h
whole_or_refused bytes (u ∷ us) (v ∷ vs) rest f s t some h =
    let same = one_payload bytes u v s.0 t.0 s.1 t.1 in
    whole_or_refused t.0 us vs rest f (subst (λ (r : List ℕ). ArePayloads r us []) same.1 s.2) t.2 some h

one_place : (bytes : List ℕ) (us vs : List Attestation) (x y : List ℕ) (f g : PayloadFault) → ArePayloads bytes us x
    → ArePayloads bytes vs y → IsRefused (Begins 48 x) f → IsRefused (Begins 48 y) g
    → (length us ≡ length vs) × (f ≡ g)
one_place bytes [] [] x y f g s t h k = (refl, one_unit_refused y f g (subst (λ (r : List ℕ). IsRefused (Begins 48 r) f) (sym s ∙ t) h) k)
one_place bytes [] (v ∷ vs) x y f g s t h k = absurd (unit_once x v t.0 f (subst (λ (b : List ℕ). TakesPayload b v t.0) s t.1) h)
one_place bytes (u ∷ us) [] x y f g s t h k = absurd (unit_once y u s.0 g (subst (λ (b : List ℕ). TakesPayload b u s.0) t s.1) k)
one_place bytes (u ∷ us) (v ∷ vs) x y f g s t h k =
    let same = one_payload bytes u v s.0 t.0 s.1 t.1 in
    let more = one_place t.0 us vs x y f g (subst (λ (r : List ℕ). ArePayloads r us x) same.1 s.2) t.2 h k in
    (ap suc more.0, more.1)

one_reading : (bytes : List ℕ) (r s : Result RowMap FileFault) → IsFileReading bytes r → IsFileReading bytes s → r ≡ s
one_reading bytes (Ok rows) (Ok others) h k =
    let same = one_list bytes h.attestations k.attestations h.whole k.whole in
    ap Ok (one_union k.attestations rows others (subst (λ (us : List Attestation). AreUnited us rows) same h.united) k.united)
one_reading bytes (Ok rows) (Err (Bad v g)) h k = absurd (whole_or_refused bytes h.attestations k.before k.rest g h.whole k.good k.some k.refused)
one_reading bytes (Err (Bad u f)) (Ok others) h k = absurd (whole_or_refused bytes k.attestations h.before h.rest f k.whole h.good h.some h.refused)
one_reading bytes (Err (Bad u f)) (Err (Bad v g)) h k =
    let same = one_place bytes h.before k.before h.rest k.rest f g h.good k.good h.refused k.refused in
    let place : u ≡ v = h.number ∙ ap (λ (n : ℕ). n + 1) same.0 ∙ sym k.number in
    λ i. Err (Bad (place i) (same.1 i))
one_reading bytes (Ok rows) (Err OutOfMemory) h k = absurd k
one_reading bytes (Err (Bad u f)) (Err OutOfMemory) h k = absurd k
one_reading bytes (Err OutOfMemory) s h k = absurd h

-- ---- at least one

abbrev SomeFile : List ℕ → Type 0
SomeFile bytes = ((us : List Attestation) × ArePayloads bytes us []) ⊎ ((unit : ℕ) × ((f : PayloadFault) × RefusedAt bytes unit f))

file_next : (bytes rest : List ℕ) (a : Attestation) → TakesPayload bytes a rest → SomeFile rest → SomeFile bytes
file_next bytes rest a taken (inl more) = inl (a ∷ more.0, (rest, taken, more.1))
file_next bytes rest a taken (inr r) = inr (
  r.0 + 1,
  (
    r.1.0,
    record {
      before = a ∷ r.1.1.before;
      rest = r.1.1.rest;
      good = (rest, taken, r.1.1.good);
      some = r.1.1.some;
      number = omega (arith, r.1.1.number);
      refused = r.1.1.refused;
    },
  ),
)

file_first : (k : ℕ) (bytes : List ℕ) → length bytes ≤ suc k → (bytes ≡ [] → ⊥)
    → ((rest : List ℕ) → length rest ≤ k → SomeFile rest) → SomeUnit bytes → SomeFile bytes
file_first k bytes h some more (inl t) =
    let shorter : length t.0.1 < length bytes = begins_shorter 48 bytes t.1.content t.0.1 t.1.begins in
    file_next bytes t.0.1 t.0.0 t.1 (more t.0.1 (omega arith))
file_first k bytes h some more (inr r) = inr (1, (r.0, record { before = []; rest = bytes; good = refl; some = some; number = refl; refused = r.1 }))

file_within : (k : ℕ) (bytes : List ℕ) → length bytes ≤ k → SomeFile bytes
file_within k [] h = inl ([], refl)
file_within zero (b ∷ bs) h = absurd (omega arith)
file_within (suc k) (b ∷ bs) h =
    file_first k (b ∷ bs) h (λ e. let zero : suc (length bs) ≡ 0 = ap (λ (ys : List ℕ). length ys) e in omega arith) (file_within k) (some_unit (b ∷ bs))

-- the reading that there is, and no other
only_reading : (bytes : List ℕ) (r : Result RowMap FileFault) → IsFileReading bytes r → HasOne (IsFileReading bytes)
only_reading bytes r h = record { one = r; is = h; only = λ s k. one_reading bytes s r k h }

file_reading : (bytes : List ℕ) → SomeFile bytes → HasOne (IsFileReading bytes)
file_reading bytes (inl f) = let u = some_union f.0 in only_reading bytes (Ok u.0) (record { attestations = f.0; whole = f.1; united = u.1 })
file_reading bytes (inr r) = only_reading bytes (Err (Bad r.0 r.1.0)) r.1.1

pub each_file : EachFileHasOneReading
each_file bytes = file_reading bytes (file_within (length bytes) bytes (omega arith))
