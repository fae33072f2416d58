-- What a fault of a part says of the whole.
use Rattle.std.proofs.Common.{◌≡◌, List, Option, Some, None, refl}
use Rattle.std.specs.declared.result.Result.{Result}
use Rattle.std.specs.declared.result.Result.TheVariants.{Ok, Err}
use Rattle.attestations.specs.Terms.{TermMap}
use Rattle.origin_model.specs.Vrp.{Payload}
use Rattle.aspa_payload.proofs.AttestedLemmas.{some_attested}
use Rattle.json_fields.specs.Each.{Each, IfThere}
use Rattle.slurm_rules.specs.Answers.{Misses as SlurmMisses}
use Rattle.slurm_rules.specs.Form.{PrefixAssertionText}
use Rattle.slurm_rules.specs.Numbers.{ArePrefixAssertions}
use Rattle.slurm_rules.specs.declared.fault.SlurmFault.{SlurmFault}
use Rattle.slurm_rules.specs.declared.fault.SlurmFault.TheVariants.{PrefixText, Json as SlurmJson, Version as SlurmVersion, Member as SlurmMember, Number as SlurmNumber, NoMemory as SlurmMemory}
use Rattle.validated.specs.Answers.{Finds, Misses, of_slurm}
use Rattle.validated.specs.Content.{AreAttestations, ArePayloads, Asserts, ContentIs, PayloadsAre, RecordsAre}
use Rattle.validated.specs.Form.{Form, Roa}
use Rattle.validated.specs.declared.fault.ValidatedFault.{ValidatedFault}
use Rattle.validated.specs.declared.fault.ValidatedFault.TheVariants.{Json, Member, Number, Prefix, NoMemory}
use Rattle.validated.proofs.ContentLemmas.{no_payloads}

no_other : {P : Type 0} (one other : ValidatedFault) → one ≡ other → (one ≡ other → ⊥) → P
no_other one other same not = absurd (not same)

-- what a part doesn't have, the whole doesn't have
pub misses_by : {A B : Type 0} (cause : ValidatedFault) (P : A → Type 0) (Q : B → Type 0) (fault : ValidatedFault)
    → (((a : A) → P a → ⊥) → (b : B) → Q b → ⊥) → Misses cause fault P → Misses cause fault Q
misses_by cause P Q NoMemory f h = tt
misses_by cause P Q Json f h = (h.0, f h.1)
misses_by cause P Q Member f h = (h.0, f h.1)
misses_by cause P Q Number f h = (h.0, f h.1)
misses_by cause P Q Prefix f h = (h.0, f h.1)

pub no_attestations : (form : Form) (fault : ValidatedFault) → Misses Number fault (AreAttestations form.aspas) → ContentIs form (Err fault)
no_attestations form NoMemory h = tt
no_attestations form Number h = λ has. let terms = some_attested has.units in h.1 terms.0 (record { units = has.units; each = has.attest; attested = terms.1 })
no_attestations form Json h = no_other Json Number h.0 (λ e. let never : ⊥ = cc in never)
no_attestations form Member h = no_other Member Number h.0 (λ e. let never : ⊥ = cc in never)
no_attestations form Prefix h = no_other Prefix Number h.0 (λ e. let never : ⊥ = cc in never)

pub no_records : (form : Form) (terms : TermMap) → AreAttestations form.aspas terms → (fault : ValidatedFault) → RecordsAre form.roas (Err fault) → ContentIs form (Err fault)
no_records form terms are NoMemory h = tt
no_records form terms are Number h = λ has. h has.assertions has.assert_
no_records form terms are Prefix h = (record { units = are.units; attest = are.each; assertions = h.0.0; assert_ = h.0.1 }, λ v is. h.1 v.payloads is.payloads)
no_records form terms are Json h = absurd h
no_records form terms are Member h = absurd h

never_there : {D A : Type 0} (R : D → A → Type 0) (d : D) → ((a : A) → R d a → ⊥) → (o : Option A) → IfThere R (Some d) o → ⊥
never_there R d none None h = h
never_there R d none (Some a) h = none a h

pub records_missed : (roas : List Roa) (fault : ValidatedFault) → PayloadsAre roas (Err fault) → RecordsAre (Some roas) (Err fault)
records_missed roas NoMemory h = tt
records_missed roas Number h = never_there (Each Asserts) roas h
records_missed roas Prefix h = ((Some h.0.0, h.0.1), never_there ArePayloads roas h.1)
records_missed roas Json h = h
records_missed roas Member h = h

pub no_assertions : (roas : List Roa) (fault : ValidatedFault) → Misses Number fault (Each Asserts roas) → PayloadsAre roas (Err fault)
no_assertions roas NoMemory h = tt
no_assertions roas Number h = h.1
no_assertions roas Json h = no_other Json Number h.0 (λ e. let never : ⊥ = cc in never)
no_assertions roas Member h = no_other Member Number h.0 (λ e. let never : ⊥ = cc in never)
no_assertions roas Prefix h = no_other Prefix Number h.0 (λ e. let never : ⊥ = cc in never)

pub payloads_are : (roas : List Roa) (xs : List PrefixAssertionText) → Each Asserts roas xs → (r : Result (List Payload) ValidatedFault)
    → Finds Prefix r (ArePrefixAssertions xs) → PayloadsAre roas r
payloads_are roas xs each (Ok set) h = record { assertions = xs; each = each; asserted = h }
payloads_are roas xs each (Err NoMemory) h = tt
payloads_are roas xs each (Err Prefix) h = ((xs, each), no_payloads roas xs each h.1)
payloads_are roas xs each (Err Json) h = no_other Json Prefix h.0 (λ e. let never : ⊥ = cc in never)
payloads_are roas xs each (Err Member) h = no_other Member Prefix h.0 (λ e. let never : ⊥ = cc in never)
payloads_are roas xs each (Err Number) h = no_other Number Prefix h.0 (λ e. let never : ⊥ = cc in never)

-- what the fault of another reader says
pub slurm_missed : {A : Type 0} (P : A → Type 0) (fault : SlurmFault) → SlurmMisses PrefixText fault P → Misses Prefix (of_slurm fault) P
slurm_missed P SlurmMemory h = tt
slurm_missed P PrefixText h = (refl, h.1)
slurm_missed P SlurmJson h = (refl, h.1)
slurm_missed P SlurmVersion h = (refl, h.1)
slurm_missed P SlurmMember h = (refl, h.1)
slurm_missed P SlurmNumber h = (refl, h.1)
