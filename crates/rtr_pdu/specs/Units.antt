-- What a stream begins with: a PDU, one that isn't whole yet, or one that is refused.
use Rattle.std.specs.Prelude.{cond, nat_eq, ◌≡◌, ◌≢◌, ℕ, ◌<◌, ◌≤◌, ◌⊎◌, List, ◌++◌, length, slice_index}
use Rattle.std.specs.declared.option.Option.{Option}
use Rattle.std.specs.declared.option.Option.TheVariants.{Some, None}
use Rattle.std.specs.declared.result.Result.{Result}
use Rattle.std.specs.declared.result.Result.TheVariants.{Ok, Err}
use Rattle.rtr_pdu.specs.declared.kind.Kind.{Kind}
use Rattle.rtr_pdu.specs.declared.kind.Kind.TheVariants.{Ipv4Prefix, Ipv6Prefix, ErrorReport, Aspa}
use Rattle.rtr_pdu.specs.declared.pdu.Pdu.{Pdu}
use Rattle.rtr_pdu.specs.declared.pdu.PduFault.{PduFault}
use Rattle.rtr_pdu.specs.declared.pdu.PduFault.TheVariants.{PduVersion, PduLength, PduType, NoProviders, PrefixRecord, NoMemory}
use Rattle.rtr_pdu.specs.Pdus.{IsHeader, HasLengths, IsReport, IsAnnounce, IsAnyLength, FitsLength, IsFrame, code_of, length_in}

-- no header is held yet, or it is allowed and the PDU isn't whole
abbrev pub IsPartial : List ℕ → Type 0
IsPartial held = (length held < 8) ⊎ ((kind : Kind) × (len : ℕ) × IsHeader held kind len × (length held < len))

-- a header of version 2 is held
pub record HasVersion (held : List ℕ) : Type 0 where
  pub long : 8 ≤ length held
  pub version : slice_index held 0 ≡ 2

-- a whole PDU of this type is held, as far as its header tells
pub record HasWhole (held : List ℕ) (kind : Kind) : Type 0 where
  pub bytes : List ℕ
  pub rest : List ℕ
  pub whole : held ≡ bytes ++ rest
  pub header : IsHeader bytes kind (length bytes)

-- its length is allowed for no PDU, or not for its type
abbrev pub HasWrongLength : List ℕ → Type 0
HasWrongLength held = HasVersion held × ((¬ IsAnyLength (length_in held)) ⊎ ((kind : Kind) × (slice_index held 1 ≡ code_of kind) × (¬ FitsLength kind (length_in held))))

-- a whole prefix PDU of this type is held, and its lengths don't go together
abbrev pub HasWrongRecord : List ℕ → Kind → ℕ → Type 0
HasWrongRecord held kind bits = (unit : HasWhole held kind) × (¬ HasLengths bits unit.bytes)

-- where each refusal comes; at most one does, but for want of memory
abbrev pub IsRefused : List ℕ → PduFault → Type 0
IsRefused held PduVersion = (8 ≤ length held) × (slice_index held 0 ≢ 2)
IsRefused held PduLength = HasWrongLength held ⊎ ((unit : HasWhole held ErrorReport) × (¬ IsReport unit.bytes))
IsRefused held PduType = HasVersion held × IsAnyLength (length_in held) × ((kind : Kind) → slice_index held 1 ≢ code_of kind)
IsRefused held NoProviders = (unit : HasWhole held Aspa) × IsAnnounce unit.bytes × (length unit.bytes ≡ 12)
IsRefused held PrefixRecord = HasWrongRecord held Ipv4Prefix 32 ⊎ HasWrongRecord held Ipv6Prefix 128
IsRefused held NoMemory = Unit {0}

-- the first unit is taken off; what is partial or refused stays held
abbrev pub Answers : List ℕ → List ℕ → Result (Option Pdu) PduFault → Type 0
Answers old new (Ok None) = IsPartial old × (new ≡ old)
Answers old new (Ok (Some pdu)) = (bytes : List ℕ) × (old ≡ bytes ++ new) × IsFrame bytes pdu
Answers old new (Err fault) = IsRefused old fault × (new ≡ old)

-- the answer, beside want of memory
abbrev pub AnswersKnown : List ℕ → List ℕ → Result (Option Pdu) PduFault → Type 0
AnswersKnown old new answer = (answer ≢ Err NoMemory) × Answers old new answer

-- what is held begins with a refused PDU
pub record IsRefusedNow (held : List ℕ) : Type 0 where
  pub fault : PduFault
  pub known : fault ≢ NoMemory
  pub refused : IsRefused held fault

-- the code of an error report on a refusal (draft-ietf-sidrops-8210bis, section 12)
abbrev pub code_for : PduFault → ℕ
code_for PduVersion = 8
code_for PduLength = 0
code_for PduType = 5
code_for NoProviders = 0
code_for PrefixRecord = 0
code_for NoMemory = 0

-- no report is sent on an error report
abbrev pub code_on_refusal : List ℕ → PduFault → Option ℕ
code_on_refusal held fault = cond (nat_eq (slice_index held 1) 10) None (Some (code_for fault))

-- the code that a refused PDU is answered with, whichever refusal it is
abbrev pub IsReportFor : List ℕ → Option ℕ → Type 0
IsReportFor held code = (fault : PduFault) → fault ≢ NoMemory → IsRefused held fault → code ≡ code_on_refusal held fault
