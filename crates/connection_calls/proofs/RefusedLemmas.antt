-- The cause of a refused PDU.
use Rattle.std.proofs.Common.{◌≡◌, ◌≢◌, sym, ◌∙◌}
use Rattle.rtr_pdu.specs.declared.pdu.PduFault.{PduFault}
use Rattle.rtr_pdu.specs.declared.pdu.PduFault.TheVariants.{PduVersion as BadVersion, PduLength as BadLength, PduType as BadType, NoProviders as HasNoProviders, PrefixRecord as BadPrefix, NoMemory}
use Rattle.report_text.specs.declared.cause.Cause.{Cause}
use Rattle.connection_calls.specs.Refusals.{IsCauseOf}

-- where there is one, it wasn't want of memory
pub known_of : (fault : PduFault) (cause : Cause) → IsCauseOf fault cause → fault ≢ NoMemory
known_of BadVersion cause has is = let none : ⊥ = cc in absurd none
known_of BadLength cause has is = let none : ⊥ = cc in absurd none
known_of BadType cause has is = let none : ⊥ = cc in absurd none
known_of HasNoProviders cause has is = let none : ⊥ = cc in absurd none
known_of BadPrefix cause has is = let none : ⊥ = cc in absurd none
known_of NoMemory cause has is = absurd has

-- there is one
pub cause_unique : (fault : PduFault) (one other : Cause) → IsCauseOf fault one → IsCauseOf fault other → one ≡ other
cause_unique BadVersion one other a b = a ∙ sym b
cause_unique BadLength one other a b = a ∙ sym b
cause_unique BadType one other a b = a ∙ sym b
cause_unique HasNoProviders one other a b = a ∙ sym b
cause_unique BadPrefix one other a b = a ∙ sym b
cause_unique NoMemory one other a b = absurd a
