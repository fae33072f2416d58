-- Where a whole PDU is refused: only private contracts cite this.
use Rattle.std.specs.Prelude.{◌≡◌, ℕ, ◌⊎◌, List, length}
use Rattle.rtr_pdu.specs.declared.kind.Kind.{Kind}
use Rattle.rtr_pdu.specs.declared.kind.Kind.TheVariants.{Ipv4Prefix, Ipv6Prefix, ErrorReport, Aspa}
use Rattle.rtr_pdu.specs.declared.pdu.PduFault.{PduFault}
use Rattle.rtr_pdu.specs.declared.pdu.PduFault.TheVariants.{PduVersion, PduLength, PduType, NoProviders, PrefixRecord, NoMemory}
use Rattle.rtr_pdu.specs.Pdus.{HasLengths, IsReport, IsAnnounce}

-- a whole PDU of a type is refused for what is behind its header
abbrev pub IsBodyRefused : List ℕ → Kind → PduFault → Type 0
IsBodyRefused bytes kind PduVersion = ⊥
IsBodyRefused bytes kind PduLength = (kind ≡ ErrorReport) × (¬ IsReport bytes)
IsBodyRefused bytes kind PduType = ⊥
IsBodyRefused bytes kind NoProviders = (kind ≡ Aspa) × IsAnnounce bytes × (length bytes ≡ 12)
IsBodyRefused bytes kind PrefixRecord = ((kind ≡ Ipv4Prefix) × (¬ HasLengths 32 bytes)) ⊎ ((kind ≡ Ipv6Prefix) × (¬ HasLengths 128 bytes))
IsBodyRefused bytes kind NoMemory = Unit {0}
