-- Laws of PDUs and of their streams.
use Rattle.std.specs.Prelude.{◌≡◌, ℕ, ◌<◌, List, ◌++◌, length}
use Rattle.av_base.specs.One.{HasOnePair}
use Rattle.held_bytes.specs.Units.{AreUnits}
use Rattle.rtr_pdu.specs.declared.pdu.Pdu.{Pdu}
use Rattle.rtr_pdu.specs.declared.pdu.PduFault.{PduFault}
use Rattle.rtr_pdu.specs.Pdus.{IsFrame}
use Rattle.rtr_pdu.specs.Spelled.{spelled, IsWritable, FitsFields}
use Rattle.rtr_pdu.specs.Units.{AnswersKnown, IsPartial, IsRefused}

-- no PDU begins a different one, and no bytes are two PDUs
abbrev pub NoPduBeginsAnother : Type 0
NoPduBeginsAnother = (one other more rest : List ℕ) (p q : Pdu) → IsFrame one p → IsFrame other q → one ++ more ≡ other ++ rest → (one ≡ other) × (p ≡ q) × (more ≡ rest)

-- bytes that are refused stay refused so, whatever comes behind them
abbrev pub StaysRefused : Type 0
StaysRefused = (held more : List ℕ) (fault : PduFault) → IsRefused held fault → IsRefused (held ++ more) fault

-- what a stream begins with has one answer, and leaves one rest
abbrev pub EachStreamHasOneNext : Type 0
EachStreamHasOneNext = (held : List ℕ) → HasOnePair (AnswersKnown held)

-- each stream is exactly one list of PDUs, one behind another, and one rest that begins with none
abbrev pub EachStreamHasItsUnits : Type 0
EachStreamHasItsUnits = (stream : List ℕ) → HasOnePair (AreUnits IsFrame stream)

-- a PDU that isn't whole is shorter than the longest one
abbrev pub PartialIsShort : Type 0
PartialIsShort = (held : List ℕ) → IsPartial held → length held < 262144

-- what is written is the PDU
abbrev pub WrittenReadsBack : Type 0
WrittenReadsBack = (pdu : Pdu) → IsWritable pdu → FitsFields pdu → IsFrame (spelled pdu) pdu
