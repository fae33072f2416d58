-- The messages of a stream: some, and no others.
use Rattle.std.proofs.Common.{inl, inr, ℕ, List, length, ap, arith}
use Rattle.av_base.specs.One.{HasOnePair}
use Rattle.held_bytes.proofs.UnitLemmas.{one_division}
use Rattle.held_bytes.specs.Divided.{BeginsOrNot, Divides}
use Rattle.held_bytes.specs.Units.{AreUnits}
use Rattle.bmp_reader.specs.Coming.{Coming, Whole, OtherVersion, BadLength, CutShort, End, IsComing}
use Rattle.bmp_reader.specs.Messages.{IsMessage}
use Rattle.bmp_reader.proofs.LawLemmas.{not_empty, one_thing_comes}
use Rattle.bmp_reader.proofs.MessageLemmas.{not_bad, not_other, one_message}

begins_or_not : (stream : List ℕ) (coming : Coming) → IsComing stream coming → BeginsOrNot IsMessage stream
begins_or_not stream (Whole it rest) is = inl (it, rest, is)
begins_or_not stream OtherVersion is = inr (λ it rest begins. not_other stream it rest begins is)
begins_or_not stream BadLength is = inr (λ it rest begins. not_bad stream it rest begins is)
begins_or_not stream CutShort is = inr is.0.no_message
begins_or_not stream End is = inr (λ it rest begins. not_empty stream it rest begins is)

-- messages divide each stream in one way
messages_divide : Divides IsMessage
messages_divide = record {
  some = λ bytes it is. omega (arith, ap length is.whole);
  alone = one_message;
  told = λ stream. (let first = one_thing_comes stream in begins_or_not stream first.one first.is);
}

pub its_units : (stream : List ℕ) → HasOnePair (AreUnits IsMessage stream)
its_units stream = one_division IsMessage messages_divide stream
