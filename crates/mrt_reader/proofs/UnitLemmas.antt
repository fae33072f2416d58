-- The records of a stream: some, and no others.
use Rattle.std.proofs.Common.{inl, inr, ℕ, List, length, ap, arith}
use Rattle.std.proofs.lemmas.List.{length-append}
use Rattle.av_base.specs.One.{HasOnePair}
use Rattle.held_bytes.proofs.UnitLemmas.{one_division}
use Rattle.held_bytes.specs.Divided.{BeginsOrNot, Divides}
use Rattle.held_bytes.specs.Units.{AreUnits}
use Rattle.mrt_reader.specs.Coming.{Coming, Whole, TooLong, CutShort, End, IsComing}
use Rattle.mrt_reader.specs.Records.{IsRecord}
use Rattle.mrt_reader.proofs.LawLemmas.{not_too_long, not_empty, one_thing_comes}
use Rattle.mrt_reader.proofs.RecordLemmas.{one_record}

begins_or_not : (stream : List ℕ) (coming : Coming) → IsComing stream coming → BeginsOrNot IsRecord stream
begins_or_not stream (Whole it rest) is = inl (it, rest, is)
begins_or_not stream TooLong is = inr (λ it rest begins. not_too_long stream it rest begins is)
begins_or_not stream CutShort is = inr is.0.no_record
begins_or_not stream End is = inr (λ it rest begins. not_empty stream it rest begins is)

-- records divide each stream in one way
records_divide : Divides IsRecord
records_divide = record {
  some = λ bytes it is. omega (arith, ap length is.whole, is.twelve, length-append is.header it.body);
  alone = one_record;
  told = λ stream. (let first = one_thing_comes stream in begins_or_not stream first.one first.is);
}

pub its_units : (stream : List ℕ) → HasOnePair (AreUnits IsRecord stream)
its_units stream = one_division IsRecord records_divide stream
