-- What comes next in a stream.
use Rattle.std.specs.Prelude.{◌≡◌, ◌≢◌, ◌⊎◌, ℕ, ◌+◌, ◌<◌, ◌≤◌, List, [], length, None, Some, Ok, Err, IfSome}
use Rattle.std.specs.declared.option.Option.{Option}
use Rattle.std.specs.declared.result.Result.{Result}
use Rattle.held_bytes.specs.Units.{Begins, BeginsWithNone}
use Rattle.mrt_reader.specs.declared.fault.FrameFault.{FrameFault}
use Rattle.mrt_reader.specs.declared.fault.FrameFault.TheVariants as faults
use Rattle.mrt_reader.specs.declared.framer.Record.{Record}
use Rattle.mrt_reader.specs.Records.{Recorded, IsRecord, Head, head_at, limit}

-- a lent record as contracts see it
abbrev pub recorded : Record → Recorded
recorded r = record { stamp = r.stamp; kind = r.kind; subkind = r.subkind; body = r.body.now }

-- a header is there, and its length is over the limit
abbrev pub IsTooLong : List ℕ → Type 0
IsTooLong bytes = (head : Head) × (head_at bytes ≡ Some head) × (limit < head.size)

-- No whole record, and no length over the limit. So the bytes are fewer than the longest record has.
pub record IsPartial (bytes : List ℕ) : Type 0 where
  pub no_record : BeginsWithNone IsRecord bytes
  pub allowed : IfSome (head_at bytes) (λ head. head.size ≤ limit)
  pub short : length bytes < 12 + limit

-- the stamp of the record that comes next, or that no whole one does
abbrev pub IsNextStamp : List ℕ → Option ℕ → Type 0
IsNextStamp held (Some stamp) =
    (it : Recorded) × (rest : List ℕ) × Begins IsRecord held it rest × (it.stamp ≡ stamp)
IsNextStamp held None = IsPartial held ⊎ IsTooLong held

-- what the framer answers, of the bytes held before and after
abbrev pub Answers : List ℕ → List ℕ → Result (Option Record) FrameFault → Type 0
Answers old new (Ok (Some r)) = Begins IsRecord old (recorded r) new
Answers old new (Ok None) = IsPartial old × (new ≡ old)
Answers old new (Err faults.TooLong) = IsTooLong old × (new ≡ old)
Answers old new (Err faults.CutShort) = ⊥

-- What comes next in a whole stream: a record and what is behind it, a length over the limit, a record that is cut, or the end.
pub data Coming : Type 0 where
  Whole : (it : Recorded) (rest : List ℕ) → Coming
  TooLong : Coming
  CutShort : Coming
  End : Coming

abbrev pub IsComing : List ℕ → Coming → Type 0
IsComing left (Whole it rest) = Begins IsRecord left it rest
IsComing left TooLong = IsTooLong left
IsComing left CutShort = IsPartial left × (left ≢ [])
IsComing left End = left ≡ []
