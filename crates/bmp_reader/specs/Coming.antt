-- What comes next in a stream.
use Rattle.std.specs.Prelude.{◌≡◌, ◌≢◌, ℕ, ◌<◌, ◌⊎◌, List, [], ◌∷◌, ◌++◌, length, None, Some, Ok, Err}
use Rattle.std.specs.declared.option.Option.{Option}
use Rattle.std.specs.declared.result.Result.{Result}
use Rattle.held_bytes.specs.Units.{Begins, BeginsWithNone}
use Rattle.bmp_reader.specs.declared.fault.BmpFrameFault.{BmpFrameFault}
use Rattle.bmp_reader.specs.declared.fault.BmpFrameFault.TheVariants as faults
use Rattle.bmp_reader.specs.declared.framer.Message.{Message}
use Rattle.bgp_attrs.specs.Fixed.{SpellsFour}
use Rattle.bmp_reader.specs.Messages.{Sent, IsMessage, limit}

-- a lent message as contracts see it
abbrev pub sent : Message → Sent
sent m = record { kind = m.kind; body = m.body.now }

-- A byte is held, and the version isn't 3.
pub record IsOtherVersion (bytes : List ℕ) : Type 0 where
  pub version : ℕ
  pub rest : List ℕ
  pub other : version ≢ 3
  pub whole : bytes ≡ version ∷ rest

-- The version is 3 and the header is there, and its length is less than a header's or over the limit.
pub record IsBadLength (bytes : List ℕ) : Type 0 where
  pub size : List ℕ
  pub kind : ℕ
  pub rest : List ℕ
  pub count : ℕ
  pub counts : SpellsFour size count
  pub beyond : (count < 6) ⊎ (limit < count)
  pub whole : bytes ≡ 3 ∷ (size ++ (kind ∷ rest))

-- No whole message, no other version and no bad length. So the bytes are fewer than the longest message has.
pub record IsPartial (bytes : List ℕ) : Type 0 where
  pub no_message : BeginsWithNone IsMessage bytes
  pub no_other : IsOtherVersion bytes → ⊥
  pub no_bad : IsBadLength bytes → ⊥
  pub short : length bytes < limit

-- what the framer answers, of the bytes held before and after
abbrev pub Answers : List ℕ → List ℕ → Result (Option Message) BmpFrameFault → Type 0
Answers old new (Ok (Some m)) = Begins IsMessage old (sent m) new
Answers old new (Ok None) = IsPartial old × (new ≡ old)
Answers old new (Err faults.BmpVersion) = IsOtherVersion old × (new ≡ old)
Answers old new (Err faults.BmpLength) = IsBadLength old × (new ≡ old)
Answers old new (Err faults.CutShort) = ⊥

-- What comes next in a whole stream: a message and what is behind it, another version, a bad length, a message that is cut, or the end.
pub data Coming : Type 0 where
  Whole : (it : Sent) (rest : List ℕ) → Coming
  OtherVersion : Coming
  BadLength : Coming
  CutShort : Coming
  End : Coming

abbrev pub IsComing : List ℕ → Coming → Type 0
IsComing left (Whole it rest) = Begins IsMessage left it rest
IsComing left OtherVersion = IsOtherVersion left
IsComing left BadLength = IsBadLength left
IsComing left CutShort = IsPartial left × (left ≢ [])
IsComing left End = left ≡ []
