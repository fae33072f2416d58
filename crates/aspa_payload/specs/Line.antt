-- A line: the base64 of one payload (RFC 4648, section 4, strict and with padding), alone or with the moment at which what it attests ends.
use Rattle.std.specs.Prelude.{◌≡◌, ℕ, ◌==◌, ◌+◌, Bool, List, [], drop, position}
use Rattle.std.specs.Borrow.{Bor}
use Rattle.std.specs.List.{before_first}
use Rattle.std.specs.Option.{option_map}
use Rattle.std.specs.declared.option.Option.{Option}
use Rattle.std.specs.declared.option.Option.TheVariants.{Some, None}
use Rattle.std.specs.declared.result.Result.{Result}
use Rattle.std.specs.declared.result.Result.TheVariants.{Ok, Err}
use Rattle.base64.specs.Engines.{standard}
use Rattle.base64.specs.GeneralPurpose.{decode_of}
use Rattle.av_text.specs.Number.{IsNumber, IsNoNumber}
use Rattle.path_model.specs.Union.{Attestation}
use Rattle.aspa_payload.specs.Reading.{TakesPayload, IsRefused, IsWhole}
use Rattle.aspa_payload.specs.declared.fault.PayloadFault.{PayloadFault}
use Rattle.aspa_payload.specs.declared.fault.PayloadFault.TheVariants.{Moment, Base64}
use Rattle.aspa_payload.specs.declared.line.Dated.{Dated}

-- ---- the text of a payload

-- the strict standard decoding of the text gives these bytes
abbrev pub Decodes : List ℕ → List ℕ → Type 0
Decodes text bytes = decode_of standard text ≡ Ok bytes

-- the text is the base64 of this payload
pub record IsTextOf (text : List ℕ) (a : Attestation) : Type 0 where
  pub bytes : List ℕ
  pub decodes : Decodes text bytes
  pub payload : TakesPayload bytes a []

-- the first rule that the text breaks: it isn't base64, or its bytes aren't exactly one payload
abbrev pub IsTextRefused : List ℕ → PayloadFault → Type 0
IsTextRefused text Base64 = (bytes : List ℕ) → Decodes text bytes → ⊥
IsTextRefused text fault = (bytes : List ℕ) × Decodes text bytes × IsRefused (IsWhole bytes) fault

-- the reading of a text (of a private function)
abbrev pub IsTextReading : List ℕ → Result Attestation PayloadFault → Type 0
IsTextReading text (Ok a) = IsTextOf text a
IsTextReading text (Err fault) = IsTextRefused text fault

-- ---- the line

-- a space
abbrev pub is_space : ℕ → Bool
is_space byte = byte == 32

-- a line's text is what stands before its first space, or all of it
abbrev pub text_of : List ℕ → List ℕ
text_of line = before_first is_space line

-- the word behind its first space, if it has one
abbrev pub word_of : List ℕ → Option (List ℕ)
word_of line = option_map (λ place. drop (place + 1) line) (position is_space line)

-- the word is the moment of this end, and without a word there is none: it never ends
abbrev pub SpellsEnd : Option (List ℕ) → Option ℕ → Type 0
SpellsEnd None None = Unit {0}
SpellsEnd None (Some moment) = ⊥
SpellsEnd (Some word) None = ⊥
SpellsEnd (Some word) (Some moment) = IsNumber word moment

-- there is a word, and it is no moment
abbrev pub SpellsNoEnd : Option (List ℕ) → Type 0
SpellsNoEnd None = ⊥
SpellsNoEnd (Some word) = IsNoNumber word

-- the line is the base64 of this payload, with the moment of its end if it has one
pub record IsLineOf (line : List ℕ) (unit : Dated) : Type 0 where
  pub end : SpellsEnd (word_of line) unit.until
  pub is : IsTextOf (text_of line) unit.payload

-- it has an end, or none, and its text breaks this rule first
pub record HasBadText (line : List ℕ) (fault : PayloadFault) : Type 0 where
  pub until : Option ℕ
  pub end : SpellsEnd (word_of line) until
  pub refused : IsTextRefused (text_of line) fault

-- the first rule that the line breaks
abbrev pub IsLineRefused : List ℕ → PayloadFault → Type 0
IsLineRefused line Moment = SpellsNoEnd (word_of line)
IsLineRefused line fault = HasBadText line fault

-- the reading of a line that isn't empty
abbrev pub IsLineReading : List ℕ → Result Dated PayloadFault → Type 0
IsLineReading line (Ok unit) = IsLineOf line unit
IsLineReading line (Err fault) = IsLineRefused line fault

-- the bytes of a word that is lent (of private functions)
abbrev pub lent : Option (Bor (List ℕ)) → Option (List ℕ)
lent word = option_map (λ w. w.now) word
