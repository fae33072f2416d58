-- The units of a stream don't depend on the pieces in which it comes, nor on when they are asked for: a law of the three framers.
use Rattle.std.specs.Prelude.{◌≡◌, ◌≢◌, ℕ, List, [], ◌∷◌, ◌++◌}
use Rattle.std.specs.declared.option.Option.{Option}
use Rattle.std.specs.declared.option.Option.TheVariants.{Some, None}
use Rattle.std.specs.declared.result.Result.{Result}
use Rattle.std.specs.declared.result.Result.TheVariants.{Ok, Err}
use Rattle.held_bytes.specs.Units.{AreUnits, Begins}
use Rattle.mrt_reader.specs.Coming as mrt
use Rattle.mrt_reader.specs.Records.{IsRecord}
use Rattle.bmp_reader.specs.Coming as bmp
use Rattle.bmp_reader.specs.Messages.{IsMessage}
use Rattle.rtr_pdu.specs.declared.pdu.Pdu.{Pdu}
use Rattle.rtr_pdu.specs.declared.pdu.PduFault.{PduFault}
use Rattle.rtr_pdu.specs.declared.pdu.PduFault.TheVariants.{NoMemory}
use Rattle.rtr_pdu.specs.Pdus.{IsFrame}
use Rattle.rtr_pdu.specs.Units as rtr

-- ---- calls on a framer

-- one call: a piece of the stream is fed, or the next unit is asked for, and this is the answer
pub data Call (R F : Type 0) : Type 0 where
  Feed : (piece : List ℕ) → Call R F
  Next : (answer : Result (Option R) F) → Call R F

-- the bytes that calls fed, one piece behind another
abbrev pub fed : {R F : Type 0} → List (Call R F) → List ℕ
fed [] = []
fed (Feed piece ∷ more) = piece ++ fed more
fed (Next answer ∷ more) = fed more

-- the units that they gave, in order
abbrev pub given : {R F U : Type 0} → (R → U) → List (Call R F) → List U
given unit_of [] = []
given unit_of (Feed piece ∷ more) = given unit_of more
given unit_of (Next (Ok (Some it)) ∷ more) = unit_of it ∷ given unit_of more
given unit_of (Next (Ok None) ∷ more) = given unit_of more
given unit_of (Next (Err fault) ∷ more) = given unit_of more

-- the answer is no unit: none is whole yet, or what comes next is refused
abbrev pub IsNoUnit : {R F : Type 0} → Result (Option R) F → Type 0
IsNoUnit (Ok (Some it)) = ⊥
IsNoUnit (Ok None) = Unit {0}
IsNoUnit (Err fault) = Unit {0}

-- The calls were made one after another, on a framer that held these bytes before them and those after them. `Answers` is the contract of
-- `next`; what is fed is appended.
abbrev pub Called : {R F : Type 0} → (List ℕ → List ℕ → Result (Option R) F → Type 0) → List (Call R F) → List ℕ → List ℕ → Type 0
Called Answers [] before after = after ≡ before
Called Answers (Feed piece ∷ more) before after = Called Answers more (before ++ piece) after
Called Answers (Next answer ∷ more) before after = (next : List ℕ) × Answers before next answer × Called Answers more next after

-- ---- what is so of each framer

-- the stream begins with these units, one behind another, and the rest follows
abbrev pub BeginsWithAll : {U : Type 0} → (List ℕ → U → Type 0) → List ℕ → List U → List ℕ → Type 0
BeginsWithAll IsUnit stream [] rest = stream ≡ rest
BeginsWithAll IsUnit stream (unit ∷ units) rest = (left : List ℕ) × Begins IsUnit stream unit left × BeginsWithAll IsUnit left units rest

module _ {R F U : Type 0} (unit_of : R → U) (IsUnit : List ℕ → U → Type 0) (IsKnown : Result (Option R) F → Type 0)
    (Answers : List ℕ → List ℕ → Result (Option R) F → Type 0) where
  -- From an empty framer on the calls were made, and then it had no unit to give, for a reason that its bytes are; it holds these.
  pub record Drains (calls : List (Call R F)) (last : Result (Option R) F) (held : List ℕ) : Type 0 where
    pub called : Called Answers calls [] held
    pub no_unit : IsNoUnit last
    pub known : IsKnown last
    pub answered : Answers held held last

  pub record DontDependOnPieces : Type 0 where
    -- at each moment all that was fed is the units that were given, one behind another, and what is held: no byte is lost, and none added
    pub kept : (calls : List (Call R F)) (held : List ℕ) → Called Answers calls [] held → BeginsWithAll IsUnit (fed calls) (given unit_of calls) held
    -- where none is left to give, they are the units of the stream that was fed, of which there is one list
    pub all : (calls : List (Call R F)) (last : Result (Option R) F) (held : List ℕ) → Drains calls last held
        → AreUnits IsUnit (fed calls) (given unit_of calls) held
    -- so the same bytes in other pieces, asked for at other moments, give the same units, the same answer behind them, and the same rest
    pub same : (calls others : List (Call R F)) (last also : Result (Option R) F) (held rest : List ℕ) → fed calls ≡ fed others
        → Drains calls last held → Drains others also rest
        → (given unit_of calls ≡ given unit_of others) × (last ≡ also) × (held ≡ rest)

-- ---- the law

-- each answer is for a reason that the bytes are
abbrev pub AnyAnswer : {A : Type 0} → A → Type 0
AnyAnswer answer = Unit {0}

-- a PDU is itself what is read
abbrev pub itself : Pdu → Pdu
itself pdu = pdu

-- want of memory has no reason in the bytes
abbrev pub HasReason : Result (Option Pdu) PduFault → Type 0
HasReason answer = answer ≢ Err NoMemory

-- so it is with records of MRT, messages of BMP, and PDUs of the RPKI to Router protocol
pub record UnitsDontDependOnPieces : Type 0 where
  pub records : DontDependOnPieces mrt.recorded IsRecord AnyAnswer mrt.Answers
  pub messages : DontDependOnPieces bmp.sent IsMessage AnyAnswer bmp.Answers
  pub pdus : DontDependOnPieces itself IsFrame HasReason rtr.Answers
