-- Files of lines.
use Rattle.std.specs.Prelude.{◌≡◌, ◌≢◌, ℕ, ◌+◌, ◌⊎◌, true, List, [], ◌∷◌, ◌++◌, length}
use Rattle.std.specs.FinMap as map
use Rattle.std.specs.Str.Lines.{lines}
use Rattle.std.specs.declared.option.Option.{Option}
use Rattle.std.specs.declared.option.Option.TheVariants.{Some, None}
use Rattle.std.specs.declared.result.Result.{Result}
use Rattle.std.specs.declared.result.Result.TheVariants.{Ok, Err}
use Rattle.attestations.specs.declared.term.Term.{Term}
use Rattle.attestations.specs.Terms.{TermMap, terms_or_none}
use Rattle.attestations.specs.Gathered.{TermLists, with_gathered}
use Rattle.aspa_payload.specs.Line.{IsLineOf, IsLineRefused}
use Rattle.aspa_payload.specs.Answers.{MemoryOr}
use Rattle.aspa_payload.specs.declared.fault.PayloadFault.{PayloadFault}
use Rattle.aspa_payload.specs.declared.file.FileFault.{FileFault}
use Rattle.aspa_payload.specs.declared.file.FileFault.TheVariants.{Bad, NoMemory as OutOfMemory}
use Rattle.aspa_payload.specs.declared.line.Dated.{Dated}

-- an empty line stands for nothing, and another one for its payload with its end
abbrev pub StandsFor : List ℕ → Option Dated → Type 0
StandsFor line None = line ≡ []
StandsFor line (Some unit) = (line ≢ []) × IsLineOf line unit

-- each line stands for one of these, in order
abbrev pub StandFor : List (List ℕ) → List (Option Dated) → Type 0
StandFor [] [] = Unit {0}
StandFor [] (unit ∷ units) = ⊥
StandFor (line ∷ more) [] = ⊥
StandFor (line ∷ more) (unit ∷ units) = StandsFor line unit × StandFor more units

-- the payloads of the lines that aren't empty, with their ends
abbrev pub dated : List (Option Dated) → List Dated
dated [] = []
dated (None ∷ units) = dated units
dated (Some unit ∷ units) = unit ∷ dated units

-- what a payload attests of its customer, up to its end
abbrev pub term_of : Dated → Term
term_of unit = record { providers = unit.payload.providers; until = unit.until }

-- some payload attests this of this customer
abbrev pub Attests : List Dated → ℕ → Term → Type 0
Attests [] customer term = ⊥
Attests (unit ∷ more) customer term = ((unit.payload.customer ≡ customer) × (term_of unit ≡ term)) ⊎ Attests more customer term

-- this attestation is among those of the customer
abbrev pub HasTerm : TermMap → ℕ → Term → Type 0
HasTerm terms customer term = map.contains_key (terms_or_none (map.get terms customer)) term ≡ true

-- each customer has exactly the attestations that some payload makes of it, and no customer stands there without one
pub record AreAttested (units : List Dated) (terms : TermMap) : Type 0 where
  pub within : (customer : ℕ) (term : Term) → HasTerm terms customer term → Attests units customer term
  pub all : (customer : ℕ) (term : Term) → Attests units customer term → HasTerm terms customer term
  pub some : (customer : ℕ) → map.get terms customer ≢ None → (term : Term) × Attests units customer term

-- all lines are good, and these are exactly their attestations
pub record IsLinesFile (bytes : List ℕ) (terms : TermMap) : Type 0 where
  pub units : List (Option Dated)
  pub stand : StandFor (lines bytes) units
  pub attested : AreAttested (dated units) terms

-- Some good lines, and then one that is refused by this rule. The unit is counted from 1, empty lines too.
pub record LineRefusedAt (bytes : List ℕ) (unit : ℕ) (cause : PayloadFault) : Type 0 where
  pub before : List (List ℕ)
  pub units : List (Option Dated)
  pub good : StandFor before units
  pub line : List ℕ
  pub after : List (List ℕ)
  pub whole : lines bytes ≡ before ++ line ∷ after
  pub number : unit ≡ length before + 1
  pub some : line ≢ []
  pub refused : IsLineRefused line cause

-- the reading of a file of lines: the attestations of a good one, or the first refused line
abbrev pub IsLinesReading : List ℕ → Result TermMap FileFault → Type 0
IsLinesReading bytes (Ok terms) = IsLinesFile bytes terms
IsLinesReading bytes (Err (Bad unit cause)) = LineRefusedAt bytes unit cause
IsLinesReading bytes (Err OutOfMemory) = ⊥

-- what one line adds to what is gathered (of a private function)
abbrev pub Gathers : TermLists → Option Dated → TermLists → Type 0
Gathers old None new = new ≡ old
Gathers old (Some unit) new = new ≡ with_gathered old unit.payload.customer (term_of unit)

abbrev pub AnswersLine : List ℕ → TermLists → TermLists → Result (Unit {0}) PayloadFault → Type 0
AnswersLine line old new (Ok _) = (unit : Option Dated) × StandsFor line unit × Gathers old unit new
AnswersLine line old new (Err cause) = MemoryOr cause ((line ≢ []) × IsLineRefused line cause)
