-- A file of lines, of which some are read.
use Rattle.std.proofs.Common.{◌≡◌, ℕ, ◌+◌, ◌<◌, ◌≤◌, List, [], ◌∷◌, ◌++◌, length, Option, Some, None, refl, sym, ap, ◌∙◌, subst, arith, length-append, append_assoc, append-nil}
use Rattle.std.specs.FinMap as map
use Rattle.std.specs.Str.Lines.{lines}
use Rattle.std.specs.declared.result.Result.TheVariants.{Err}
use Rattle.attestations.specs.Terms.{TermMap}
use Rattle.attestations.specs.Gathered.{TermLists, AreTermsOf}
use Rattle.aspa_payload.specs.Line.{IsLineRefused}
use Rattle.aspa_payload.specs.Lines.{StandsFor, StandFor, dated, Gathers, IsLinesFile, IsLinesReading}
use Rattle.aspa_payload.specs.File.{FileAnswers, IsOfUnit}
use Rattle.aspa_payload.specs.Answers.{MemoryOr}
use Rattle.aspa_payload.specs.declared.file.FileFault.{FileFault}
use Rattle.aspa_payload.specs.declared.file.FileFault.TheVariants.{Bad, NoMemory as OutOfMemory}
use Rattle.aspa_payload.specs.declared.fault.PayloadFault.{PayloadFault}
use Rattle.aspa_payload.specs.declared.line.Dated.{Dated}
use Rattle.aspa_payload.proofs.AttestedLemmas.{IsGathered, gathered_start, gathered_next, attested_of}
use Rattle.aspa_payload.proofs.AnswerLemmas.{due}

pub record ReadingLines (bytes rest : List ℕ) (gathered : TermLists) (unit : ℕ) : Type 0 where
  pub before : List (List ℕ)
  pub units : List (Option Dated)
  pub good : StandFor before units
  pub whole : lines bytes ≡ before ++ lines rest
  pub is : IsGathered (dated units) gathered
  pub number : unit ≡ length before
  pub fits : unit + length rest ≤ length bytes

pub stand_push : (before : List (List ℕ)) (units : List (Option Dated)) (line : List ℕ) (o : Option Dated)
    → StandFor before units → StandsFor line o → StandFor (before ++ line ∷ []) (units ++ o ∷ [])
stand_push [] [] line o e s = (s, tt)
stand_push [] (u ∷ us) line o e s = absurd e
stand_push (b ∷ bs) [] line o e s = absurd e
stand_push (b ∷ bs) (u ∷ us) line o e s = (e.0, stand_push bs us line o e.1 s)

dated_some : (units : List (Option Dated)) (unit : Dated)
    → dated (units ++ Some unit ∷ []) ≡ dated units ++ unit ∷ []
dated_some [] unit = refl
dated_some (None ∷ units) unit = dated_some units unit
dated_some (Some u ∷ units) unit = ap (λ (more : List Dated). u ∷ more) (dated_some units unit)

dated_none : (units : List (Option Dated)) → dated (units ++ None ∷ []) ≡ dated units
dated_none [] = refl
dated_none (None ∷ units) = dated_none units
dated_none (Some b ∷ units) = ap (λ (more : List Dated). b ∷ more) (dated_none units)

gathered_unit : (units : List (Option Dated)) (o : Option Dated) (old new : TermLists)
    → IsGathered (dated units) old → Gathers old o new → IsGathered (dated (units ++ o ∷ [])) new
gathered_unit units None old new h e =
    subst (λ (all : List Dated). IsGathered all new) (sym (dated_none units)) (subst (λ (m : TermLists). IsGathered (dated units) m) (sym e) h)
gathered_unit units (Some unit) old new h e =
    subst (λ (all : List Dated). IsGathered all new) (sym (dated_some units unit)) (gathered_next (dated units) unit old new h e)

pub lines_start : (bytes : List ℕ) (gathered : TermLists) → gathered ≡ map.empty → ReadingLines bytes bytes gathered 0
lines_start bytes gathered e = record { before = []; units = []; good = tt; whole = refl; is = gathered_start gathered e; number = refl; fits = omega arith }

pub lines_next : (bytes rest line more : List ℕ) (gathered now : TermLists) (unit : ℕ) (o : Option Dated)
    → ReadingLines bytes rest gathered unit → lines rest ≡ line ∷ lines more → length more < length rest
    → StandsFor line o → Gathers gathered o now → ReadingLines bytes more now (unit + 1)
lines_next bytes rest line more gathered now unit o r first less stands e = record {
  before = r.before ++ line ∷ [];
  units = r.units ++ o ∷ [];
  good = stand_push r.before r.units line o r.good stands;
  whole = r.whole ∙ ap (λ (ls : List (List ℕ)). r.before ++ ls) first ∙ sym (append_assoc r.before (line ∷ []) (lines more));
  is = gathered_unit r.units o gathered now r.is e;
  number = rw length-append (omega (arith, r.number));
  fits = omega (arith, r.fits);
}

pub lines_end : (bytes rest : List ℕ) (gathered : TermLists) (terms : TermMap) (unit : ℕ) → ReadingLines bytes rest gathered unit
    → lines rest ≡ [] → AreTermsOf gathered terms → IsLinesFile bytes terms
lines_end bytes rest gathered terms unit r none sets = record {
  units = r.units;
  stand = subst (λ (ls : List (List ℕ)). StandFor ls r.units) (sym (r.whole ∙ ap (λ (ls : List (List ℕ)). r.before ++ ls) none ∙ append-nil r.before)) r.good;
  attested = attested_of (dated r.units) gathered terms r.is sets;
}

pub lines_refused : (bytes rest line more : List ℕ) (gathered : TermLists) (unit : ℕ) (cause : PayloadFault) (fault : FileFault)
    → ReadingLines bytes rest gathered unit → lines rest ≡ line ∷ lines more
    → MemoryOr cause ((line ≡ [] → ⊥) × IsLineRefused line cause) → IsOfUnit (unit + 1) cause fault
    → FileAnswers (IsLinesReading bytes) (Err fault)
lines_refused bytes rest line more gathered unit cause (Bad n c) r first refused of =
    let why = due cause _ of.2 refused in
    record {
      before = r.before;
      units = r.units;
      good = r.good;
      line = line;
      after = lines more;
      whole = r.whole ∙ ap (λ (ls : List (List ℕ)). r.before ++ ls) first;
      number = omega (arith, of.0, r.number);
      some = why.0;
      refused = subst (IsLineRefused line) (sym of.1) why.1;
    }
lines_refused bytes rest line more gathered unit cause OutOfMemory r first refused of = tt
