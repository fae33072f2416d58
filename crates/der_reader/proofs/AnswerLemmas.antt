-- Answers by the rules, said of spellings.
use Rattle.std.proofs.Common.{◌≡◌, ℕ, List, sym, ◌∙◌, subst, Bor, IfOk, OnErr}
use Rattle.std.specs.declared.result.Result.{Result}
use Rattle.std.specs.declared.result.Result.TheVariants.{Ok, Err}
use Rattle.der_reader.specs.Value.{Begins, BeginsNone}
use Rattle.der_reader.specs.Integer.{IsInteger, TakesInteger, TakesNone}
use Rattle.der_reader.specs.Fault.{GivesValue, GivesInteger, value_at}
use Rattle.der_reader.specs.declared.fault.DerFault.{DerFault}
use Rattle.der_reader.specs.declared.fault.DerFault.TheVariants.{Truncated, Tag, Length, Integer}
use Rattle.der_reader.proofs.GivenLemmas.{ok_same, value_found}
use Rattle.der_reader.proofs.AgainLemmas.{begins_again}

ok_or_err : {x : List ℕ × List ℕ} {d : DerFault} → ◌≡◌ {A = Result (List ℕ × List ℕ) DerFault} (Ok x) (Err d) → ⊥
ok_or_err e = cc

pub refused : (tag : ℕ) (bytes : List ℕ) (d : DerFault) → value_at tag bytes ≡ Err d → BeginsNone tag bytes
refused tag bytes d e content rest b = ok_or_err (sym (begins_again tag bytes content rest b) ∙ e)

pub spelled_if_given : (tag : ℕ) (bytes : List ℕ) (r : Result (Bor (List ℕ) × Bor (List ℕ)) DerFault)
    → GivesValue tag bytes r → IfOk r (λ x. Begins tag bytes x.0.now x.1.now)
spelled_if_given tag bytes (Ok x) e = value_found tag bytes (x.0.now, x.1.now) e
spelled_if_given tag bytes (Err d) e = tt

pub none_if_refused : (tag : ℕ) (bytes : List ℕ) (r : Result (Bor (List ℕ) × Bor (List ℕ)) DerFault) → GivesValue tag bytes r
    → OnErr r (BeginsNone tag bytes)
none_if_refused tag bytes (Ok x) e = tt
none_if_refused tag bytes (Err d) e = refused tag bytes d e

pub integer_if_given : (bytes : List ℕ) (r : Result (ℕ × Bor (List ℕ)) DerFault) → GivesInteger bytes r
    → IfOk r (λ x. TakesInteger bytes x.0 x.1.now)
integer_if_given bytes (Ok x) g = record { content = g.0; begins = value_found 2 bytes (g.0, x.1.now) g.1; value = g.2 }
integer_if_given bytes (Err d) g = tt

no_value : (bytes : List ℕ) (d : DerFault) → value_at 2 bytes ≡ Err d → TakesNone bytes
no_value bytes d e n rest t = refused 2 bytes d e t.content rest t.begins

pub none_if_no_integer : (bytes : List ℕ) (r : Result (ℕ × Bor (List ℕ)) DerFault) → GivesInteger bytes r
    → OnErr r (TakesNone bytes)
none_if_no_integer bytes (Ok x) g = tt
none_if_no_integer bytes (Err Integer) g = λ n rest t.
    let same = ok_same (t.content, rest) g.0 (sym (begins_again 2 bytes t.content rest t.begins) ∙ g.1) in
    g.2 n (subst (λ (x : List ℕ × List ℕ). IsInteger x.0 n) same t.value)
none_if_no_integer bytes (Err Truncated) g = no_value bytes Truncated g
none_if_no_integer bytes (Err Tag) g = no_value bytes Tag g
none_if_no_integer bytes (Err Length) g = no_value bytes Length g
