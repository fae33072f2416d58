-- A line, its text, and the bytes that this decodes to.
use Rattle.std.proofs.Common.{◌≡◌, ℕ, List, drop, Option, sym, ap, ◌∙◌, subst}
use Rattle.std.specs.declared.result.Result.{Result}
use Rattle.std.specs.declared.result.Result.TheVariants.{Ok, Err}
use Rattle.path_model.specs.Union.{Attestation}
use Rattle.aspa_payload.specs.Reading.{IsReading, IsRefused, IsWhole}
use Rattle.aspa_payload.specs.Answers.{Answers, MemoryOr}
use Rattle.aspa_payload.specs.Line.{Decodes, IsTextRefused, IsTextReading, text_of, word_of, SpellsEnd, IsLineRefused}
use Rattle.aspa_payload.proofs.AnswerLemmas.{memory_or}
use Rattle.aspa_payload.specs.declared.fault.PayloadFault.{PayloadFault}
use Rattle.aspa_payload.specs.declared.fault.PayloadFault.TheVariants.{NotDer, Version, NoProviders, Order, SelfProvider, Base64, Moment, NoMemory}

pub decodes_after : (text xs bytes : List ℕ) (n : ℕ) → Decodes text (drop n xs) → n ≡ 0 → bytes ≡ xs → Decodes text bytes
decodes_after text xs bytes n d none same = d ∙ ap (λ (k : ℕ). Ok (drop k xs)) none ∙ ap Ok (sym same)

-- what the bytes break, the text breaks,
pub text_refusal : (text bytes : List ℕ) → Decodes text bytes → (f : PayloadFault) → IsRefused (IsWhole bytes) f
    → IsTextRefused text f
text_refusal text bytes d NotDer h = (bytes, d, h)
text_refusal text bytes d Version h = (bytes, d, h)
text_refusal text bytes d NoProviders h = (bytes, d, h)
text_refusal text bytes d Order h = (bytes, d, h)
text_refusal text bytes d SelfProvider h = (bytes, d, h)
text_refusal text bytes d Base64 h = absurd h.1.2
text_refusal text bytes d Moment h = absurd h.1.2
text_refusal text bytes d NoMemory h = absurd h.1.2

pub text_answer : (text bytes : List ℕ) → Decodes text bytes → (r : Result Attestation PayloadFault)
    → Answers (IsReading bytes) r → Answers (IsTextReading text) r
text_answer text bytes d (Ok a) h = record { bytes = bytes; decodes = d; payload = h }
text_answer text bytes d (Err fault) h = memory_or fault _ _ (text_refusal text bytes d fault) h

-- and what the text breaks, the line breaks
pub line_refusal : (line : List ℕ) (until : Option ℕ) → SpellsEnd (word_of line) until → (f : PayloadFault)
    → IsTextRefused (text_of line) f → IsLineRefused line f
line_refusal line until end NotDer h = record { until = until; end = end; refused = h }
line_refusal line until end Version h = record { until = until; end = end; refused = h }
line_refusal line until end NoProviders h = record { until = until; end = end; refused = h }
line_refusal line until end Order h = record { until = until; end = end; refused = h }
line_refusal line until end SelfProvider h = record { until = until; end = end; refused = h }
line_refusal line until end Base64 h = record { until = until; end = end; refused = h }
line_refusal line until end Moment h = absurd h.2.1.2
line_refusal line until end NoMemory h = record { until = until; end = end; refused = h }

pub line_refused : (line text : List ℕ) (word : Option (List ℕ)) (until : Option ℕ) (f : PayloadFault) → text ≡ text_of line
    → word ≡ word_of line → SpellsEnd word until → MemoryOr f (IsTextRefused text f) → MemoryOr f (IsLineRefused line f)
line_refused line text word until f is_text is_word end h =
    memory_or f _ _
    (λ refused. line_refusal line until (subst (λ (w : Option (List ℕ)). SpellsEnd w until) is_word end) f (subst (λ (t : List ℕ). IsTextRefused t f) is_text refused))
    h
