-- Each line says one thing, or breaks one rule first.
use Rattle.std.proofs.Common.{◌≡◌, ℕ, ◌<◌, ◌^◌, ◌⊎◌, inl, inr, List, [], decimal, Option, Some, None, refl, sym, ap, ◌∙◌, subst, arith}
use Rattle.std.specs.declared.result.Result.{Result}
use Rattle.std.specs.declared.result.Result.TheVariants.{Ok, Err}
use Rattle.std.proofs.lemmas.Fmt.{decimal_injective}
use Rattle.base64.specs.Engines.{standard}
use Rattle.base64.specs.GeneralPurpose.{decode_of}
use Rattle.base64.specs.declared.decode.DecodeError.{DecodeError}
use Rattle.av_text.specs.Number.{IsNoNumber}
use Rattle.av_text.proofs.NumberLemmas.{number_or_none}
use Rattle.path_model.specs.Union.{Attestation}
use Rattle.aspa_payload.specs.Reading.{TakesPayload, IsRefused, IsWhole}
use Rattle.aspa_payload.specs.Line.{Decodes, IsTextOf, IsTextRefused, text_of, word_of, SpellsEnd, SpellsNoEnd, IsLineOf, HasBadText, IsLineRefused}
use Rattle.aspa_payload.specs.declared.fault.PayloadFault.{PayloadFault}
use Rattle.aspa_payload.specs.declared.fault.PayloadFault.TheVariants.{NotDer, Version, NoProviders, Order, SelfProvider, Base64, Moment, NoMemory}
use Rattle.aspa_payload.specs.declared.line.Dated.{Dated}
use Rattle.aspa_payload.proofs.OneLemmas.{one_payload, one_refused, taken_or_refused}
use Rattle.aspa_payload.proofs.ReadingLemmas.{whole_one}
use Rattle.aspa_payload.proofs.LineLemmas.{text_refusal, line_refusal}
use Rattle.aspa_payload.proofs.DecideLemmas.{SomeWhole, some_whole}

-- ---- a text

ok_same : (x y : List ℕ) → ◌≡◌ {A = Result (List ℕ) DecodeError} (Ok x) (Ok y) → x ≡ y
ok_same x y e = cc

one_decoding : (text x y : List ℕ) → Decodes text x → Decodes text y → x ≡ y
one_decoding text x y d e = ok_same x y (sym d ∙ e)

-- either a text isn't base64, or its bytes are refused
pub TextWays : List ℕ → PayloadFault → Type 0
TextWays text f = ((f ≡ Base64) × ((bytes : List ℕ) → Decodes text bytes → ⊥)) ⊎ ((bytes : List ℕ) × Decodes text bytes × IsRefused (IsWhole bytes) f)

text_ways : (text : List ℕ) (f : PayloadFault) → IsTextRefused text f → TextWays text f
unfolding TextWays
text_ways text Base64 h = inl (refl, h)
text_ways text NotDer h = inr h
text_ways text Version h = inr h
text_ways text NoProviders h = inr h
text_ways text Order h = inr h
text_ways text SelfProvider h = inr h
text_ways text Moment h = inr h
text_ways text NoMemory h = inr h

by_text_ways : (text : List ℕ) (f g : PayloadFault) → TextWays text f → TextWays text g → f ≡ g
unfolding TextWays
by_text_ways text f g (inl h) (inl k) = h.0 ∙ sym k.0
by_text_ways text f g (inl h) (inr k) = absurd (h.1 k.0 k.1)
by_text_ways text f g (inr h) (inl k) = absurd (k.1 h.0 h.1)
by_text_ways text f g (inr h) (inr k) =
    one_refused (IsWhole k.0) (whole_one k.0) f g (subst (λ (b : List ℕ). IsRefused (IsWhole b) f) (one_decoding text h.0 k.0 h.1 k.1) h.2) k.2

one_text_refused : (text : List ℕ) (f g : PayloadFault) → IsTextRefused text f → IsTextRefused text g → f ≡ g
one_text_refused text f g h k = by_text_ways text f g (text_ways text f h) (text_ways text g k)

text_or_refused_by : (text : List ℕ) (a : Attestation) (f : PayloadFault) → IsTextOf text a → TextWays text f → ⊥
unfolding TextWays
text_or_refused_by text a f is (inl h) = h.1 is.bytes is.decodes
text_or_refused_by text a f is (inr h) =
    taken_or_refused (IsWhole is.bytes) (whole_one is.bytes) is.payload.content [] a f (is.payload.begins, refl) is.payload.says is.payload.fit
    (subst (λ (b : List ℕ). IsRefused (IsWhole b) f) (one_decoding text h.0 is.bytes h.1 is.decodes) h.2)

text_or_refused : (text : List ℕ) (a : Attestation) (f : PayloadFault) → IsTextOf text a → IsTextRefused text f → ⊥
text_or_refused text a f is h = text_or_refused_by text a f is (text_ways text f h)

one_text : (text : List ℕ) (a b : Attestation) → IsTextOf text a → IsTextOf text b → a ≡ b
one_text text a b s t =
    (one_payload t.bytes a b [] [] (subst (λ (x : List ℕ). TakesPayload x a []) (one_decoding text s.bytes t.bytes s.decodes t.decodes) s.payload) t.payload).0

-- ---- an end

one_end : (word : Option (List ℕ)) (u v : Option ℕ) → SpellsEnd word u → SpellsEnd word v → u ≡ v
one_end None None None a b = refl
one_end None None (Some n) a b = absurd b
one_end None (Some m) v a b = absurd a
one_end (Some word) None v a b = absurd a
one_end (Some word) (Some m) None a b = absurd b
one_end (Some word) (Some m) (Some n) a b = let x = a.0 in let y = b.0 in ap Some (decimal_injective m n (omega arith) (omega arith) (sym a.1 ∙ b.1))

end_or_none : (word : Option (List ℕ)) (until : Option ℕ) → SpellsEnd word until → SpellsNoEnd word → ⊥
end_or_none None until spells none = none
end_or_none (Some word) None spells none = spells
end_or_none (Some word) (Some moment) spells none = none moment spells.0 spells.1

-- ---- a line

-- either its end is no moment, or its text is refused
pub LineWays : List ℕ → PayloadFault → Type 0
LineWays line f = ((f ≡ Moment) × SpellsNoEnd (word_of line)) ⊎ HasBadText line f

line_ways : (line : List ℕ) (f : PayloadFault) → IsLineRefused line f → LineWays line f
unfolding LineWays
line_ways line Moment h = inl (refl, h)
line_ways line Base64 h = inr h
line_ways line NotDer h = inr h
line_ways line Version h = inr h
line_ways line NoProviders h = inr h
line_ways line Order h = inr h
line_ways line SelfProvider h = inr h
line_ways line NoMemory h = inr h

by_line_ways : (line : List ℕ) (f g : PayloadFault) → LineWays line f → LineWays line g → f ≡ g
unfolding LineWays
by_line_ways line f g (inl h) (inl k) = h.0 ∙ sym k.0
by_line_ways line f g (inl h) (inr k) = absurd (end_or_none (word_of line) k.until k.end h.1)
by_line_ways line f g (inr h) (inl k) = absurd (end_or_none (word_of line) h.until h.end k.1)
by_line_ways line f g (inr h) (inr k) = one_text_refused (text_of line) f g h.refused k.refused

pub one_line_refused : (line : List ℕ) (f g : PayloadFault) → IsLineRefused line f → IsLineRefused line g → f ≡ g
one_line_refused line f g h k = by_line_ways line f g (line_ways line f h) (line_ways line g k)

good_or_refused_by : (line : List ℕ) (unit : Dated) (f : PayloadFault) → IsLineOf line unit → LineWays line f → ⊥
unfolding LineWays
good_or_refused_by line unit f is (inl h) = end_or_none (word_of line) unit.until is.end h.1
good_or_refused_by line unit f is (inr h) = text_or_refused (text_of line) unit.payload f is.is h.refused

-- a line is good, or refused, and never both
pub good_or_refused : (line : List ℕ) (unit : Dated) (f : PayloadFault) → IsLineOf line unit → IsLineRefused line f → ⊥
good_or_refused line unit f is h = good_or_refused_by line unit f is (line_ways line f h)

-- it says one thing
pub one_line : (line : List ℕ) (u v : Dated) → IsLineOf line u → IsLineOf line v → u ≡ v
one_line line u v s t =
    let payload = one_text (text_of line) u.payload v.payload s.is t.is in
    let until = one_end (word_of line) u.until v.until s.end t.end in
    λ i. record { payload = payload i; until = until i }

-- ---- each line is one or the other

abbrev SomeText : List ℕ → Type 0
SomeText text = ((a : Attestation) × IsTextOf text a) ⊎ ((f : PayloadFault) × IsTextRefused text f)

text_bytes : (text bytes : List ℕ) → Decodes text bytes → SomeWhole bytes → SomeText text
text_bytes text bytes d (inl w) = inl (w.0, record { bytes = bytes; decodes = d; payload = w.1 })
text_bytes text bytes d (inr r) = inr (r.0, text_refusal text bytes d r.0 r.1)

ok_or_err : {x : List ℕ} {e : DecodeError} → ◌≡◌ {A = Result (List ℕ) DecodeError} (Ok x) (Err e) → ⊥
ok_or_err e = cc

text_decoded : (text : List ℕ) → (r : Result (List ℕ) DecodeError) → decode_of standard text ≡ r → SomeText text
text_decoded text (Ok bytes) e = text_bytes text bytes e (some_whole bytes)
text_decoded text (Err d) e = inr (Base64, λ bytes h. ok_or_err (sym h ∙ e))

some_text : (text : List ℕ) → SomeText text
some_text text = text_decoded text (decode_of standard text) refl

-- what a line says, or the first rule that it breaks
abbrev pub SomeLine : List ℕ → Type 0
SomeLine line = ((unit : Dated) × IsLineOf line unit) ⊎ ((f : PayloadFault) × IsLineRefused line f)

line_text : (line : List ℕ) (until : Option ℕ) → SpellsEnd (word_of line) until → SomeText (text_of line) → SomeLine line
line_text line until end (inl a) = inl (record { payload = a.0; until = until }, record { end = end; is = a.1 })
line_text line until end (inr r) = inr (r.0, line_refusal line until end r.0 r.1)

abbrev SomeEnd : Option (List ℕ) → Type 0
SomeEnd word = ((until : Option ℕ) × SpellsEnd word until) ⊎ SpellsNoEnd word

word_number : (word : List ℕ) → IsNoNumber word ⊎ ((n : ℕ) × (n < 2 ^ 32) × (word ≡ decimal n)) → SomeEnd (Some word)
word_number word (inl none) = inr none
word_number word (inr n) = inl (Some n.0, (n.1, n.2))

some_end : (word : Option (List ℕ)) → SomeEnd word
some_end None = inl (None, tt)
some_end (Some word) = word_number word (number_or_none word)

line_end : (line : List ℕ) → SomeEnd (word_of line) → SomeLine line
line_end line (inl e) = line_text line e.0 e.1 (some_text (text_of line))
line_end line (inr none) = inr (Moment, none)

pub some_line : (line : List ℕ) → SomeLine line
some_line line = line_end line (some_end (word_of line))
