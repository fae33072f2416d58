-- Words that are said, joined.
use Rattle.std.proofs.Common.{◌≡◌, ℕ, List, [], ◌∷◌, ◌++◌, refl, sym, ap, ◌∙◌, append_assoc, arith, subst, length, IfOk, IfErr}
use Rattle.std.specs.Prelude.{◌↔◌, IsErr, IsErrAnd}
use Rattle.std.specs.List.{All}
use Rattle.std.specs.declared.result.Result.{Result}
use Rattle.std.specs.declared.result.Result.TheVariants.{Ok, Err}
use Rattle.std.proofs.lemmas.List.Elements.{All-append, All-cons, All-head, All-nil, All-tail, All-weaker}
use Rattle.script_lines.specs.Word.{IsVisible, IsSaid}
use Rattle.script_lines.specs.declared.fault.LineFault.{LineFault}
use Rattle.script_lines.specs.declared.fault.LineFault.TheVariants.{Long, Command as NoCommand, Words, Number, NoMemory}
use Rattle.script_lines.specs.Kinds.{TEXT, HasForm}
use Rattle.script_lines.specs.Forms.{AreTexts, texts, sentence}
use Rattle.script_lines.specs.Fields.{AreSpelled, RefusesWord, RefusesTexts, RefusesWords}

-- what is joined so far stands for its words
pub joined_more : (front word : List ℕ) (words : List (List ℕ)) → sentence ((front ++ 32 ∷ word) ∷ words) ≡ sentence (front ∷ word ∷ words)
joined_more front word [] = refl
joined_more front word (next ∷ words) = append_assoc front (32 ∷ word) (32 ∷ sentence (next ∷ words))

-- a visible byte may be said
visible_said : (text : List ℕ) → All IsVisible text → All IsSaid text
visible_said text visible = All-weaker IsVisible IsSaid (λ byte is. let low = is.0 in (omega arith, is.1)) text visible

-- a space too
pub said_more : (front word : List ℕ) → All IsSaid front → All IsVisible word → All IsSaid (front ++ 32 ∷ word)
said_more front word said visible = All-append IsSaid front (32 ∷ word) said (All-cons IsSaid 32 word (omega arith, omega arith) (visible_said word visible))

pub word_said : (text word : List ℕ) → text ≡ word → All IsVisible word → All IsSaid text
word_said text word same visible = rw same (visible_said word visible)

text_said : (word : List ℕ) → HasForm TEXT word → All IsSaid word
text_said word is = visible_said word is.1.0

-- what texts say
pub sentence_said : (words : List (List ℕ)) → AreTexts words → All IsSaid (sentence words)
sentence_said [] are = All-nil IsSaid
sentence_said (word ∷ []) are = text_said word (All-head (HasForm TEXT) word [] are)
sentence_said (word ∷ next ∷ words) are =
    All-append IsSaid word (32 ∷ sentence (next ∷ words)) (text_said word (All-head (HasForm TEXT) word (next ∷ words) are))
    (All-cons IsSaid 32 (sentence (next ∷ words)) (omega arith, omega arith) (sentence_said (next ∷ words) (All-tail (HasForm TEXT) word (next ∷ words) are)))

-- ---- reading them

-- one word more is joined
pub joined_step : (saying front word next whole : List ℕ) (before words : List (List ℕ)) → saying ≡ front ++ 32 ∷ next → next ≡ word → before ≡ word ∷ words
    → sentence (front ∷ before) ≡ whole → sentence (saying ∷ words) ≡ whole
joined_step saying front word next whole before words is same steps so_far =
    ap (λ (s : List ℕ). sentence (s ∷ words)) (is ∙ ap (λ (n : List ℕ). front ++ 32 ∷ n) same)
    ∙ joined_more front word words ∙ ap (λ (ws : List (List ℕ)). sentence (front ∷ ws)) (sym steps) ∙ so_far

-- whether all are texts hangs on those that are left
pub texts_step : (word : List ℕ) (before words all : List (List ℕ)) → before ≡ word ∷ words → HasForm TEXT word → (AreTexts before ↔ AreTexts all) → (AreTexts words ↔ AreTexts all)
texts_step word before words all steps form both = (
  λ rest. both.0 (subst AreTexts (sym steps) (All-cons (HasForm TEXT) word words form rest)),
  λ whole. All-tail (HasForm TEXT) word words (subst AreTexts steps (both.1 whole)),
)

pub texts_same : (words all : List (List ℕ)) → words ≡ all → (AreTexts words ↔ AreTexts all)
texts_same words all same = (λ are. subst AreTexts same are, λ are. subst AreTexts (sym same) are)

-- none is left
pub texts_done : (saying whole : List ℕ) (left all : List (List ℕ)) → left ≡ [] → sentence (saying ∷ left) ≡ whole → (AreTexts left ↔ AreTexts all) → (saying ≡ whole) × AreTexts all
texts_done saying whole left all none so_far both =
    (ap (λ (ws : List (List ℕ)). sentence (saying ∷ ws)) (sym none) ∙ so_far, both.0 (subst AreTexts (sym none) (All-nil (HasForm TEXT))))

-- one of them is refused
fault_refused : (fault : LineFault) (word : List ℕ) (before words all : List (List ℕ)) → before ≡ word ∷ words → (AreTexts before ↔ AreTexts all) → RefusesWord TEXT word fault → RefusesTexts all fault
fault_refused Words word before words all steps both refused = λ whole. refused (All-head (HasForm TEXT) word words (subst AreTexts steps (both.1 whole)))
fault_refused Number word before words all steps both refused = refused.1
fault_refused NoMemory word before words all steps both refused = tt
fault_refused Long word before words all steps both refused = refused
fault_refused NoCommand word before words all steps both refused = refused

pub texts_refused : {A : Type 0} (result : Result A LineFault) (fault : LineFault) (word : List ℕ) (before words all : List (List ℕ)) → IsErr result × IsErrAnd result (λ e. e ≡ fault)
    → before ≡ word ∷ words → (AreTexts before ↔ AreTexts all) → RefusesWord TEXT word fault → IfErr result (RefusesTexts all)
texts_refused (Ok a) fault word before words all is steps both refused = tt
texts_refused (Err e) fault word before words all is steps both refused = subst (RefusesTexts all) (sym is.1) (fault_refused fault word before words all steps both refused)

-- those behind the first one are refused, and so all are
pub rest_refused : {A : Type 0} (result : Result A LineFault) (word : List ℕ) (words all : List (List ℕ)) → all ≡ word ∷ words → IfErr result (RefusesTexts words) → IfErr result (RefusesWords texts all)
rest_refused (Ok a) word words all steps refused = tt
rest_refused (Err Words) word words all steps refused = λ fits. refused (All-tail (HasForm TEXT) word words (subst AreTexts steps fits.1))
rest_refused (Err Number) word words all steps refused = absurd refused
rest_refused (Err NoMemory) word words all steps refused = tt
rest_refused (Err Long) word words all steps refused = refused
rest_refused (Err NoCommand) word words all steps refused = refused

-- or they are spelled, and so all are
pub rest_spelled : (result : Result (List ℕ) LineFault) (word first : List ℕ) (words all : List (List ℕ)) → all ≡ word ∷ words → first ≡ word → HasForm TEXT word
    → IfOk result (λ text. (text ≡ sentence (first ∷ words)) × AreTexts words) → IfOk result (λ text. AreSpelled texts (λ build. build text) all)
rest_spelled (Ok text) word first words all steps same form is = λ build.
    let long : length all ≡ length (word ∷ words) = ap length steps in (
      omega (arith, long),
      subst AreTexts (sym steps) (All-cons (HasForm TEXT) word words form is.1),
      ap build (is.0 ∙ ap (λ (w : List ℕ). sentence (w ∷ words)) same ∙ ap sentence (sym steps)),
    )
rest_spelled (Err fault) word first words all steps same form is = tt
