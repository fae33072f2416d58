-- Numerals: what a value writes is one number of 32 bits at most, and whether it is one is told.
use Rattle.std.proofs.Common.{◌≡◌, ◌⊎◌, inl, inr, ℕ, ◌<◌, ◌^◌, ◌++◌, ◌∷◌, [], ◌||◌, List, Bool, true, false, eqb, codes, decimal, Option, Some, None, IfSome, IfNone, is_some, refl, ap, ◌∙◌, arith}
use Rattle.std.proofs.lemmas.Bool.{eqb-true, eqb-false}
use Rattle.std.proofs.lemmas.Fmt.{decimal_injective}
use Rattle.serde_json.specs.Data.{Num, Data, null, boolean, number, string, array, object, unsigned}
use Rattle.serde_json.specs.Find.{as_number, as_str}
use Rattle.av_text.specs.Number.{IsNoNumber}
use Rattle.av_text.proofs.NumberLemmas.{number_or_none}
use Rattle.json_fields.proofs.FoundLemmas.{SomeOrNone, clash, none_found, same_some, unsigned_injective}
use Rattle.slurm_rules.specs.Numbers.{IsAsn as IsNumAsn}
use Rattle.slurm_rules.proofs.ContentLemmas.{asn_or_none as num_asn_or_none}
use Rattle.validated.specs.Form.{IsAsn, IsMoment, IsNumeral, IsAsNumeral, IsMomentNumeral, is_number, is_number_or_text}
use Rattle.validated.specs.Kept.{IsAsText}

-- ---- kinds

or_true : (b c : Bool) → c ≡ true → (b || c) ≡ true
or_true true c e = refl
or_true false c e = e

or_false : (b c : Bool) → b ≡ false → c ≡ false → (b || c) ≡ false
or_false true c e f = e
or_false false c e f = f

number_kind : (d : Data) (n : Num) → as_number d ≡ Some n → is_number d ≡ true
number_kind d n e = ap is_some e

either_kind : (d : Data) (n : Num) → as_number d ≡ Some n → is_number_or_text d ≡ true
either_kind d n e = ap (λ b. b || is_some (as_str d)) (number_kind d n e)

text_kind : (d : Data) (text : List ℕ) → as_str d ≡ Some text → is_number_or_text d ≡ true
text_kind d text e = or_true (is_number d) (is_some (as_str d)) (ap is_some e)

not_both : (d : Data) (n : Num) (text : List ℕ) → as_number d ≡ Some n → as_str d ≡ Some text → ⊥
not_both null n text e f = none_found (as_number null) n refl e
not_both (boolean b) n text e f = none_found (as_number (boolean b)) n refl e
not_both (number m) n text e f = none_found (as_str (number m)) text refl f
not_both (string s) n text e f = none_found (as_number (string s)) n refl e
not_both (array ds) n text e f = none_found (as_number (array ds)) n refl e
not_both (object ms) n text e f = none_found (as_number (object ms)) n refl e

-- ---- what is read of a value

module _ (d : Data) (read : Option ℕ) where
  pub as_of_number : (n : Num) → as_number d ≡ Some n → IfSome read (IsNumAsn n) → IfNone read ((x : ℕ) → IsNumAsn n x → ⊥) → IsAsNumeral d read
  as_of_number = by read where
    by : (o : Option ℕ) (n : Num) → as_number d ≡ Some n → IfSome o (IsNumAsn n) → IfNone o ((x : ℕ) → IsNumAsn n x → ⊥) → IsAsNumeral d o
    by (Some x) n e is none = (is.1, inl (e ∙ ap Some is.0))
    by None n e is none = (
      either_kind d n e,
      λ x h. elim h.1 [
        | inl f ↦ none x (same_some (as_number d) n (unsigned x) e f, h.0)
        | inr f ↦ not_both d n _ e f
      ],
    )

  pub as_of_text : (text : List ℕ) → as_str d ≡ Some text → IfSome read (IsAsText text) → IfNone read ((x : ℕ) → IsAsText text x → ⊥) → IsAsNumeral d read
  as_of_text = by read where
    by : (o : Option ℕ) (text : List ℕ) → as_str d ≡ Some text → IfSome o (IsAsText text) → IfNone o ((x : ℕ) → IsAsText text x → ⊥) → IsAsNumeral d o
    by (Some x) text e is none = (is.0, inr (e ∙ ap Some is.1))
    by None text e is none = (
      text_kind d text e,
      λ x h. elim h.1 [
        | inl f ↦ not_both d _ text f e
        | inr f ↦ none x (h.0, same_some (as_str d) text _ e f)
      ],
    )

  pub moment_of_number : (n : Num) → as_number d ≡ Some n → IfSome read (IsNumAsn n) → IfNone read ((x : ℕ) → IsNumAsn n x → ⊥) → IsMomentNumeral d read
  moment_of_number = by read where
    by : (o : Option ℕ) (n : Num) → as_number d ≡ Some n → IfSome o (IsNumAsn n) → IfNone o ((x : ℕ) → IsNumAsn n x → ⊥) → IsMomentNumeral d o
    by (Some x) n e is none = (is.1, e ∙ ap Some is.0)
    by None n e is none = (number_kind d n e, λ x h. none x (same_some (as_number d) n (unsigned x) e h.1, h.0))

pub as_of_other : (d : Data) → as_number d ≡ None → as_str d ≡ None → (a : Option ℕ) → IsAsNumeral d a → ⊥
as_of_other d e f None h = clash (is_number_or_text d) h.0 (or_false (is_number d) (is_some (as_str d)) (ap is_some e) (ap is_some f))
as_of_other d e f (Some x) h = elim h.1 [
  | inl is ↦ none_found (as_number d) (unsigned x) e is
  | inr is ↦ none_found (as_str d) _ f is
]

pub moment_of_other : (d : Data) → as_number d ≡ None → (a : Option ℕ) → IsMomentNumeral d a → ⊥
moment_of_other d e None h = clash (is_number d) h.0 (ap is_some e)
moment_of_other d e (Some x) h = none_found (as_number d) (unsigned x) e h.1

-- ---- at most one

-- what stands behind two letters
abbrev behind : List ℕ → List ℕ
behind [] = []
behind (a ∷ []) = []
behind (a ∷ b ∷ rest) = rest

as_tail : (x y : ℕ) → codes "AS" ++ decimal x ≡ codes "AS" ++ decimal y → decimal x ≡ decimal y
as_tail x y e = ap behind e

one_as : (d : Data) (x y : ℕ) → IsAsn d x → IsAsn d y → x ≡ y
one_as d x y s t = elim s.1 [
  | inl e ↦ elim t.1 [
    | inl f ↦ unsigned_injective x y (same_some (as_number d) (unsigned x) (unsigned y) e f)
    | inr f ↦ absurd (not_both d (unsigned x) _ e f)
  ]
  | inr e ↦ elim t.1 [
    | inl f ↦ absurd (not_both d (unsigned y) _ f e)
    | inr f ↦ decimal_injective x y (omega (arith, s.0)) (omega (arith, t.0)) (as_tail x y (same_some (as_str d) (codes "AS" ++ decimal x) (codes "AS" ++ decimal y) e f))
  ]
]

one_moment : (d : Data) (x y : ℕ) → IsMoment d x → IsMoment d y → x ≡ y
one_moment d x y s t = unsigned_injective x y (same_some (as_number d) (unsigned x) (unsigned y) s.1 t.1)

one_numeral : (kind : Data → Bool) (Is : Data → ℕ → Type 0) → ((d : Data) (x y : ℕ) → Is d x → Is d y → x ≡ y)
    → (d : Data) (a b : Option ℕ) → IsNumeral kind Is d a → IsNumeral kind Is d b → a ≡ b
one_numeral kind Is one d None None s t = refl
one_numeral kind Is one d None (Some y) s t = absurd (s.1 y t)
one_numeral kind Is one d (Some x) None s t = absurd (t.1 x s)
one_numeral kind Is one d (Some x) (Some y) s t = ap Some (one d x y s t)

pub one_as_numeral : (d : Data) (a b : Option ℕ) → IsAsNumeral d a → IsAsNumeral d b → a ≡ b
one_as_numeral d a b s t = one_numeral is_number_or_text IsAsn one_as d a b s t

pub one_moment_numeral : (d : Data) (a b : Option ℕ) → IsMomentNumeral d a → IsMomentNumeral d b → a ≡ b
one_moment_numeral d a b s t = one_numeral is_number IsMoment one_moment d a b s t

-- ---- one, or none

abbrev first : List ℕ → ℕ
first [] = 0
first (a ∷ rest) = a

abbrev second : List ℕ → ℕ
second [] = 0
second (a ∷ rest) = first rest

no_letter : (a : ℕ) (rest : List ℕ) → [] ≡ a ∷ rest → ⊥
no_letter a rest e = cc

no_text : (x : ℕ) → [] ≡ codes "AS" ++ decimal x → ⊥
no_text x e = no_letter 65 (83 ∷ decimal x) e

one_letter : (a b c : ℕ) (rest : List ℕ) → a ∷ [] ≡ b ∷ c ∷ rest → ⊥
one_letter a b c rest e = cc

short_text : (a x : ℕ) → a ∷ [] ≡ codes "AS" ++ decimal x → ⊥
short_text a x e = one_letter a 65 83 (decimal x) e

first_letter : (a b x : ℕ) (rest : List ℕ) → a ∷ b ∷ rest ≡ codes "AS" ++ decimal x → a ≡ 65
first_letter a b x rest e = ap first e

second_letter : (a b x : ℕ) (rest : List ℕ) → a ∷ b ∷ rest ≡ codes "AS" ++ decimal x → b ≡ 83
second_letter a b x rest e = ap second e

digits_left : (a b x : ℕ) (rest : List ℕ) → a ∷ b ∷ rest ≡ codes "AS" ++ decimal x → rest ≡ decimal x
digits_left a b x rest e = ap behind e

with_letters : (a b : ℕ) (rest : List ℕ) → a ≡ 65 → b ≡ 83 → a ∷ b ∷ rest ≡ codes "AS" ++ rest
with_letters a b rest e f = λ i. e i ∷ f i ∷ rest

as_text_by : (a b : ℕ) (rest : List ℕ) (p q : Bool) → eqb a 65 ≡ p → eqb b 83 ≡ q → IsNoNumber rest ⊎ ((n : ℕ) × (n < 2 ^ 32) × (rest ≡ decimal n))
    → SomeOrNone (IsAsText (a ∷ b ∷ rest))
as_text_by a b rest false q e f n = inr (λ x h. eqb-false a 65 e (first_letter a b x rest h.1))
as_text_by a b rest true false e f n = inr (λ x h. eqb-false b 83 f (second_letter a b x rest h.1))
as_text_by a b rest true true e f (inl none) = inr (λ x h. none x h.0 (digits_left a b x rest h.1))
as_text_by a b rest true true e f (inr n) = inl (n.0, (n.1, with_letters a b rest (eqb-true a 65 e) (eqb-true b 83 f) ∙ ap (λ (t : List ℕ). codes "AS" ++ t) n.2))

as_text_or_none : (text : List ℕ) → SomeOrNone (IsAsText text)
as_text_or_none [] = inr (λ x h. no_text x h.1)
as_text_or_none (a ∷ []) = inr (λ x h. short_text a x h.1)
as_text_or_none (a ∷ b ∷ rest) = as_text_by a b rest (eqb a 65) (eqb b 83) refl refl (number_or_none rest)

as_number_by : (d : Data) (n : Num) → as_number d ≡ Some n → SomeOrNone (IsNumAsn n) → SomeOrNone (IsAsNumeral d)
as_number_by d n e (inl x) = inl (Some x.0, as_of_number d (Some x.0) n e x.1 tt)
as_number_by d n e (inr none) = inl (None, as_of_number d None n e tt none)

as_text_found : (d : Data) (text : List ℕ) → as_str d ≡ Some text → SomeOrNone (IsAsText text) → SomeOrNone (IsAsNumeral d)
as_text_found d text e (inl x) = inl (Some x.0, as_of_text d (Some x.0) text e x.1 tt)
as_text_found d text e (inr none) = inl (None, as_of_text d None text e tt none)

as_by : (d : Data) (n : Option Num) (text : Option (List ℕ)) → as_number d ≡ n → as_str d ≡ text → SomeOrNone (IsAsNumeral d)
as_by d (Some n) text e f = as_number_by d n e (num_asn_or_none n)
as_by d None (Some text) e f = as_text_found d text f (as_text_or_none text)
as_by d None None e f = inr (as_of_other d e f)

pub as_numeral_or_none : (d : Data) → SomeOrNone (IsAsNumeral d)
as_numeral_or_none d = as_by d (as_number d) (as_str d) refl refl

moment_number_by : (d : Data) (n : Num) → as_number d ≡ Some n → SomeOrNone (IsNumAsn n) → SomeOrNone (IsMomentNumeral d)
moment_number_by d n e (inl x) = inl (Some x.0, moment_of_number d (Some x.0) n e x.1 tt)
moment_number_by d n e (inr none) = inl (None, moment_of_number d None n e tt none)

moment_by : (d : Data) (n : Option Num) → as_number d ≡ n → SomeOrNone (IsMomentNumeral d)
moment_by d (Some n) e = moment_number_by d n e (num_asn_or_none n)
moment_by d None e = inr (moment_of_other d e)

pub moment_numeral_or_none : (d : Data) → SomeOrNone (IsMomentNumeral d)
moment_numeral_or_none d = moment_by d (as_number d) refl
