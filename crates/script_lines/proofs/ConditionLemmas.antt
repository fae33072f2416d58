-- Words spell conditions or don't, at most one list of them.
use Rattle.std.proofs.Common.{◌≡◌, ◌⊎◌, inl, inr, ℕ, Bool, true, false, List, [], ◌∷◌, refl, sym, ap, ◌∙◌, subst}
use Rattle.conditions.specs.declared.asked.Conditions.{Conditions}
use Rattle.conditions.specs.Meets.{no_conditions}
use Rattle.path_model.proofs.Decide.{Decided, decided_both}
use Rattle.av_text.proofs.SpellingLemmas.{value_among, found_injective, found_or_none}
use Rattle.script_lines.specs.declared.condition_words.ConditionName.{ConditionName}
use Rattle.script_lines.specs.declared.condition_words.ConditionName.TheVariants.{Verdict, Peer, From, Prefix, Within, Covering, Origin, Through}
use Rattle.script_lines.specs.declared.condition_words.Given.{Given}
use Rattle.script_lines.specs.Conditions.{condition_kind, condition_text, is_given, with_condition, with_given, AreConditions, FitConditions, IsConditionName, MayCome, SomeConditionNoNumber}
use Rattle.script_lines.specs.Kinds.{ValueOf, Spells, HasForm, LacksNumber}
use Rattle.script_lines.proofs.ValueLemmas.{decided_kind, no_lack, one_value, spelled-form, value_or_lacks}

-- the condition that a word could name
condition_of : List ℕ → ConditionName
condition_of = value_among condition_text Through (Verdict ∷ Peer ∷ From ∷ Prefix ∷ Within ∷ Covering ∷ Origin ∷ [])

condition_of-condition_text : (name : ConditionName) → condition_of (condition_text name) ≡ name
unfolding condition_of value_among
condition_of-condition_text Verdict = refl
condition_of-condition_text Peer = refl
condition_of-condition_text From = refl
condition_of-condition_text Prefix = refl
condition_of-condition_text Within = refl
condition_of-condition_text Covering = refl
condition_of-condition_text Origin = refl
condition_of-condition_text Through = refl

-- one word names one condition
same_name : (word : List ℕ) (one other : ConditionName) → word ≡ condition_text one → word ≡ condition_text other → one ≡ other
same_name word one other a b = found_injective condition_text condition_of condition_of-condition_text one other (sym a ∙ b)

-- whether a word names a condition
decided_condition : (word : List ℕ) → Decided (IsConditionName word)
decided_condition = found_or_none condition_text condition_of condition_of-condition_text

decided_free : (given : Bool) → Decided (given ≡ false)
decided_free false = inl refl
decided_free true = inr (λ free. cc)

-- conditions that are spelled fit
pub spelled_fit : (given : Given) (words : List (List ℕ)) (asked : Conditions) → AreConditions given words asked → FitConditions given words
spelled_fit given [] asked are = tt
spelled_fit given (word ∷ []) asked are = are
spelled_fit given (word ∷ next ∷ words) asked are =
    (are.0, are.1, spelled-form (condition_kind are.0) next are.2 are.3, spelled_fit (with_given are.0 given) words are.4 are.5)

-- what the first two words and the others must be, under a name
abbrev pub FitFirst : Given → ConditionName → List ℕ → List ℕ → List (List ℕ) → Type 0
FitFirst given name word next words = MayCome given name word × HasForm (condition_kind name) next × FitConditions (with_given name given) words

pub fit_first : (given : Given) (name : ConditionName) (word next : List ℕ) (words : List (List ℕ)) → word ≡ condition_text name
    → FitConditions given (word ∷ next ∷ words) → FitFirst given name word next words
fit_first given name word next words named fit =
    let P : ConditionName → Type 0 = λ name. FitFirst given name word next words in
    subst P (same_name word fit.0 name fit.1.named named) (fit.1, fit.2, fit.3)

-- whether words fit as conditions
pub decided_fit : (given : Given) (words : List (List ℕ)) → Decided (FitConditions given words)
decided_fit given [] = inl tt
decided_fit given (word ∷ []) = inr (λ fit. fit)
decided_fit given (word ∷ next ∷ words) =
    elim (decided_condition word) [
      | inr unnamed ↦ inr (λ fit. unnamed (fit.0, fit.1.named))
      | inl named ↦ elim (decided_both (decided_free (is_given named.0 given)) (decided_both (decided_kind (condition_kind named.0) next) (decided_fit (with_given named.0 given) words))) [
        | inl all ↦ inl (named.0, record { named = named.1; free = all.0 }, all.1.0, all.1.1)
        | inr not ↦ inr (λ fit. let first : FitFirst given named.0 word next words = fit_first given named.0 word next words named.1 fit in not (first.0.free, (first.1, first.2)))
      ]
    ]

-- words that fit spell conditions, or lack a number
pub condition_values : (given : Given) (words : List (List ℕ)) → FitConditions given words → SomeConditionNoNumber words ⊎ ((asked : Conditions) × AreConditions given words asked)
condition_values given [] fit = inr (no_conditions, refl)
condition_values given (word ∷ []) fit = absurd fit
condition_values given (word ∷ next ∷ words) fit =
    elim (value_or_lacks (condition_kind fit.0) next fit.2) [
      | inl lacks ↦ inl (inl (fit.0, fit.1.named, lacks))
      | inr v ↦ elim (condition_values (with_given fit.0 given) words fit.3) [
        | inl lacks ↦ inl (inr lacks)
        | inr more ↦ inr (with_condition fit.0 v.0 more.0, (fit.0, fit.1, v.0, v.1, more.0, more.1, refl))
      ]
    ]

-- the same under a name that is known
record First (given : Given) (name : ConditionName) (next : List ℕ) (words : List (List ℕ)) (asked : Conditions) : Type 0 where
  value : ValueOf (condition_kind name)
  spells : Spells (condition_kind name) next value
  others : Conditions
  are : AreConditions (with_given name given) words others
  is : asked ≡ with_condition name value others

first_of : (given : Given) (name : ConditionName) (word next : List ℕ) (words : List (List ℕ)) (asked : Conditions) → word ≡ condition_text name
    → AreConditions given (word ∷ next ∷ words) asked → First given name next words asked
first_of given name word next words asked named are =
    let P : ConditionName → Type 0 = λ name. First given name next words asked in
    subst P (same_name word are.0 name are.1.named named) (record { value = are.2; spells = are.3; others = are.4; are = are.5; is = are.6 })

-- words spell one list of conditions
pub one_conditions : (given : Given) (words : List (List ℕ)) (one other : Conditions) → AreConditions given words one → AreConditions given words other → one ≡ other
one_conditions given [] one other a b = a ∙ sym b
one_conditions given (word ∷ []) one other a b = absurd a
one_conditions given (word ∷ next ∷ words) one other a b =
    let name = a.0 in
    let second : First given name next words other = first_of given name word next words other a.1.named b in
    a.6
    ∙ ap (λ (v : ValueOf (condition_kind name)). with_condition name v a.4) (one_value (condition_kind name) next a.2 second.value a.3 second.spells)
    ∙ ap (λ (o : Conditions). with_condition name second.value o) (one_conditions (with_given name given) words a.4 second.others a.5 second.are)
    ∙ sym second.is

-- words that spell conditions lack no number
pub conditions_lack_none : (given : Given) (words : List (List ℕ)) (asked : Conditions) → AreConditions given words asked → SomeConditionNoNumber words → ⊥
conditions_lack_none given [] asked are lacks = lacks
conditions_lack_none given (word ∷ []) asked are lacks = lacks
conditions_lack_none given (word ∷ next ∷ words) asked are (inl lacks) =
    let P : ConditionName → Type 0 = λ name. LacksNumber (condition_kind name) next in
    no_lack (condition_kind are.0) next are.2 are.3 (subst P (same_name word lacks.0 are.0 lacks.1 are.1.named) lacks.2)
conditions_lack_none given (word ∷ next ∷ words) asked are (inr later) = conditions_lack_none (with_given are.0 given) words are.4 are.5 later
