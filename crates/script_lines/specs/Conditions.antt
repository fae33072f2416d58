-- The conditions of a `routes` line: each is a word and its value, and none comes twice.
use Rattle.std.specs.Prelude.{◌≡◌, ◌⊎◌, ℕ, Bool, true, false, List, [], ◌∷◌, codes}
use Rattle.std.specs.declared.option.Option.TheVariants.{Some}
use Rattle.conditions.specs.declared.asked.Conditions.{Conditions}
use Rattle.conditions.specs.Meets.{no_conditions}
use Rattle.script_lines.specs.declared.condition_words.ConditionName.{ConditionName}
use Rattle.script_lines.specs.declared.condition_words.ConditionName.TheVariants.{Verdict, Peer, From, Prefix, Within, Covering, Origin, Through}
use Rattle.script_lines.specs.declared.condition_words.Given.{Given}
use Rattle.script_lines.specs.Kinds.{WordKind, VERDICT, ADDRESS, PREFIX, AS, ValueOf, Spells, HasForm, LacksNumber}

-- the word of a condition,
abbrev pub condition_text : ConditionName → List ℕ
condition_text Verdict = codes "verdict"
condition_text Peer = codes "peer"
condition_text From = codes "from"
condition_text Prefix = codes "prefix"
condition_text Within = codes "within"
condition_text Covering = codes "covering"
condition_text Origin = codes "origin"
condition_text Through = codes "through"

-- the kind of its value,
abbrev pub condition_kind : ConditionName → WordKind
condition_kind Verdict = VERDICT
condition_kind Peer = AS
condition_kind From = ADDRESS
condition_kind Prefix = PREFIX
condition_kind Within = PREFIX
condition_kind Covering = PREFIX
condition_kind Origin = AS
condition_kind Through = AS

-- and the conditions with this one
abbrev pub with_condition : (name : ConditionName) → ValueOf (condition_kind name) → Conditions → Conditions
with_condition Verdict verdict others = record others { verdict = Some verdict }
with_condition Peer asn others = record others { peer = Some asn }
with_condition From addr others = record others { from = Some addr }
with_condition Prefix prefix others = record others { prefix = Some prefix }
with_condition Within prefix others = record others { within = Some prefix }
with_condition Covering prefix others = record others { covering = Some prefix }
with_condition Origin asn others = record others { origin = Some asn }
with_condition Through asn others = record others { through = Some asn }

-- a word that some condition begins with
abbrev pub IsConditionName : List ℕ → Type 0
IsConditionName word = (name : ConditionName) × (word ≡ condition_text name)

-- which conditions have come: none at first,
abbrev pub none_given : Given
none_given = record {
  verdict = false;
  peer = false;
  from = false;
  prefix = false;
  within = false;
  covering = false;
  origin = false;
  through = false;
}

-- whether this one has,
abbrev pub is_given : ConditionName → Given → Bool
is_given Verdict given = given.verdict
is_given Peer given = given.peer
is_given From given = given.from
is_given Prefix given = given.prefix
is_given Within given = given.within
is_given Covering given = given.covering
is_given Origin given = given.origin
is_given Through given = given.through

-- and those with this one
abbrev pub with_given : ConditionName → Given → Given
with_given Verdict given = record given { verdict = true }
with_given Peer given = record given { peer = true }
with_given From given = record given { from = true }
with_given Prefix given = record given { prefix = true }
with_given Within given = record given { within = true }
with_given Covering given = record given { covering = true }
with_given Origin given = record given { origin = true }
with_given Through given = record given { through = true }

-- a condition may stand here: the word is its name, and it hasn't come before
pub record MayCome (given : Given) (name : ConditionName) (word : List ℕ) : Type 0 where
  pub named : word ≡ condition_text name
  pub free : is_given name given ≡ false

-- the words spell these conditions, where some have come before
abbrev pub AreConditions : Given → List (List ℕ) → Conditions → Type 0
AreConditions given [] conditions = conditions ≡ no_conditions
AreConditions given (word ∷ []) conditions = ⊥
AreConditions given (word ∷ next ∷ words) conditions =
    (name : ConditionName) × MayCome given name word
    × (value : ValueOf (condition_kind name)) × Spells (condition_kind name) next value
    × (others : Conditions) × AreConditions (with_given name given) words others
    × (conditions ≡ with_condition name value others)

-- they may stand there, but for those where a number must stand
abbrev pub FitConditions : Given → List (List ℕ) → Type 0
FitConditions given [] = Unit {0}
FitConditions given (word ∷ []) = ⊥
FitConditions given (word ∷ next ∷ words) =
    (name : ConditionName) × MayCome given name word
    × HasForm (condition_kind name) next × FitConditions (with_given name given) words

-- where a number must stand, some word is none in its range
abbrev pub SomeConditionNoNumber : List (List ℕ) → Type 0
SomeConditionNoNumber [] = ⊥
SomeConditionNoNumber (word ∷ []) = ⊥
SomeConditionNoNumber (word ∷ next ∷ words) =
    ((name : ConditionName) × (word ≡ condition_text name) × LacksNumber (condition_kind name) next)
    ⊎ SomeConditionNoNumber words
