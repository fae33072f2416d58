-- What reading conditions needs.
use Rattle.std.proofs.Common.{◌≡◌, inl, inr, ℕ, true, List, [], ◌∷◌, IfOk, IfErr, refl, sym}
use Rattle.std.specs.declared.result.Result.{Result}
use Rattle.std.specs.declared.result.Result.TheVariants.{Ok, Err}
use Rattle.conditions.specs.declared.asked.Conditions.{Conditions}
use Rattle.script_lines.specs.declared.condition_words.ConditionName.{ConditionName}
use Rattle.script_lines.specs.declared.condition_words.Given.{Given}
use Rattle.script_lines.specs.declared.fault.LineFault.{LineFault}
use Rattle.script_lines.specs.declared.fault.LineFault.TheVariants.{Long, Command as NoCommand, Words, Number, NoMemory}
use Rattle.script_lines.specs.Conditions.{condition_kind, condition_text, is_given, with_given, AreConditions, FitConditions, IsConditionName, MayCome}
use Rattle.script_lines.specs.Kinds.{WordKind, ValueOf, Spells}
use Rattle.script_lines.specs.Forms.{conditions, ◌then◌, Fits}
use Rattle.script_lines.specs.Fields.{joined, IsWith, RefusesWith, RefusesWord, RefusesWords}
use Rattle.script_lines.proofs.ConditionLemmas.{fit_first, spelled_fit}
use Rattle.script_lines.proofs.FormLemmas.{if_err, joined_refused_by}

-- a first word that names no condition
pub unnamed_refused : (given : Given) (word : List ℕ) (words : List (List ℕ)) → ¬ IsConditionName word → ¬ FitConditions given (word ∷ words)
unnamed_refused given word [] unnamed = λ fit. fit
unnamed_refused given word (next ∷ words) unnamed = λ fit. unnamed (fit.0, fit.1.named)

-- one that has come before
pub again_refused : (given : Given) (name : ConditionName) (word next : List ℕ) (words : List (List ℕ)) → word ≡ condition_text name → is_given name given ≡ true
    → ¬ FitConditions given (word ∷ next ∷ words)
again_refused given name word next words named again = λ fit. let free = (fit_first given name word next words named fit).0.free in cc

-- a condition and those after it are refused as its value and they are
pair_refused : (given : Given) (name : ConditionName) (word next : List ℕ) (words : List (List ℕ)) (fault : LineFault) → MayCome given name word
    → RefusesWords (condition_kind name then conditions (with_given name given)) (next ∷ words) fault → RefusesWords (conditions given) (word ∷ next ∷ words) fault
pair_refused given name word next words Words may refused = λ fit. let first = fit_first given name word next words may.named fit in refused (first.1, first.2)
pair_refused given name word next words Number may (fits, inl lacks) = ((name, may, fits.0, fits.1), inl (name, may.named, lacks))
pair_refused given name word next words Number may (fits, inr later) = ((name, may, fits.0, fits.1), inr later)
pair_refused given name word next words NoMemory may refused = tt
pair_refused given name word next words Long may refused = refused
pair_refused given name word next words NoCommand may refused = refused

others_fit : (given : Given) (words : List (List ℕ)) (others : Result Conditions LineFault) → IfOk others (AreConditions given words) → IfOk others (λ read. Fits (conditions given) words)
others_fit given words (Ok asked) are = spelled_fit given words asked are
others_fit given words (Err fault) are = tt

-- the conditions with the first one, read
pub with_refused : (given : Given) (name : ConditionName) (word next : List ℕ) (words : List (List ℕ)) (others result : Result Conditions LineFault) → MayCome given name word
    → IfErr result (RefusesWith (condition_kind name) next others)
    → IfOk others (AreConditions (with_given name given) words) → IfErr others (RefusesWords (conditions (with_given name given)) words)
    → IfErr result (RefusesWords (conditions given) (word ∷ next ∷ words))
with_refused given name word next words others (Ok all) may refused spelled rest = tt
with_refused given name word next words others (Err fault) may refused spelled rest =
    pair_refused given name word next words fault may
    (refused (conditions (with_given name given)) words (others_fit (with_given name given) words others spelled) rest)

pub with_spelled : (given : Given) (name : ConditionName) (word next : List ℕ) (words : List (List ℕ)) (others result : Result Conditions LineFault) → MayCome given name word
    → IfOk result (IsWith name next others) → IfOk others (AreConditions (with_given name given) words) → IfOk result (AreConditions given (word ∷ next ∷ words))
with_spelled given name word next words (Ok more) (Ok all) may is spelled =
    let same : more ≡ is.more = let others = is.others_are in cc in
    (name, may, is.value, is.spells, is.more, rw (sym same) spelled, is.all_are)
with_spelled given name word next words (Err fault) (Ok all) may is spelled = let others = is.others_are in cc
with_spelled given name word next words others (Err fault) may is spelled = tt

-- a value beside the other conditions
pub value_refused : {A : Type 0} (kind : WordKind) (word : List ℕ) (value : A → ValueOf kind) (one : Result A LineFault) (others : Result Conditions LineFault)
    (result : Result (A × Conditions) LineFault) → IfOk one (λ v. Spells kind word (value v)) → IfErr one (RefusesWord kind word) → result ≡ joined one others
    → IfErr result (RefusesWith kind word others)
value_refused kind word value one others (Ok both) spells first is = tt
value_refused kind word value one others (Err fault) spells first is =
    λ form words fits rest. if_err (joined one others) fault (RefusesWords (kind then form) (word ∷ words)) (sym is) (joined_refused_by kind form word words value one others spells first fits rest)

pub value_spelled : {A : Type 0} (kind : WordKind) (word : List ℕ) (value : A → ValueOf kind) (one : Result A LineFault) (others : Result Conditions LineFault)
    (result : Result (A × Conditions) LineFault) → IfOk one (λ v. Spells kind word (value v)) → result ≡ joined one others
    → IfOk result (λ r. Spells kind word (value r.0) × (others ≡ Ok r.1))
value_spelled kind word value (Ok v) (Ok more) result spells is = rw is (spells, refl)
value_spelled kind word value (Ok v) (Err fault) result spells is = rw is tt
value_spelled kind word value (Err fault) (Ok more) result spells is = rw is tt
value_spelled kind word value (Err Words) (Err fault) result spells is = rw is tt
value_spelled kind word value (Err Number) (Err fault) result spells is = rw is tt
value_spelled kind word value (Err NoMemory) (Err fault) result spells is = rw is tt
value_spelled kind word value (Err Long) (Err fault) result spells is = rw is tt
value_spelled kind word value (Err NoCommand) (Err fault) result spells is = rw is tt
