-- What reading words of some form needs.
use Rattle.std.proofs.Common.{◌≡◌, ◌≢◌, inl, inr, ℕ, ◌≤◌, List, [], ◌∷◌, length, decimal, Some, IfOk, IfErr, refl, sym, ap, ◌∙◌, arith, subst}
use Rattle.std.specs.declared.result.Result.{Result}
use Rattle.std.specs.declared.result.Result.TheVariants.{Ok, Err}
use Rattle.std.proofs.lemmas.List.{length-map}
use Rattle.script_lines.specs.declared.commands.Command.{Command}
use Rattle.script_lines.specs.declared.commands.Command.TheVariants.{Idle}
use Rattle.script_lines.specs.declared.fault.LineFault.{LineFault}
use Rattle.script_lines.specs.declared.fault.LineFault.TheVariants.{Long, Command as NoCommand, Words, Number, NoMemory}
use Rattle.script_lines.specs.Kinds.{WordKind, ValueOf, Spells, HasForm}
use Rattle.script_lines.proofs.ValueLemmas.{spelled-form}
use Rattle.script_lines.proofs.ConditionLemmas.{spelled_fit}
use Rattle.script_lines.specs.Forms.{AreAses, Form, end, ases, texts, optional, ◌then◌, ◌or◌, conditions, Builds, IsSpelled, Fits}
use Rattle.script_lines.specs.Fields.{AreSpelled, RefusesWord, RefusesWords, joined}

-- some command can be made
some_build : (form : Form) → Builds form
some_build end = Idle
some_build (ases least) = λ ns. Idle
some_build texts = λ text. Idle
some_build (optional kind) = λ value. Idle
some_build (kind then form) = λ value. some_build form
some_build (form or other) = (some_build form, some_build other)
some_build (conditions given) = λ asked. Idle

-- words that spell values fit
pub spelled-fits : (form : Form) (build : Builds form) (words : List (List ℕ)) (command : Command) → IsSpelled form build words command → Fits form words
spelled-fits end made words command is = is.0
spelled-fits (ases least) build words command is = let same : length words ≡ length is.0 = ap length is.2.1 ∙ length-map is.0 decimal in let long = is.1 in omega arith
spelled-fits texts build words command is = (is.0, is.1)
spelled-fits (optional kind) build [] command is = tt
spelled-fits (optional kind) build (word ∷ words) command is = (spelled-form kind word is.0 is.1, is.2)
spelled-fits (kind then form) build [] command is = is
spelled-fits (kind then form) build (word ∷ words) command is = (spelled-form kind word is.0 is.1, spelled-fits form (build is.0) words command is.2)
spelled-fits (form or other) build words command (inl is) = inl (spelled-fits form build.0 words command is)
spelled-fits (form or other) build words command (inr is) = inr (spelled-fits other build.1 words command is.1)
spelled-fits (conditions given) build words command is = spelled_fit given words is.0 is.1

-- a word is refused before those behind it, unless for its number alone
then_refused : (kind : WordKind) (form : Form) (word : List ℕ) (words : List (List ℕ)) (one other : LineFault) →
    RefusesWord kind word one → RefusesWords form words other → (A B : Type 0) → IfErr (joined {A = A} {B = B} (Err one) (Err other)) (RefusesWords (kind then form) (word ∷ words))
then_refused kind form word words Words other first rest A B = λ fits. first fits.0
then_refused kind form word words Number Words first rest A B = λ fits. rest fits.1
then_refused kind form word words Number Number first rest A B = ((first.0, rest.0), inl first.1)
then_refused kind form word words Number NoMemory first rest A B = tt
then_refused kind form word words Number Long first rest A B = rest
then_refused kind form word words Number NoCommand first rest A B = rest
then_refused kind form word words NoMemory other first rest A B = tt
then_refused kind form word words Long other first rest A B = first
then_refused kind form word words NoCommand other first rest A B = first

-- a word is refused where those behind it are spelled
first_refused : (kind : WordKind) (form : Form) (word : List ℕ) (words : List (List ℕ)) (fault : LineFault) → RefusesWord kind word fault → Fits form words → RefusesWords (kind then form) (word ∷ words) fault
first_refused kind form word words Words first fits = λ both. first both.0
first_refused kind form word words Number first fits = ((first.0, fits), inl first.1)
first_refused kind form word words NoMemory first fits = tt
first_refused kind form word words Long first fits = first
first_refused kind form word words NoCommand first fits = first

-- words are refused behind one that is spelled
rest_refused : (kind : WordKind) (form : Form) (word : List ℕ) (words : List (List ℕ)) (fault : LineFault) → HasForm kind word → RefusesWords form words fault → RefusesWords (kind then form) (word ∷ words) fault
rest_refused kind form word words Words fits rest = λ both. rest both.1
rest_refused kind form word words Number fits rest = ((fits, rest.0), inr rest.1)
rest_refused kind form word words NoMemory fits rest = tt
rest_refused kind form word words Long fits rest = rest
rest_refused kind form word words NoCommand fits rest = rest

-- a word and those behind it, read
pub joined_refused_by : {A B : Type 0} (kind : WordKind) (form : Form) (word : List ℕ) (words : List (List ℕ)) (value : A → ValueOf kind) (one : Result A LineFault) (other : Result B LineFault) →
    IfOk one (λ v. Spells kind word (value v)) → IfErr one (RefusesWord kind word) →
    IfOk other (λ vs. Fits form words) → IfErr other (RefusesWords form words) →
    IfErr (joined one other) (RefusesWords (kind then form) (word ∷ words))
joined_refused_by kind form word words value (Ok a) (Ok b) spells first fits rest = tt
joined_refused_by kind form word words value (Ok a) (Err fault) spells first fits rest = rest_refused kind form word words fault (spelled-form kind word (value a) spells) rest
joined_refused_by kind form word words value (Err fault) (Ok b) spells first fits rest = first_refused kind form word words fault first fits
joined_refused_by {A = A} {B = B} kind form word words value (Err fault) (Err other) spells first fits rest = then_refused kind form word words fault other first rest A B

-- words that are spelled, whatever is made of them, fit
any_fits : {B : Type 0} (form : Form) (words : List (List ℕ)) (build : B → Builds form → Command) (other : Result B LineFault) →
    IfOk other (λ vs. AreSpelled form (build vs) words) → IfOk other (λ vs. Fits form words)
any_fits form words build (Ok b) spelled = spelled-fits form (some_build form) words (build b (some_build form)) (spelled (some_build form))
any_fits form words build (Err fault) spelled = tt

pub joined_refused : {A B : Type 0} (kind : WordKind) (form : Form) (word : List ℕ) (words : List (List ℕ)) (value : A → ValueOf kind) (build : B → Builds form → Command) (one : Result A LineFault) (other : Result B LineFault) →
    IfOk one (λ v. Spells kind word (value v)) → IfErr one (RefusesWord kind word) →
    IfOk other (λ vs. AreSpelled form (build vs) words) → IfErr other (RefusesWords form words) →
    IfErr (joined one other) (RefusesWords (kind then form) (word ∷ words))
joined_refused kind form word words value build one other spells first spelled rest =
    joined_refused_by kind form word words value one other spells first (any_fits form words build other spelled) rest

-- where the last word may be missing, it is refused as where it may not
last_refused : (kind : WordKind) (word : List ℕ) (words : List (List ℕ)) (fault : LineFault) → RefusesWords (kind then end) (word ∷ words) fault → RefusesWords (optional kind) (word ∷ words) fault
last_refused kind word words Words is = is
last_refused kind word words Number (fits, inl lacks) = (fits, lacks)
last_refused kind word words Number (fits, inr never) = absurd never
last_refused kind word words NoMemory is = tt
last_refused kind word words Long is = is
last_refused kind word words NoCommand is = is

pub if_err : {A : Type 0} (result : Result A LineFault) (fault : LineFault) (P : LineFault → Type 0) → result ≡ Err fault → IfErr result P → P fault
if_err {A = A} result fault P is holds = subst (λ (r : Result A LineFault). IfErr r P) is holds

-- a last word and no more behind it, refused
pub optional_refused : {A B : Type 0} (kind : WordKind) (word : List ℕ) (words : List (List ℕ)) (value : A → ValueOf kind) (build : B → Builds end → Command) (one : Result A LineFault) (other : Result B LineFault) (read : Result (A × B) LineFault) (fault : LineFault) →
    IfOk one (λ v. Spells kind word (value v)) → IfErr one (RefusesWord kind word) →
    IfOk other (λ vs. AreSpelled end (build vs) words) → IfErr other (RefusesWords end words) →
    read ≡ joined one other → read ≡ Err fault → RefusesWords (optional kind) (word ∷ words) fault
optional_refused kind word words value build one other read fault spells first spelled rest both is =
    last_refused kind word words fault
    (if_err (joined one other) fault (RefusesWords (kind then end) (word ∷ words)) (sym both ∙ is) (joined_refused kind end word words value build one other spells first spelled rest))

-- and spelled
pub optional_spelled : {A B : Type 0} (kind : WordKind) (word : List ℕ) (words : List (List ℕ)) (value : A → ValueOf kind) (build : B → Builds end → Command) (one : Result A LineFault) (other : Result B LineFault) (read : Result (A × B) LineFault) (a : A) (b : B) →
    IfOk one (λ v. Spells kind word (value v)) → IfOk other (λ vs. AreSpelled end (build vs) words) → read ≡ joined one other → read ≡ Ok (a, b) →
    (make : Builds (optional kind)) → IsSpelled (optional kind) make (word ∷ words) (make (Some (value a)))
optional_spelled {A = A} {B = B} kind word words value build (Ok v) (Ok u) read a b spells spelled both is make =
    let same : (v, u) ≡ (a, b) = cc in
    (value a, subst (λ (x : A). Spells kind word (value x)) (ap (λ (pair : A × B). pair.0) same) spells, (spelled Idle).0, refl)
optional_spelled kind word words value build (Ok v) (Err fault) read a b spells spelled both is make = cc
optional_spelled kind word words value build (Err fault) (Ok u) read a b spells spelled both is make = cc
optional_spelled kind word words value build (Err Words) (Err other) read a b spells spelled both is make = cc
optional_spelled kind word words value build (Err Number) (Err other) read a b spells spelled both is make = cc
optional_spelled kind word words value build (Err NoMemory) (Err other) read a b spells spelled both is make = cc
optional_spelled kind word words value build (Err Long) (Err other) read a b spells spelled both is make = cc
optional_spelled kind word words value build (Err NoCommand) (Err other) read a b spells spelled both is make = cc

-- words don't fit the first of two forms, and are refused by the other one
pub other_refused : (form other : Form) (words : List (List ℕ)) (fault : LineFault) → ¬ Fits form words → RefusesWords other words fault → RefusesWords (form or other) words fault
other_refused form other words Words not refused = elim [ inl fits ↦ not fits | inr fits ↦ refused fits ]
other_refused form other words Number not refused = (inr refused.0, inr (not, refused.1))
other_refused form other words NoMemory not refused = tt
other_refused form other words Long not refused = refused
other_refused form other words NoCommand not refused = refused

-- they fit the first one and are refused by it
pub first_form_refused : (form other : Form) (words : List (List ℕ)) (fault : LineFault) → fault ≢ Words → RefusesWords form words fault → RefusesWords (form or other) words fault
first_form_refused form other words Words some refused = absurd (some refl)
first_form_refused form other words Number some refused = (inl refused.0, inl (refused.0, refused.1))
first_form_refused form other words NoMemory some refused = tt
first_form_refused form other words Long some refused = refused
first_form_refused form other words NoCommand some refused = refused

-- ASes that are read are spelled
pub ases-spelled : (least : ℕ) (build : List ℕ → Command) (words : List (List ℕ)) (ns : List ℕ) → least ≤ length words → AreAses words ns → IsSpelled (ases least) build words (build ns)
ases-spelled least build words ns long are = let as_long : length words ≡ length ns = ap length are.1 ∙ length-map ns decimal in (ns, omega arith, are, refl)

pub ruleset ases_steps = (ases-spelled)
