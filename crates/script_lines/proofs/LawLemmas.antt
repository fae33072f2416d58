-- Each line has one reading.
use Rattle.std.proofs.Common.{◌≡◌, inl, inr, ℕ, ◌<◌, List, [], ◌∷◌, length, Some, Ok, Err, refl, sym, ap, ◌∙◌, arith, subst}
use Rattle.std.specs.List.{All}
use Rattle.std.specs.declared.result.Result.{Result}
use Rattle.std.proofs.lemmas.Bool.{cases_eq, cases_lt}
use Rattle.path_model.proofs.Decide.{Decided, decided_either, decided_both}
use Rattle.av_text.specs.Words.{words_of}
use Rattle.script_lines.specs.declared.commands.Command.{Command}
use Rattle.script_lines.specs.declared.commands.Command.TheVariants.{Idle}
use Rattle.script_lines.specs.declared.commands.CommandName.{CommandName}
use Rattle.script_lines.specs.declared.fault.LineFault.{LineFault}
use Rattle.script_lines.specs.declared.fault.LineFault.TheVariants.{Long, Command as NoCommand, Words, Number, NoMemory}
use Rattle.script_lines.specs.Forms.{Fits, SomeNoNumber}
use Rattle.script_lines.specs.Commands.{name_text, form_of, made_by, SpellsCommand}
use Rattle.script_lines.specs.Grammar.{IsComment, IsRead, IsPrintable, IsNamed, IsReading}
use Rattle.av_base.specs.One.{HasOne}
use Rattle.script_lines.proofs.NameLemmas.{name_text_injective, decided_name}
use Rattle.script_lines.proofs.FormLemmas.{spelled-fits}
use Rattle.script_lines.proofs.ValueLemmas.{decided_le, decided_all}
use Rattle.script_lines.proofs.SpellingLemmas.{decided_fits, spelled_or_lacks, one_command, lacks_none}

-- a test that holds, and what follows then, or one that fails, and what follows otherwise
data Tested (P A B : Type 0) : Type 0 where
  passed : P → A → Tested P A B
  failed : (P → ⊥) → B → Tested P A B

-- a test has one outcome
one_outcome : {P A B C D : Type 0} (G : Type 0) → (A → C → G) → (B → D → G) → Tested P A B → Tested P C D → G
one_outcome G if_so if_not (passed p a) (passed q c) = if_so a c
one_outcome G if_so if_not (passed p a) (failed q d) = absurd (q p)
one_outcome G if_so if_not (failed p b) (passed q c) = absurd (p q)
one_outcome G if_so if_not (failed p b) (failed q d) = if_not b d

-- the words behind the name spell a command, and the reading is that
record ReadsAs (name : CommandName) (words : List (List ℕ)) (reading : Result Command LineFault) : Type 0 where
  command : Command
  spelled : SpellsCommand name words command
  reading_is : reading ≡ Ok command

-- how the line is read, by the tests from each on
abbrev ByNumbers : CommandName → List (List ℕ) → Result Command LineFault → Type 0
ByNumbers name words reading = Tested (SomeNoNumber (form_of name) words) (reading ≡ Err Number) (ReadsAs name words reading)

abbrev ByForm : List ℕ → CommandName → List (List ℕ) → Result Command LineFault → Type 0
ByForm line name words reading = Tested (All IsPrintable line × Fits (form_of name) words) (ByNumbers name words reading) (reading ≡ Err Words)

record Named (line : List ℕ) (reading : Result Command LineFault) : Type 0 where
  name : CommandName
  words : List (List ℕ)
  words_are : words_of line ≡ name_text name ∷ words
  by_form : ByForm line name words reading

abbrev ByName : List ℕ → Result Command LineFault → Type 0
ByName line reading = Tested ((name : CommandName) × (words : List (List ℕ)) × (words_of line ≡ name_text name ∷ words)) (Named line reading) (reading ≡ Err NoCommand)

abbrev ByWords : List ℕ → Result Command LineFault → Type 0
ByWords line reading = Tested (words_of line ≡ []) (reading ≡ Ok Idle) (ByName line reading)

abbrev ByLength : List ℕ → Result Command LineFault → Type 0
ByLength line reading = Tested (4096 < length line) (reading ≡ Err Long) (ByWords line reading)

abbrev ByTests : List ℕ → Result Command LineFault → Type 0
ByTests line reading = Tested (IsComment line) (reading ≡ Ok Idle) (ByLength line reading)

-- a line that is read by its words
by_words : (line : List ℕ) (reading : Result Command LineFault) → IsRead line → ByWords line reading → ByTests line reading
by_words line reading read rest = failed read.no_comment (failed (λ long. let short = read.short in omega arith) rest)

-- words are not none
some_words : {first : List ℕ} {words more : List (List ℕ)} → words ≡ first ∷ more → words ≡ [] → ⊥
some_words some none = cc

-- a line whose first word names a command
by_form : (line : List ℕ) (reading : Result Command LineFault) (named : IsNamed line) → ByForm line named.name named.words reading → ByTests line reading
by_form line reading named rest =
    by_words line reading named.read (failed (some_words named.words_are)
    (passed (named.name, named.words, named.words_are) (record { name = named.name; words = named.words; words_are = named.words_are; by_form = rest })))

-- equal lists of words begin alike
same_first : {one other : List ℕ} {words more others : List (List ℕ)} → words ≡ one ∷ more → words ≡ other ∷ others → one ≡ other
same_first a b = cc

same_rest : {one other : List ℕ} {words more others : List (List ℕ)} → words ≡ one ∷ more → words ≡ other ∷ others → more ≡ others
same_rest a b = cc

-- each reading is the outcome of the tests
by_tests : (line : List ℕ) (reading : Result Command LineFault) → IsReading line reading → ByTests line reading
by_tests line (Ok command) (inl (inl comment, is)) = passed comment (ap Ok is)
by_tests line (Ok command) (inl (inr empty, is)) = by_words line (Ok command) empty.0 (passed empty.1 (ap Ok is))
by_tests line (Ok command) (inr (named, printable, spelled)) =
    by_form line (Ok command) named
    (passed (printable, spelled-fits (form_of named.name) (made_by named.name) named.words command spelled)
    (failed (lacks_none (form_of named.name) (made_by named.name) named.words command spelled) (record { command = command; spelled = spelled; reading_is = refl })))
by_tests line (Err Long) is = failed is.0 (passed is.1 refl)
by_tests line (Err NoCommand) is =
    by_words line (Err NoCommand) is.0 (failed (some_words is.1.2) (failed (λ named. is.1.3 (named.0, same_first is.1.2 named.2)) refl))
by_tests line (Err Words) (named, misfits) = by_form line (Err Words) named (failed misfits refl)
by_tests line (Err Number) (named, formed, lacks) = by_form line (Err Number) named (passed formed (passed lacks refl))
by_tests line (Err NoMemory) is = absurd is

-- two readings by the same tests are equal
both_are : {one other value : Result Command LineFault} → one ≡ value → other ≡ value → one ≡ other
both_are a b = a ∙ sym b

one_by_numbers : (name : CommandName) (words : List (List ℕ)) (one other : Result Command LineFault) → ByNumbers name words one → ByNumbers name words other → one ≡ other
one_by_numbers name words one other = one_outcome (one ≡ other) both_are
    (λ a b. a.reading_is ∙ ap Ok (one_command (form_of name) (made_by name) words a.command b.command a.spelled b.spelled) ∙ sym b.reading_is)

one_by_form : (line : List ℕ) (name : CommandName) (words : List (List ℕ)) (one other : Result Command LineFault) → ByForm line name words one → ByForm line name words other → one ≡ other
one_by_form line name words one other = one_outcome (one ≡ other) (one_by_numbers name words one other) both_are

one_named : (line : List ℕ) (one other : Result Command LineFault) → Named line one → Named line other → one ≡ other
one_named line one other a b =
    let names : a.name ≡ b.name = name_text_injective a.name b.name (same_first a.words_are b.words_are) in
    let words : a.words ≡ b.words = same_rest a.words_are b.words_are in
    let P : CommandName → Type 0 = λ name. ByForm line name b.words other in
    let Q : List (List ℕ) → Type 0 = λ words. ByForm line a.name words other in
    one_by_form line a.name a.words one other a.by_form (subst Q (sym words) (subst P (sym names) b.by_form))

one_by_tests : (line : List ℕ) (one other : Result Command LineFault) → ByTests line one → ByTests line other → one ≡ other
one_by_tests line one other =
    one_outcome (one ≡ other) both_are (one_outcome (one ≡ other) both_are (one_outcome (one ≡ other) both_are (one_outcome (one ≡ other) (one_named line one other) both_are)))

-- a line has no two readings
pub IsReading-unique : (line : List ℕ) (one other : Result Command LineFault) → IsReading line one → IsReading line other → one ≡ other
IsReading-unique line one other a b = one_by_tests line one other (by_tests line one a) (by_tests line other b)

-- some reading
abbrev pub SomeReading : List ℕ → Type 0
SomeReading line = (reading : Result Command LineFault) × IsReading line reading

decided_comment : (line : List ℕ) → Decided (IsComment line)
decided_comment [] = inr (λ same. cc)
decided_comment (byte ∷ bytes) = elim (cases_eq byte 35) [ inl same ↦ inl (ap Some same) | inr other ↦ inr (λ same. other (cc)) ]

decided_printable : (byte : ℕ) → Decided (IsPrintable byte)
decided_printable byte = decided_either (cases_eq byte 9) (decided_both (decided_le 32 byte) (decided_le byte 126))

some_of_name : (line : List ℕ) (named : IsNamed line) → SomeReading line
some_of_name line named =
    elim (decided_both (decided_all IsPrintable decided_printable line) (decided_fits (form_of named.name) named.words)) [
      | inr misfits ↦ (Err Words, (named, misfits))
      | inl fits ↦ elim (spelled_or_lacks (form_of named.name) (made_by named.name) named.words fits.1) [
        | inl lacks ↦ (Err Number, (named, fits, lacks))
        | inr command ↦ (Ok command.0, inr (named, fits.0, command.1))
      ]
    ]

some_of_words : (line : List ℕ) (words : List (List ℕ)) → IsRead line → words_of line ≡ words → SomeReading line
some_of_words line [] read words_are = (Ok Idle, inl (inr (read, words_are), refl))
some_of_words line (first ∷ more) read words_are =
    elim (decided_name first) [
      | inr unnamed ↦ (Err NoCommand, (read, (first, more, words_are, unnamed)))
      | inl named ↦ some_of_name line (record { read = read; name = named.0; words = more; words_are = words_are ∙ ap (λ (w : List ℕ). w ∷ more) named.1 })
    ]

-- each line has a reading
pub some_reading : (line : List ℕ) → SomeReading line
some_reading line =
    elim (decided_comment line) [
      | inl comment ↦ (Ok Idle, inl (inl comment, refl))
      | inr no_comment ↦ elim (cases_lt 4096 (length line)) [
        | inl long ↦ (Err Long, (no_comment, long))
        | inr short ↦ some_of_words line (words_of line) (record { no_comment = no_comment; short = short }) refl
      ]
    ]

-- each line has one reading
pub one_reading : (line : List ℕ) → HasOne (IsReading line)
one_reading line =
    let found : SomeReading line = some_reading line in
    record { one = found.0; is = found.1; only = λ other reads. IsReading-unique line other found.0 reads found.1 }
