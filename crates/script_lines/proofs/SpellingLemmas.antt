-- Words spell commands or don't, each at most one, form by form.
use Rattle.std.proofs.Common.{◌≡◌, ◌⊎◌, inl, inr, ℕ, zero, suc, ◌<◌, ◌≤◌, ◌^◌, Bool, true, false, List, [], ◌∷◌, ◌++◌, length, map, codes, decimal, slice_get, Option, Some, None, lit<, lit≤, refl, sym, ap, ◌∙◌, arith, subst}
use Rattle.std.specs.Bool.{IsTrue}
use Rattle.std.specs.List.{All}
use Rattle.std.proofs.lemmas.Bool.{cases_lt}
use Rattle.std.proofs.lemmas.List.Elements.{All-head, All-tail, All-cons, All-nil}
use Rattle.path_model.specs.declared.addr.Addr.{Addr}
use Rattle.path_model.specs.declared.peer.Peer.{Peer}
use Rattle.path_model.specs.declared.verdict.Verdict.{Verdict}
use Rattle.path_model.specs.declared.verdict.Verdict.TheVariants.{Valid, Unknown, Invalid}
use Rattle.path_model.specs.Name.{IsName, is_name_byte}
use Rattle.path_model.specs.Prefix.{IsAddr, IsSubnet}
use Rattle.path_model.proofs.Decide.{Decided, decided_both, decided_either}
use Rattle.av_text.specs.AddressText.{addr_text, IsAddrText}
use Rattle.av_text.specs.Number.{Is32Bit, IsNoNumber}
use Rattle.av_text.specs.PrefixText.{prefix_text}
use Rattle.av_text.specs.Spellings.{SpellsOne}
use Rattle.av_text.specs.VerdictText.{verdict_text}
use Rattle.av_text.proofs.AnySpellingLemmas.{addr_or_none, prefix_or_none, prefix_text_injective, peer_text_injective}
use Rattle.av_text.proofs.NumberLemmas.{number_or_none, no_number-other, map-decimal_injective}
use Rattle.av_text.proofs.SpellingLemmas.{value_among, found_injective, found_or_none, decided_text, role_text_injective, decided_role}
use Rattle.script_lines.specs.declared.commands.Command.{Command}
use Rattle.script_lines.specs.Word.{IsVisible}
use Rattle.script_lines.specs.Kinds.{view_text, WordKind, NAME, TEXT, ROLE, VIEW, VERDICT, ADDRESS, PREFIX, NUMBER, WHOM, ValueOf, Spells, HasForm, LacksNumber}
use Rattle.script_lines.specs.Forms.{Form, end, ases, texts, optional, ◌then◌, ◌or◌, conditions, sentence, Builds, IsSpelled, Fits, SomeNoAs, SomeNoNumber}
use Rattle.script_lines.proofs.AsLemmas.{no_as_first, no_as_later}
use Rattle.script_lines.proofs.FormLemmas.{ases-spelled, spelled-fits}
use Rattle.script_lines.proofs.ValueLemmas.{decided_le, decided_all, decided_kind, value_or_lacks, one_value, no_lack}
use Rattle.script_lines.proofs.ConditionLemmas.{decided_fit, condition_values, one_conditions, conditions_lack_none}
use Rattle.script_lines.proofs.KindLemmas.{one_number, lacks-none, lacks-outside, lacks-whom}

-- some of the words isn't an AS, or they are these ASes
numbers_or_none : (words : List (List ℕ)) → SomeNoAs words ⊎ ((ns : List ℕ) × All Is32Bit ns × (words ≡ map decimal ns))
numbers_or_none [] = inr ([], All-nil Is32Bit, refl)
numbers_or_none (word ∷ more) =
    elim (number_or_none word) [
      | inl none ↦ inl (no_as_first word more none)
      | inr n ↦ elim (numbers_or_none more) [
        | inl some ↦ inl (no_as_later word more some)
        | inr ns ↦ inr (n.0 ∷ ns.0, All-cons Is32Bit n.0 ns.0 n.1 ns.1, cc (n.2, ns.2))
      ]
    ]

-- an AS's word is an AS
number_at : (ns : List ℕ) (place : ℕ) (word : List ℕ) → All Is32Bit ns → slice_get (map decimal ns) place ≡ Some word → IsNoNumber word → ⊥
number_at [] zero word small among no_number = cc
number_at [] (suc k) word small among no_number = cc
number_at (n ∷ ns) zero word small among no_number = no_number n (All-head Is32Bit n ns small) (cc)
number_at (n ∷ ns) (suc k) word small among no_number = number_at ns k word (All-tail Is32Bit n ns small) among no_number

-- whether there are no words
decided_none : (words : List (List ℕ)) → Decided (words ≡ [])
decided_none [] = inl refl
decided_none (word ∷ words) = inr (λ same. cc)

-- whether words fit a form
pub decided_fits : (form : Form) (words : List (List ℕ)) → Decided (Fits form words)
decided_fits end words = decided_none words
decided_fits (ases least) words = decided_le least (length words)
decided_fits texts words = decided_both (decided_le 1 (length words)) (decided_all (HasForm TEXT) (decided_kind TEXT) words)
decided_fits (optional kind) [] = inl tt
decided_fits (optional kind) (word ∷ words) = decided_both (decided_kind kind word) (decided_none words)
decided_fits (kind then form) [] = inr (λ no. no)
decided_fits (kind then form) (word ∷ words) = decided_both (decided_kind kind word) (decided_fits form words)
decided_fits (form or other) words = decided_either (decided_fits form words) (decided_fits other words)
decided_fits (conditions given) words = decided_fit given words

-- of two one holds, and not the first
the_other : {P Q : Type 0} → (P → ⊥) → P ⊎ Q → Q
the_other not (inl p) = absurd (not p)
the_other not (inr q) = q

-- words that fit spell a command, or lack a number
pub spelled_or_lacks : (form : Form) (build : Builds form) (words : List (List ℕ)) → Fits form words → SomeNoNumber form words ⊎ ((command : Command) × IsSpelled form build words command)
spelled_or_lacks end made words fits = inr (made, (fits, refl))
spelled_or_lacks (ases least) build words fits =
    elim (numbers_or_none words) [
      | inl some ↦ inl some
      | inr ns ↦ inr (build ns.0, ases-spelled least build words ns.0 fits (ns.1, ns.2))
    ]
spelled_or_lacks texts build words fits = inr (build (sentence words), (fits.0, fits.1, refl))
spelled_or_lacks (optional kind) build [] fits = inr (build None, refl)
spelled_or_lacks (optional kind) build (word ∷ words) fits =
    elim (value_or_lacks kind word fits.0) [
      | inl lacks ↦ inl lacks
      | inr v ↦ inr (build (Some v.0), (v.0, v.1, fits.1, refl))
    ]
spelled_or_lacks (kind then form) build [] fits = absurd fits
spelled_or_lacks (kind then form) build (word ∷ words) fits =
    elim (value_or_lacks kind word fits.0) [
      | inl lacks ↦ inl (inl lacks)
      | inr v ↦ elim (spelled_or_lacks form (build v.0) words fits.1) [
        | inl lacks ↦ inl (inr lacks)
        | inr command ↦ inr (command.0, (v.0, v.1, command.1))
      ]
    ]
spelled_or_lacks (form or other) build words fits =
    elim (decided_fits form words) [
      | inl here ↦ elim (spelled_or_lacks form build.0 words here) [
        | inl lacks ↦ inl (inl (here, lacks))
        | inr command ↦ inr (command.0, inl command.1)
      ]
      | inr not ↦ elim (spelled_or_lacks other build.1 words (the_other not fits)) [
        | inl lacks ↦ inl (inr (not, lacks))
        | inr command ↦ inr (command.0, inr (not, command.1))
      ]
    ]
spelled_or_lacks (conditions given) build words fits =
    elim (condition_values given words fits) [
      | inl lacks ↦ inl lacks
      | inr asked ↦ inr (build asked.0, (asked.0, asked.1, refl))
    ]

-- words spell one command
pub one_command : (form : Form) (build : Builds form) (words : List (List ℕ)) (one other : Command) → IsSpelled form build words one → IsSpelled form build words other → one ≡ other
one_command end made words one other a b = a.1 ∙ sym b.1
one_command (ases least) build words one other a b = a.3 ∙ ap build (map-decimal_injective a.0 b.0 a.2.0 b.2.0 (sym a.2.1 ∙ b.2.1)) ∙ sym b.3
one_command texts build words one other a b = a.2 ∙ sym b.2
one_command (optional kind) build [] one other a b = a ∙ sym b
one_command (optional kind) build (word ∷ words) one other a b =
    a.3 ∙ ap (λ (v : ValueOf kind). build (Some v)) (one_value kind word a.0 b.0 a.1 b.1) ∙ sym b.3
one_command (kind then form) build [] one other a b = absurd a
one_command (kind then form) build (word ∷ words) one other a b =
    let same : a.0 ≡ b.0 = one_value kind word a.0 b.0 a.1 b.1 in
    let P : ValueOf kind → Type 0 = λ v. IsSpelled form (build v) words other in
    one_command form (build a.0) words one other a.2 (subst P (sym same) b.2)
one_command (form or next) build words one other (inl a) (inl b) = one_command form build.0 words one other a b
one_command (form or next) build words one other (inl a) (inr b) = absurd (b.0 (spelled-fits form build.0 words one a))
one_command (form or next) build words one other (inr a) (inl b) = absurd (a.0 (spelled-fits form build.0 words other b))
one_command (form or next) build words one other (inr a) (inr b) = one_command next build.1 words one other a.1 b.1
one_command (conditions given) build words one other a b = a.2 ∙ ap build (one_conditions given words a.0 b.0 a.1 b.1) ∙ sym b.2

-- words that spell a command lack no number
pub lacks_none : (form : Form) (build : Builds form) (words : List (List ℕ)) (command : Command) → IsSpelled form build words command → SomeNoNumber form words → ⊥
lacks_none end made words command is lacks = lacks
lacks_none (ases least) build words command is some = number_at is.0 some.place some.word is.2.0 (ap (λ (ws : List (List ℕ)). slice_get ws some.place) (sym is.2.1) ∙ some.among) some.no_number
lacks_none texts build words command is lacks = lacks
lacks_none (optional kind) build [] command is lacks = lacks
lacks_none (optional kind) build (word ∷ words) command is lacks = no_lack kind word is.0 is.1 lacks
lacks_none (kind then form) build [] command is lacks = lacks
lacks_none (kind then form) build (word ∷ words) command is (inl here) = no_lack kind word is.0 is.1 here
lacks_none (kind then form) build (word ∷ words) command is (inr later) = lacks_none form (build is.0) words command is.2 later
lacks_none (form or other) build words command (inl is) (inl lacks) = lacks_none form build.0 words command is lacks.1
lacks_none (form or other) build words command (inl is) (inr lacks) = lacks.0 (spelled-fits form build.0 words command is)
lacks_none (form or other) build words command (inr is) (inl lacks) = is.0 lacks.0
lacks_none (form or other) build words command (inr is) (inr lacks) = lacks_none other build.1 words command is.1 lacks.1
lacks_none (conditions given) build words command is lacks = conditions_lack_none given words is.0 is.1 lacks
