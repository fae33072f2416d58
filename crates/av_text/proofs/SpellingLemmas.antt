-- A text is the spelling of one of some values, or of none, and no two values share a text.
use Rattle.std.proofs.Common.{◌≡◌, inl, inr, ℕ, cond, List, [], ◌∷◌, refl, sym, ap, ◌∙◌}
use Rattle.std.specs.Str.{bytes_eq}
use Rattle.std.proofs.lemmas.Bool.{cases_Bool}
use Rattle.std.proofs.lemmas.Slice.Eq.{bytes_eq-Decides}
use Rattle.path_model.specs.declared.role.Role.{Role}
use Rattle.path_model.specs.declared.role.Role.TheVariants.{Provider, Customer, Peer, Rs, RsClient, Mutual}
use Rattle.path_model.proofs.Decide.{Decided}
use Rattle.av_text.specs.RoleText.{role_text}

-- whether two texts are equal
pub decided_text : (one other : List ℕ) → Decided (one ≡ other)
decided_text one other =
    elim (cases_Bool (bytes_eq one other)) [
      | inl same ↦ inl ((bytes_eq-Decides one other).0 same)
      | inr differ ↦ inr (λ same. let equal = (bytes_eq-Decides one other).1 same in let no : ⊥ = cc in no)
    ]

-- the first of some values that is written so, or else another value
unfoldable pub value_among : {A : Type 0} (spell : A → List ℕ) → A → List A → List ℕ → A
value_among spell other [] text = other
value_among spell other (value ∷ values) text = cond (bytes_eq text (spell value)) value (value_among spell other values text)

-- values that are found by their texts have texts of their own
pub found_injective : {A : Type 0} (spell : A → List ℕ) (find : List ℕ → A) → ((a : A) → find (spell a) ≡ a) → (a b : A) → spell a ≡ spell b → a ≡ b
found_injective spell find finds a b same = sym (finds a) ∙ ap find same ∙ finds b

-- and a text is that of one of them or of none
pub found_or_none : {A : Type 0} (spell : A → List ℕ) (find : List ℕ → A) → ((a : A) → find (spell a) ≡ a) → (text : List ℕ) → Decided ((a : A) × (text ≡ spell a))
found_or_none spell find finds text =
    elim (decided_text text (spell (find text))) [
      | inl same ↦ inl (find text, same)
      | inr differs ↦ inr (λ spelled. differs (spelled.1 ∙ ap spell (sym (finds spelled.0) ∙ ap find (sym spelled.1))))
    ]

-- the role that a text could name
role_of : List ℕ → Role
role_of = value_among role_text Mutual (Provider ∷ Customer ∷ Peer ∷ Rs ∷ RsClient ∷ [])

role_of-role_text : (role : Role) → role_of (role_text role) ≡ role
unfolding role_of value_among
role_of-role_text Provider = refl
role_of-role_text Customer = refl
role_of-role_text Peer = refl
role_of-role_text Rs = refl
role_of-role_text RsClient = refl
role_of-role_text Mutual = refl

-- two roles with one text are equal
pub role_text_injective : (one other : Role) → role_text one ≡ role_text other → one ≡ other
role_text_injective = found_injective role_text role_of role_of-role_text

-- whether a text names a role
pub decided_role : (text : List ℕ) → Decided ((role : Role) × (text ≡ role_text role))
decided_role = found_or_none role_text role_of role_of-role_text
