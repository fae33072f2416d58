-- Each file has one reading.
use Rattle.std.proofs.Common.{◌≡◌, ℕ, ◌⊎◌, inl, inr, List, refl, sym, ap, subst}
use Rattle.std.specs.declared.result.Result.{Result}
use Rattle.std.specs.declared.result.Result.TheVariants.{Ok, Err}
use Rattle.serde_json.specs.Data.{Data}
use Rattle.av_base.specs.One.{HasOne}
use Rattle.json_fields.specs.Tree.{IsTree}
use Rattle.json_fields.proofs.FoundLemmas.{SomeOrNone}
use Rattle.json_fields.proofs.TreeLemmas.{one_tree, tree_or_none}
use Rattle.validated.specs.Content.{HasNumbers, IsContent}
use Rattle.validated.specs.Form.{Form, IsFile}
use Rattle.validated.specs.Laws.{EachFileHasOneReading}
use Rattle.validated.specs.Reading.{IsFormed, IsReading}
use Rattle.validated.specs.declared.fault.ValidatedFault.{ValidatedFault}
use Rattle.validated.specs.declared.fault.ValidatedFault.TheVariants.{Json, Member, Number, Prefix, NoMemory}
use Rattle.validated.specs.declared.validated_file.Validated.{Validated}
use Rattle.validated.proofs.ContentLemmas.{content_numbers, content_or_none, numbers_or_not, one_content}
use Rattle.validated.proofs.FormLemmas.{form_or_none, one_form}

-- ---- what each step that fails leaves

only_json : (bytes : List ℕ) → ((t : Data) → IsTree bytes t → ⊥) → (r : Result Validated ValidatedFault) → IsReading bytes r → r ≡ Err Json
only_json bytes none (Ok v) h = absurd (none h.formed.tree h.formed.parsed)
only_json bytes none (Err Json) h = refl
only_json bytes none (Err Member) h = absurd (none h.0 h.1)
only_json bytes none (Err Number) h = absurd (none h.1.tree h.1.parsed)
only_json bytes none (Err Prefix) h = absurd (none h.1.tree h.1.parsed)
only_json bytes none (Err NoMemory) h = absurd h

module _ (bytes : List ℕ) (t : Data) (tree : IsTree bytes t) where
  -- the form of another tree is this one's
  formed_of : (form : Form) → IsFormed bytes form → IsFile t form
  formed_of form h = subst (λ (d : Data). IsFile d form) (one_tree bytes h.tree t h.parsed tree) h.formed

  only_member : ((f : Form) → IsFile t f → ⊥) → (r : Result Validated ValidatedFault) → IsReading bytes r → r ≡ Err Member
  only_member none (Ok v) h = absurd (none h.form (formed_of h.form h.formed))
  only_member none (Err Json) h = absurd (h t tree)
  only_member none (Err Member) h = refl
  only_member none (Err Number) h = absurd (none h.0 (formed_of h.0 h.1))
  only_member none (Err Prefix) h = absurd (none h.0 (formed_of h.0 h.1))
  only_member none (Err NoMemory) h = absurd h

  module _ (f : Form) (file : IsFile t f) where
    formed : IsFormed bytes f
    formed = record { tree = t; parsed = tree; formed = file }

    has_form : (u : Data) → IsTree bytes u → ((g : Form) → IsFile u g → ⊥) → ⊥
    has_form u other none = none f (subst (λ (d : Data). IsFile d f) (one_tree bytes t u tree other) file)

    same_form : (g : Form) → IsFormed bytes g → g ≡ f
    same_form g other = one_form t g f (formed_of g other) file

    their_numbers : (g : Form) → IsFormed bytes g → HasNumbers g → HasNumbers f
    their_numbers g other has = subst HasNumbers (same_form g other) has

    own_numbers : (g : Form) → IsFormed bytes g → HasNumbers f → HasNumbers g
    own_numbers g other has = subst HasNumbers (sym (same_form g other)) has

    their_content : (g : Form) → IsFormed bytes g → (v : Validated) → IsContent g v → IsContent f v
    their_content g other v is = subst (λ (x : Form). IsContent x v) (same_form g other) is

    own_content : (g : Form) → IsFormed bytes g → (v : Validated) → IsContent f v → IsContent g v
    own_content g other v is = subst (λ (x : Form). IsContent x v) (sym (same_form g other)) is

    only_number : (HasNumbers f → ⊥) → (r : Result Validated ValidatedFault) → IsReading bytes r → r ≡ Err Number
    only_number none (Ok v) h = absurd (none (content_numbers f v (their_content h.form h.formed v h.content)))
    only_number none (Err Json) h = absurd (h t tree)
    only_number none (Err Member) h = absurd (has_form h.0 h.1 h.2)
    only_number none (Err Number) h = refl
    only_number none (Err Prefix) h = absurd (none (their_numbers h.0 h.1 h.2))
    only_number none (Err NoMemory) h = absurd h

    only_prefix : HasNumbers f → ((v : Validated) → IsContent f v → ⊥) → (r : Result Validated ValidatedFault) → IsReading bytes r → r ≡ Err Prefix
    only_prefix has none (Ok v) h = absurd (none v (their_content h.form h.formed v h.content))
    only_prefix has none (Err Json) h = absurd (h t tree)
    only_prefix has none (Err Member) h = absurd (has_form h.0 h.1 h.2)
    only_prefix has none (Err Number) h = absurd (h.2 (own_numbers h.0 h.1 has))
    only_prefix has none (Err Prefix) h = refl
    only_prefix has none (Err NoMemory) h = absurd h

    only_this : (v : Validated) → IsContent f v → (r : Result Validated ValidatedFault) → IsReading bytes r → r ≡ Ok v
    only_this v is (Ok other) h = ap Ok (one_content f other v (their_content h.form h.formed other h.content) is)
    only_this v is (Err Json) h = absurd (h t tree)
    only_this v is (Err Member) h = absurd (has_form h.0 h.1 h.2)
    only_this v is (Err Number) h = absurd (h.2 (own_numbers h.0 h.1 (content_numbers f v is)))
    only_this v is (Err Prefix) h = absurd (h.3 v (own_content h.0 h.1 v is))
    only_this v is (Err NoMemory) h = absurd h

    by_content : HasNumbers f → SomeOrNone (IsContent f) → HasOne (IsReading bytes)
    by_content has (inl v) = record { one = Ok v.0; is = record { form = f; formed = formed; content = v.1 }; only = only_this v.0 v.1 }
    by_content has (inr none) = record { one = Err Prefix; is = (f, formed, has, none); only = only_prefix has none }

    by_numbers : HasNumbers f ⊎ (HasNumbers f → ⊥) → HasOne (IsReading bytes)
    by_numbers (inl has) = by_content has (content_or_none f has)
    by_numbers (inr none) = record { one = Err Number; is = (f, formed, none); only = only_number none }

  by_form : SomeOrNone (IsFile t) → HasOne (IsReading bytes)
  by_form (inl f) = by_numbers f.0 f.1 (numbers_or_not f.0)
  by_form (inr none) = record { one = Err Member; is = (t, tree, none); only = only_member none }

by_tree : (bytes : List ℕ) → SomeOrNone (IsTree bytes) → HasOne (IsReading bytes)
by_tree bytes (inl t) = by_form bytes t.0 t.1 (form_or_none t.0)
by_tree bytes (inr none) = record { one = Err Json; is = none; only = only_json bytes none }

pub each_file : EachFileHasOneReading
each_file bytes = by_tree bytes (tree_or_none bytes)
