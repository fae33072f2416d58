-- One prefix more behind those that are packed.
use Rattle.std.proofs.Common.{◌≡◌, ℕ, ◌≤◌, Bool, true, false, List, [], ◌∷◌, ◌++◌, length, drop, refl, ap, sym, ◌∙◌, subst, arith}
use Rattle.std.specs.declared.option.Option.TheVariants.{Some, None}
use Rattle.std.proofs.lemmas.List.{drop-append-le, drop_all}
use Rattle.path_model.specs.declared.nlri.Nlri.{Nlri}
use Rattle.path_model.specs.declared.packed.Form.{Form}
use Rattle.path_model.specs.declared.packed.Width.{Width}
use Rattle.path_model.specs.declared.packed.Width.TheVariants.{Four, High, Both}
use Rattle.path_model.specs.Packed.{form_of, width_of, words_of, prefix_at, nlri_at, IsPrefixAt, IsNlriAt, unpacked, ArePacked}

-- a prefix's words are there
has_width : (width : Width) (words : List ℕ) → IsPrefixAt width words → width_of width ≤ length words
has_width (Four len) words at = at.0
has_width (High len) words at = at.0
has_width (Both len) words at = at.0

-- what lies behind its words doesn't change it
prefix_at_append : (width : Width) (words more : List ℕ) → IsPrefixAt width words → prefix_at width (words ++ more) ≡ prefix_at width words
prefix_at_append (Four len) [] more at = let no : ⊥ = omega (arith, at.0) in elim no [ ]
prefix_at_append (Four len) (w ∷ words) more at = refl
prefix_at_append (High len) [] more at = let no : ⊥ = omega (arith, at.0) in elim no [ ]
prefix_at_append (High len) (w ∷ words) more at = refl
prefix_at_append (Both len) [] more at = let no : ⊥ = omega (arith, at.0) in elim no [ ]
prefix_at_append (Both len) (w ∷ []) more at = let no : ⊥ = omega (arith, at.0) in elim no [ ]
prefix_at_append (Both len) (w ∷ v ∷ words) more at = refl

IsPrefixAt_append : (width : Width) (words more : List ℕ) → IsPrefixAt width words → IsPrefixAt width (words ++ more)
IsPrefixAt_append (Four len) [] more at = let no : ⊥ = omega (arith, at.0) in elim no [ ]
IsPrefixAt_append (Four len) (w ∷ words) more at = (omega arith, at.1)
IsPrefixAt_append (High len) [] more at = let no : ⊥ = omega (arith, at.0) in elim no [ ]
IsPrefixAt_append (High len) (w ∷ words) more at = (omega arith, at.1)
IsPrefixAt_append (Both len) [] more at = let no : ⊥ = omega (arith, at.0) in elim no [ ]
IsPrefixAt_append (Both len) (w ∷ []) more at = let no : ⊥ = omega (arith, at.0) in elim no [ ]
IsPrefixAt_append (Both len) (w ∷ v ∷ words) more at = (omega arith, at.1)

has_words : (width : Width) (identified : Bool) (words : List ℕ) → IsNlriAt (form_of width identified) words → words_of (form_of width identified) ≤ length words
has_words width true [] at = let no : ⊥ = omega (arith, at.0.0) in elim no [ ]
has_words width true (w ∷ words) at = omega (arith, has_width width words at.1)
has_words width false words at = omega (arith, has_width width words at.1)

-- the same of a path identifier and a prefix
nlri_at_append : (form : Form) (words more : List ℕ) → IsNlriAt form words → nlri_at form (words ++ more) ≡ nlri_at form words
nlri_at_append form words more at = by_form form.width form.identified words at where
  by_form : (width : Width) (identified : Bool) (words : List ℕ) → IsNlriAt (form_of width identified) words → nlri_at (form_of width identified) (words ++ more) ≡ nlri_at (form_of width identified) words
  by_form width true [] at = let no : ⊥ = omega (arith, at.0.0) in elim no [ ]
  by_form width true (w ∷ words) at = λ i. record { prefix = prefix_at_append width words more at.1 i; path = Some w }
  by_form width false words at = λ i. record { prefix = prefix_at_append width words more at.1 i; path = None }

IsNlriAt_append : (form : Form) (words more : List ℕ) → IsNlriAt form words → IsNlriAt form (words ++ more)
IsNlriAt_append form words more at = by_form form.width form.identified words at where
  by_form : (width : Width) (identified : Bool) (words : List ℕ) → IsNlriAt (form_of width identified) words → IsNlriAt (form_of width identified) (words ++ more)
  by_form width true [] at = let no : ⊥ = omega (arith, at.0.0) in elim no [ ]
  by_form width true (w ∷ words) at = ((omega arith, at.0.1), IsPrefixAt_append width words more at.1)
  by_form width false words at = (tt, IsPrefixAt_append width words more at.1)

seam : (form : Form) (words more : List ℕ) → IsNlriAt form words → drop (words_of form) (words ++ more) ≡ drop (words_of form) words ++ more
seam form words more at = drop-append-le (words_of form) words more (has_words form.width form.identified words at)

pub unpacked_append : (forms : List Form) (words : List ℕ) (form : Form) (more : List ℕ) → ArePacked forms words
    → unpacked (forms ++ form ∷ []) (words ++ more) ≡ unpacked forms words ++ nlri_at form more ∷ []
unpacked_append [] words form more none = ap (λ (w : List ℕ). nlri_at form (w ++ more) ∷ []) none
unpacked_append (first ∷ forms) words form more packed =
    ap (λ (p : Nlri). p ∷ unpacked (forms ++ form ∷ []) (drop (words_of first) (words ++ more))) (nlri_at_append first words more packed.0)
    ∙ ap (λ (w : List ℕ). nlri_at first words ∷ unpacked (forms ++ form ∷ []) w) (seam first words more packed.0)
    ∙ ap (λ (l : List Nlri). nlri_at first words ∷ l) (unpacked_append forms (drop (words_of first) words) form more packed.1)

-- one alone
one_packed : (form : Form) (words : List ℕ) → IsNlriAt form words → length words ≡ words_of form → ArePacked (form ∷ []) words
one_packed form words at whole = (at, drop_all (words_of form) words (omega (arith, whole)))

pub ArePacked_append : (forms : List Form) (words : List ℕ) (form : Form) (more : List ℕ) → ArePacked forms words → IsNlriAt form more
    → length more ≡ words_of form → ArePacked (forms ++ form ∷ []) (words ++ more)
ArePacked_append [] words form more none at whole = subst (λ (w : List ℕ). ArePacked (form ∷ []) (w ++ more)) (sym none) (one_packed form more at whole)
ArePacked_append (first ∷ forms) words form more packed at whole = (
  IsNlriAt_append first words more packed.0,
  subst (λ (w : List ℕ). ArePacked (forms ++ form ∷ []) w) (sym (seam first words more packed.0))
      (ArePacked_append forms (drop (words_of first) words) form more packed.1 at whole),
)

pub length_unpacked : (forms : List Form) (words : List ℕ) → length (unpacked forms words) ≡ length forms
length_unpacked [] words = refl
length_unpacked (form ∷ more) words = omega (arith, length_unpacked more (drop (words_of form) words))
