-- The first attributes of their types, as attributes are gone through one after another.
use Rattle.std.proofs.Common.{◌≡◌, ℕ, ◌<◌, ◌≤◌, ◌==◌, Bool, true, false, if◌then◌else◌, List, [], ◌∷◌, ◌++◌, length, Some, None, refl, sym, ap, subst, ◌∙◌, append_assoc, arith}
use Rattle.std.specs.Prelude.{is_some, unwrap_or, option_map}
use Rattle.std.specs.Option.{ForSome, option_or}
use Rattle.std.proofs.lemmas.List.{append-nil}
use Rattle.std.specs.declared.option.Option.{Option}
use Rattle.bgp_attrs.specs.declared.finding.Firsts.{Firsts}
use Rattle.bgp_attrs.specs.Attributes.{Field, IsField, contents_of, first_of, first_content, field_at}
use Rattle.bgp_attrs.specs.Joined.{IsJoined, items_of}
use Rattle.bgp_attrs.specs.Parts.{HaveFirsts}
use Rattle.bgp_attrs.proofs.FieldLemmas.{field_reader}
use Rattle.bgp_attrs.proofs.JoinedLemmas.{shortens, items-nil, items-none, items-step, joined_none, joined_from}

alone : (test : Bool) (content : List ℕ) → first_of (if test then content ∷ [] else []) ≡ (if test then Some content else None)
alone true content = refl
alone false content = refl

in_front : (test : Bool) (content : List ℕ) (before after : List (List ℕ)) (last : Option (List ℕ)) → first_of after ≡ option_or (first_of before) last
    → first_of (if test then content ∷ after else after) ≡ option_or (first_of (if test then content ∷ before else before)) last
in_front true content before after last e = refl
in_front false content before after last e = e

-- the first content of a type, with one attribute more
first_more : (kind : ℕ) (fields : List Field) (field : Field) → first_content kind (fields ++ field ∷ []) ≡ option_or (first_content kind fields) (if field.kind == kind then Some field.content else None)
first_more kind [] field = alone (field.kind == kind) field.content
first_more kind (front ∷ fields) field =
    in_front (front.kind == kind) front.content (contents_of kind fields) (contents_of kind (fields ++ field ∷ [])) (if field.kind == kind then Some field.content else None) (first_more kind fields field)

or_none : (o : Option (List ℕ)) → option_or o None ≡ o
or_none None = refl
or_none (Some x) = refl

-- an attribute of the type
pub first_kept : (kind : ℕ) (fields : List Field) (field : Field) (old new : Option (List ℕ)) → (field.kind == kind) ≡ true → old ≡ first_content kind fields → new ≡ option_or old (Some field.content)
    → new ≡ first_content kind (fields ++ field ∷ [])
first_kept kind fields field old new test before e =
    e ∙ ap (λ o. option_or o (Some field.content)) before ∙ ap (λ (b : Bool). option_or (first_content kind fields) (if b then Some field.content else None)) (sym test) ∙ sym (first_more kind fields field)

-- an attribute of another type
pub first_passed : (kind : ℕ) (fields : List Field) (field : Field) (old : Option (List ℕ)) → (field.kind == kind) ≡ false → old ≡ first_content kind fields
    → old ≡ first_content kind (fields ++ field ∷ [])
first_passed kind fields field old test before =
    before ∙ sym (or_none (first_content kind fields)) ∙ ap (λ (b : Bool). option_or (first_content kind fields) (if b then Some field.content else None)) (sym test) ∙ sym (first_more kind fields field)

-- attributes were gone through up to a rest
pub record IsWalked (bytes rest : List ℕ) (firsts : Firsts) : Type 0 where
  pub fields : List Field
  pub same : items_of field_at bytes ≡ option_map (λ (more : List Field). fields ++ more) (items_of field_at rest)
  pub have : HaveFirsts firsts fields

whole : (o : Option (List Field)) → o ≡ option_map (λ (more : List Field). [] ++ more) o
whole None = refl
whole (Some items) = refl

pub walked_none : (bytes : List ℕ) (firsts : Firsts) → HaveFirsts firsts [] → IsWalked bytes bytes firsts
walked_none bytes firsts have = record { fields = []; same = whole (items_of field_at bytes); have = have }

moved : (fields : List Field) (field : Field) (o : Option (List Field)) → option_map (λ (more : List Field). fields ++ more) (option_map (λ (items : List Field). field ∷ items) o) ≡ option_map (λ (more : List Field). (fields ++ field ∷ []) ++ more) o
moved fields field None = refl
moved fields field (Some items) = ap Some (sym (append_assoc fields (field ∷ []) items))

pub walked_more : (bytes rest more : List ℕ) (old new : Firsts) (field : Field) → field_at rest ≡ Some (field, more) → ((fields : List Field) → HaveFirsts old fields → HaveFirsts new (fields ++ field ∷ []))
    → IsWalked bytes rest old → IsWalked bytes more new
walked_more bytes rest more old new field e keeps walked = record {
  fields = walked.fields ++ field ∷ [];
  same = walked.same ∙ ap (option_map (λ (more : List Field). walked.fields ++ more)) (items-step field_at (shortens field_reader) rest field more e) ∙ moved walked.fields field (items_of field_at more);
  have = keeps walked.fields walked.have;
}

-- no attribute comes where something is left
pub walked_out : (bytes rest : List ℕ) (firsts : Firsts) → 0 < length rest → field_at rest ≡ None → IsWalked bytes rest firsts → (list : List Field) → IsJoined IsField bytes list → ⊥
walked_out bytes rest firsts some none walked list joined =
    joined_none field_reader bytes (walked.same ∙ ap (option_map (λ (more : List Field). walked.fields ++ more)) (items-none field_at rest some none)) list joined

-- all were gone through
walked_all : (bytes rest : List ℕ) (firsts : Firsts) → length rest ≤ 0 → (walked : IsWalked bytes rest firsts) → items_of field_at bytes ≡ Some walked.fields
walked_all bytes [] firsts empty walked = walked.same ∙ ap (option_map (λ (more : List Field). walked.fields ++ more)) (items-nil field_at) ∙ ap Some (append-nil walked.fields)
walked_all bytes (b ∷ rest) firsts empty walked = absurd (omega arith)

pub walked_whole : (bytes rest : List ℕ) (firsts : Firsts) → length rest ≤ 0 → IsWalked bytes rest firsts → is_some (items_of field_at bytes) ≡ true
walked_whole bytes rest firsts empty walked = ap is_some (walked_all bytes rest firsts empty walked)

pub walked_joined : (bytes rest : List ℕ) (firsts : Firsts) → length rest ≤ 0 → IsWalked bytes rest firsts → IsJoined IsField bytes (unwrap_or (items_of field_at bytes) [])
walked_joined bytes rest firsts empty walked =
    let all = walked_all bytes rest firsts empty walked in
    joined_from field_reader bytes (unwrap_or (items_of field_at bytes) []) (all ∙ ap (λ (o : Option (List Field)). Some (unwrap_or o [])) (sym all))

pub walked_have : (bytes rest : List ℕ) (firsts : Firsts) → length rest ≤ 0 → IsWalked bytes rest firsts → HaveFirsts firsts (unwrap_or (items_of field_at bytes) [])
walked_have bytes rest firsts empty walked =
    subst (λ (fields : List Field). HaveFirsts firsts fields) (ap (λ (o : Option (List Field)). unwrap_or o []) (sym (walked_all bytes rest firsts empty walked))) walked.have

-- no content of AS_PATH is longer than an attribute
abbrev pub AreShort : Option (List ℕ) → Type 0
AreShort o = ForSome o (λ content. length content ≤ 65535)

pub short_kept : (old new : Option (List ℕ)) (content : List ℕ) → length content ≤ 65535 → AreShort old → new ≡ option_or old (Some content) → AreShort new
short_kept old new content short before e = subst (λ (o : Option (List ℕ)). AreShort o) (sym e) (by_old old before)
  where
    by_old : (o : Option (List ℕ)) → AreShort o → AreShort (option_or o (Some content))
    by_old None before = λ x is. let same : content ≡ x = cc in subst (λ (xs : List ℕ). length xs ≤ 65535) same short
    by_old (Some y) before = before
