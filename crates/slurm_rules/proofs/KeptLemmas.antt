-- What is kept of a part says what it is.
use Rattle.std.proofs.Common.{◌≡◌, ℕ, List, Bool, Option, Some, None, Vec, subst}
use Rattle.std.specs.declared.alloc.Global.{Global}
use Rattle.serde_json.specs.Data.{Data, Num}
use Rattle.serde_json.specs.Find.{get}
use Rattle.serde_json.specs.View.{number_view}
use Rattle.json_fields.specs.Tokens.{items_view}
use Rattle.json_fields.specs.Object.{ArrayIs, MemberIs}
use Rattle.json_fields.proofs.ValuesLemmas.{holds_none}
use Rattle.slurm_rules.specs.Form.{Assertion, Assertions, Filters, IsAssertion, IsAssertionPart, IsFilter, IsFilterPart, IsPrefixAssertion, IsPrefixFilter, PrefixAssertionText, PrefixFilterText, assertion_view, prefix_assertion_view, prefix_filter_view}
use Rattle.slurm_rules.specs.Kept.{ArrayNames, IsPart, Lists, PartAt, PartIs, assertion_names, filter_names}
use Rattle.slurm_rules.specs.declared.draft.Version.{Version}
use Rattle.slurm_rules.specs.declared.draft.Version.TheVariants.{One, Two}

-- under other names that are the same
pub renamed : {X Y A B : Type 0} {see : X → A} {R : Data → A → Type 0} {look : Y → B} {S : Data → B → Type 0} {one two bgpsec : Bool} {prefixes : Option (Vec Y Global)}
    {aspas : Option (Vec X Global)} {d : Data} {these those : ArrayNames} → these ≡ those → PartIs see R look S these one two bgpsec prefixes aspas d
    → PartIs see R look S those one two bgpsec prefixes aspas d
renamed {see = see} {R = R} {look = look} {S = S} {one = one} {two = two} {bgpsec = bgpsec} {prefixes = prefixes} {aspas = aspas} {d = d} same is =
    subst (λ (n : ArrayNames). PartIs see R look S n one two bgpsec prefixes aspas d) same is

module _ {X Y A B : Type 0} (see : X → A) (R : Data → A → Type 0) (look : Y → B) (S : Data → B → Type 0) (one two bgpsec : Bool) (prefixes : Option (Vec Y Global)) (aspas : Option (Vec X Global)) where
  module _ (names : ArrayNames) (name : List ℕ) (d m : Data) (is : PartAt see R look S names one two bgpsec prefixes aspas (get name d)) (there : get name d ≡ Some m) where
    here : PartIs see R look S names one two bgpsec prefixes aspas m
    here = subst (λ (o : Option Data). PartAt see R look S names one two bgpsec prefixes aspas o) there is

    -- a part without one of its arrays
    pub no_prefixes : prefixes ≡ None → (list : List B) → ArrayIs S names.prefixes m list → ⊥
    no_prefixes none = holds_none (items_view look) (ArrayIs S names.prefixes m) prefixes none here.prefixes_are

    pub no_aspas : aspas ≡ None → (list : List A) → ArrayIs R names.aspas m list → ⊥
    no_aspas none = holds_none (items_view see) (ArrayIs R names.aspas m) aspas none here.aspas_are

-- ---- no part of a version, whatever its elements are, is none of the filters, and none of the assertions

pub no_filters : (version : Version) (name : List ℕ) (d : Data)
    → ((a : Lists Num PrefixFilterText) → MemberIs (IsPart number_view IsFilter prefix_filter_view IsPrefixFilter filter_names version) name d a → ⊥)
    → (f : Filters) → MemberIs (IsFilterPart version) name d f → ⊥
no_filters One name d none f h = none (record { aspas = f.customers; prefixes = f.prefixes }) (record { member = h.member; is = h.is; holds = h.holds })
no_filters Two name d none f h = none (record { aspas = f.customers; prefixes = f.prefixes }) (record { member = h.member; is = h.is; holds = h.holds })

pub no_assertions : (version : Version) (name : List ℕ) (d : Data)
    → ((a : Lists Assertion PrefixAssertionText) → MemberIs (IsPart assertion_view IsAssertion prefix_assertion_view IsPrefixAssertion assertion_names version) name d a → ⊥)
    → (f : Assertions) → MemberIs (IsAssertionPart version) name d f → ⊥
no_assertions One name d none f h = none (record { aspas = f.attestations; prefixes = f.prefixes }) (record { member = h.member; is = h.is; holds = h.holds })
no_assertions Two name d none f h = none (record { aspas = f.attestations; prefixes = f.prefixes }) (record { member = h.member; is = h.is; holds = h.holds })
