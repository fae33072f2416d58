-- What is kept of a file's objects while they are read; private contracts alone cite it.
use Rattle.std.specs.Prelude.{◌≡◌, ℕ, List, [], ◌∷◌, Bool, false, bytes_eq, codes, is_some, map, option_map, Vec}
use Rattle.std.specs.declared.alloc.Global.{Global}
use Rattle.std.specs.declared.option.Option.{Option}
use Rattle.std.specs.declared.option.Option.TheVariants.{Some, None}
use Rattle.serde_json.specs.Data.{Num, Data, unsigned}
use Rattle.serde_json.specs.Find.{get}
use Rattle.serde_json.specs.View.{number_view}
use Rattle.json_fields.specs.Object.{ArrayIs, IsNumber, MemberIs, number_at, number_if_there, text_if_there, array_at, may_have_text, has_only}
use Rattle.slurm_rules.specs.Form.{HasArrays, IsFilter, IsAssertion, IsPrefixFilter, IsPrefixAssertion, assertion_view, prefix_assertion_view, prefix_filter_view}
use Rattle.slurm_rules.specs.Reading.{version_number}
use Rattle.json_fields.specs.Tokens.{Holds, numbers_kept, texts_kept, items_view}
use Rattle.slurm_rules.specs.declared.draft.Version.{Version}
use Rattle.slurm_rules.specs.declared.draft.Version.TheVariants.{One, Two}
use Rattle.slurm_rules.specs.declared.draft.DraftPart.{DraftPart}
use Rattle.slurm_rules.specs.declared.element.CustomerFields.{CustomerFields}
use Rattle.slurm_rules.specs.declared.prefix_element.PrefixFields.{PrefixFields}
use Rattle.slurm_rules.specs.declared.file.File.{File}
use Rattle.slurm_rules.specs.declared.part.PartNames.{PartNames}

-- ---- an element

-- an element of `aspaFilters` or of `aspaAssertions`
pub record CustomerIs (kept : CustomerFields) (d : Data) : Type 0 where
  pub filter : kept.filter ≡ has_only (codes "comment" ∷ codes "customerAsn" ∷ []) d
  pub assertion : kept.assertion ≡ has_only (codes "comment" ∷ codes "customerAsn" ∷ codes "providerAsns" ∷ []) d
  pub comment : kept.comment ≡ may_have_text (codes "comment") d
  pub customer : option_map number_view kept.customer ≡ number_at (codes "customerAsn") d
  pub providers : Holds (items_view number_view) kept.providers (ArrayIs IsNumber (codes "providerAsns") d)

-- an element of `prefixFilters` or of `prefixAssertions`
pub record PrefixIs (kept : PrefixFields) (d : Data) : Type 0 where
  pub filter : kept.filter ≡ has_only (codes "asn" ∷ codes "comment" ∷ codes "prefix" ∷ []) d
  pub assertion : kept.assertion ≡ has_only (codes "asn" ∷ codes "comment" ∷ codes "maxPrefixLength" ∷ codes "prefix" ∷ []) d
  pub comment : kept.comment ≡ may_have_text (codes "comment") d
  pub prefix : texts_kept kept.prefix ≡ text_if_there (codes "prefix") d
  pub asn : numbers_kept kept.asn ≡ number_if_there (codes "asn") d
  pub max : numbers_kept kept.max ≡ number_if_there (codes "maxPrefixLength") d

-- ---- a part

-- the names of a part's arrays
pub record ArrayNames : Type 0 where
  pub aspas : List ℕ
  pub bgpsec : List ℕ
  pub prefixes : List ℕ

abbrev pub names_view : PartNames → ArrayNames
names_view n = record { aspas = n.aspas.now; bgpsec = n.bgpsec.now; prefixes = n.prefixes.now }

abbrev pub filter_names : ArrayNames
filter_names = record { aspas = codes "aspaFilters"; bgpsec = codes "bgpsecFilters"; prefixes = codes "prefixFilters" }

abbrev pub assertion_names : ArrayNames
assertion_names = record { aspas = codes "aspaAssertions"; bgpsec = codes "bgpsecAssertions"; prefixes = codes "prefixAssertions" }

-- no two of them are one
pub record AreDistinct (names : ArrayNames) : Type 0 where
  pub aspas_bgpsec : bytes_eq names.aspas names.bgpsec ≡ false
  pub aspas_prefixes : bytes_eq names.aspas names.prefixes ≡ false
  pub prefixes_bgpsec : bytes_eq names.prefixes names.bgpsec ≡ false

-- What stands in a part of a version, whatever its elements are: in version 1 it has no attestations.
pub record Lists (A B : Type 0) : Type 0 where
  pub aspas : List A
  pub prefixes : List B

module _ {X Y A B : Type 0} (see : X → A) (R : Data → A → Type 0) (look : Y → B) (S : Data → B → Type 0) (names : ArrayNames) where
  abbrev pub IsPart : Version → Data → Lists A B → Type 0
  IsPart One d lists = HasArrays (names.bgpsec ∷ names.prefixes ∷ []) d × (lists.aspas ≡ []) × ArrayIs S names.prefixes d lists.prefixes
  IsPart Two d lists = HasArrays (names.aspas ∷ names.bgpsec ∷ names.prefixes ∷ []) d × ArrayIs R names.aspas d lists.aspas × ArrayIs S names.prefixes d lists.prefixes

  abbrev pub part_view : DraftPart X Y → Lists A B
  part_view part = record { aspas = map see part.aspas.items; prefixes = map look part.prefixes.items }

  -- what both versions ask of a part: whose names its members have, whether its bgpsec array is there, and what the elements of its other
  -- arrays are
  pub record PartIs (one two bgpsec : Bool) (prefixes : Option (Vec Y Global)) (aspas : Option (Vec X Global)) (d : Data) : Type 0 where
    pub one_is : one ≡ has_only (names.bgpsec ∷ names.prefixes ∷ []) d
    pub two_is : two ≡ has_only (names.aspas ∷ names.bgpsec ∷ names.prefixes ∷ []) d
    pub bgpsec_is : bgpsec ≡ is_some (array_at names.bgpsec d)
    pub prefixes_are : Holds (items_view look) prefixes (ArrayIs S names.prefixes d)
    pub aspas_are : Holds (items_view see) aspas (ArrayIs R names.aspas d)

  -- the same of the member that a part is, if it is there
  abbrev pub PartAt : Bool → Bool → Bool → Option (Vec Y Global) → Option (Vec X Global) → Option Data → Type 0
  PartAt one two bgpsec prefixes aspas None = (one ≡ false) × (two ≡ false)
  PartAt one two bgpsec prefixes aspas (Some d) = PartIs one two bgpsec prefixes aspas d

  -- what is drafted of a part
  abbrev pub Drafts : Version → Bool → Bool → Bool → Option (Vec Y Global) → Option (Vec X Global) → Option (DraftPart X Y) → Type 0
  Drafts version one two bgpsec prefixes aspas drafted = (name : List ℕ) (d : Data) → PartAt one two bgpsec prefixes aspas (get name d)
      → Holds part_view drafted (MemberIs (IsPart version) name d)

-- ---- the file

pub record FileIs (kept : File) (d : Data) : Type 0 where
  pub only : kept.only ≡ has_only (codes "locallyAddedAssertions" ∷ codes "slurmVersion" ∷ codes "validationOutputFilters" ∷ []) d
  pub version : option_map number_view kept.version ≡ number_at (codes "slurmVersion") d
  pub filters : PartAt number_view IsFilter prefix_filter_view IsPrefixFilter filter_names
      kept.filters.one kept.filters.two kept.filters.bgpsec kept.filters.prefixes kept.filters.aspas (get (codes "validationOutputFilters") d)
  pub assertions : PartAt assertion_view IsAssertion prefix_assertion_view IsPrefixAssertion assertion_names
      kept.assertions.one kept.assertions.two kept.assertions.bgpsec kept.assertions.prefixes kept.assertions.aspas (get (codes "locallyAddedAssertions") d)

-- this number is a version's
abbrev pub IsVersion : Option Num → Version → Type 0
IsVersion number version = number ≡ Some (unsigned (version_number version))
