-- Each file has one reading.
use Rattle.std.proofs.Common.{◌≡◌, ℕ, ◌⊎◌, inl, inr, List, refl, sym, ap, subst}
use Rattle.std.proofs.Common.{arith}
use Rattle.std.specs.declared.result.Result.{Result}
use Rattle.std.specs.declared.result.Result.TheVariants.{Ok, Err}
use Rattle.serde_json.specs.Data.{Data, unsigned}
use Rattle.av_base.specs.One.{HasOne}
use Rattle.slurm_rules.specs.Form.{Form, IsFile}
use Rattle.slurm_rules.specs.Numbers.{HasAsns, IsContent}
use Rattle.json_fields.specs.Tree.{IsTree}
use Rattle.json_fields.proofs.TreeLemmas.{one_tree, tree_or_none}
use Rattle.slurm_rules.specs.Reading.{HasVersion, IsVersioned, IsFormed, IsReading}
use Rattle.slurm_rules.specs.Laws.{EachFileHasOneReading}
use Rattle.slurm_rules.specs.declared.slurm.Slurm.{Slurm}
use Rattle.slurm_rules.specs.declared.draft.Version.{Version as SlurmVersion}
use Rattle.slurm_rules.specs.declared.draft.Version.TheVariants.{One, Two}
use Rattle.slurm_rules.specs.declared.fault.SlurmFault.{SlurmFault}
use Rattle.slurm_rules.specs.declared.fault.SlurmFault.TheVariants.{Json, Version, Member, Number, PrefixText, NoMemory}
use Rattle.json_fields.proofs.FoundLemmas.{same_some, unsigned_injective}
use Rattle.slurm_rules.proofs.OneLemmas.{one_form, one_content}
use Rattle.any_prefix.proofs.DecideLemmas.{SomeOrNone}
use Rattle.slurm_rules.proofs.ContentLemmas.{asns_or_not, content_asns, content_or_none}
use Rattle.slurm_rules.proofs.DecideLemmas.{version_or_none, file_or_none}

-- ---- each step is determined

one_version : (tree : Data) (v w : SlurmVersion) → HasVersion v tree → HasVersion w tree → v ≡ w
one_version tree One One h k = refl
one_version tree Two Two h k = refl
one_version tree One Two h k = let same = unsigned_injective 1 2 (same_some _ (unsigned 1) (unsigned 2) h k) in absurd (omega (arith, same))
one_version tree Two One h k = let same = unsigned_injective 2 1 (same_some _ (unsigned 2) (unsigned 1) h k) in absurd (omega (arith, same))

-- another tree and version are these
formed_of : (bytes : List ℕ) (v w : SlurmVersion) (t u : Data) (form : Form) → IsVersioned bytes v t → IsVersioned bytes w u
    → IsFile w u form → IsFile v t form
formed_of bytes v w t u form h k f =
    let trees = one_tree bytes u t k.parsed h.parsed in
    let versions = one_version t w v (subst (λ (d : Data). HasVersion w d) trees k.version_is) h.version_is in
    subst (λ (x : SlurmVersion). IsFile x t form) versions (subst (λ (d : Data). IsFile w d form) trees f)

one_formed : (bytes : List ℕ) (f g : Form) → IsFormed bytes f → IsFormed bytes g → f ≡ g
one_formed bytes f g h k = one_form k.version k.tree f g (formed_of bytes k.version h.version k.tree h.tree f k.versioned h.versioned h.formed) k.formed

-- ---- what each step that fails leaves

only_json : (bytes : List ℕ) → ((t : Data) → IsTree bytes t → ⊥) → (r : Result Slurm SlurmFault) → IsReading bytes r
    → r ≡ Err Json
only_json bytes none (Ok slurm) h = absurd (none h.formed.tree h.formed.versioned.parsed)
only_json bytes none (Err Json) h = refl
only_json bytes none (Err Version) h = absurd (none h.0 h.1)
only_json bytes none (Err Member) h = absurd (none h.1.0 h.1.1.parsed)
only_json bytes none (Err Number) h = absurd (none h.1.tree h.1.versioned.parsed)
only_json bytes none (Err PrefixText) h = absurd (none h.1.tree h.1.versioned.parsed)
only_json bytes none (Err NoMemory) h = absurd h

module _ (bytes : List ℕ) (t : Data) (tree : IsTree bytes t) where
  no_version : ((v : SlurmVersion) → HasVersion v t → ⊥) → (v : SlurmVersion) (u : Data) → IsVersioned bytes v u → ⊥
  no_version none v u h = none v (subst (λ (d : Data). HasVersion v d) (one_tree bytes u t h.parsed tree) h.version_is)

  only_version : ((v : SlurmVersion) → HasVersion v t → ⊥) → (r : Result Slurm SlurmFault) → IsReading bytes r
      → r ≡ Err Version
  only_version none (Ok slurm) h = absurd (no_version none h.formed.version h.formed.tree h.formed.versioned)
  only_version none (Err Json) h = absurd (h t tree)
  only_version none (Err Version) h = refl
  only_version none (Err Member) h = absurd (no_version none h.0 h.1.0 h.1.1)
  only_version none (Err Number) h = absurd (no_version none h.1.version h.1.tree h.1.versioned)
  only_version none (Err PrefixText) h = absurd (no_version none h.1.version h.1.tree h.1.versioned)
  only_version none (Err NoMemory) h = absurd h

  module _ (v : SlurmVersion) (version : HasVersion v t) where
    versioned : IsVersioned bytes v t
    versioned = record { parsed = tree; version_is = version }

    has_version : (u : Data) → IsTree bytes u → ((w : SlurmVersion) → HasVersion w u → ⊥) → ⊥
    has_version u other none = none v (subst (λ (d : Data). HasVersion v d) (one_tree bytes t u tree other) version)

    no_form : ((f : Form) → IsFile v t f → ⊥) → (form : Form) → IsFormed bytes form → ⊥
    no_form none form h = none form (formed_of bytes v h.version t h.tree form versioned h.versioned h.formed)

    only_member : ((f : Form) → IsFile v t f → ⊥) → (r : Result Slurm SlurmFault) → IsReading bytes r → r ≡ Err Member
    only_member none (Ok slurm) h = absurd (no_form none h.form h.formed)
    only_member none (Err Json) h = absurd (h t tree)
    only_member none (Err Version) h = absurd (has_version h.0 h.1 h.2)
    only_member none (Err Member) h = refl
    only_member none (Err Number) h = absurd (no_form none h.0 h.1)
    only_member none (Err PrefixText) h = absurd (no_form none h.0 h.1)
    only_member none (Err NoMemory) h = absurd h

    module _ (f : Form) (file : IsFile v t f) where
      formed : IsFormed bytes f
      formed = record { version = v; tree = t; versioned = versioned; formed = file }

      has_form : (w : SlurmVersion) (u : Data) → IsVersioned bytes w u → ((g : Form) → IsFile w u g → ⊥) → ⊥
      has_form w u other none = none f (formed_of bytes w v u t f other versioned file)

      same_form : (g : Form) → IsFormed bytes g → g ≡ f
      same_form g other = one_formed bytes g f other formed

      their_asns : (g : Form) → IsFormed bytes g → HasAsns g → HasAsns f
      their_asns g other has = subst HasAsns (same_form g other) has

      own_asns : (g : Form) → IsFormed bytes g → HasAsns f → HasAsns g
      own_asns g other has = subst HasAsns (sym (same_form g other)) has

      only_number : (HasAsns f → ⊥) → (r : Result Slurm SlurmFault) → IsReading bytes r → r ≡ Err Number
      only_number none (Ok slurm) h = absurd (none (content_asns f slurm (subst (λ (g : Form). IsContent g slurm) (same_form h.form h.formed) h.content)))
      only_number none (Err Json) h = absurd (h t tree)
      only_number none (Err Version) h = absurd (has_version h.0 h.1 h.2)
      only_number none (Err Member) h = absurd (has_form h.0 h.1.0 h.1.1 h.1.2)
      only_number none (Err Number) h = refl
      only_number none (Err PrefixText) h = absurd (none (their_asns h.0 h.1 h.2))
      only_number none (Err NoMemory) h = absurd h

      only_prefix : HasAsns f → ((s : Slurm) → IsContent f s → ⊥) → (r : Result Slurm SlurmFault) → IsReading bytes r → r ≡ Err PrefixText
      only_prefix has none (Ok slurm) h = absurd (none slurm (subst (λ (g : Form). IsContent g slurm) (same_form h.form h.formed) h.content))
      only_prefix has none (Err Json) h = absurd (h t tree)
      only_prefix has none (Err Version) h = absurd (has_version h.0 h.1 h.2)
      only_prefix has none (Err Member) h = absurd (has_form h.0 h.1.0 h.1.1 h.1.2)
      only_prefix has none (Err Number) h = absurd (h.2 (own_asns h.0 h.1 has))
      only_prefix has none (Err PrefixText) h = refl
      only_prefix has none (Err NoMemory) h = absurd h

      only_this : (s : Slurm) → IsContent f s → (r : Result Slurm SlurmFault) → IsReading bytes r → r ≡ Ok s
      only_this s is (Ok slurm) h = ap Ok (one_content f slurm s (subst (λ (g : Form). IsContent g slurm) (same_form h.form h.formed) h.content) is)
      only_this s is (Err Json) h = absurd (h t tree)
      only_this s is (Err Version) h = absurd (has_version h.0 h.1 h.2)
      only_this s is (Err Member) h = absurd (has_form h.0 h.1.0 h.1.1 h.1.2)
      only_this s is (Err Number) h = absurd (h.2 (own_asns h.0 h.1 (content_asns f s is)))
      only_this s is (Err PrefixText) h = absurd (h.3 s (subst (λ (g : Form). IsContent g s) (sym (same_form h.0 h.1)) is))
      only_this s is (Err NoMemory) h = absurd h

      by_content : HasAsns f → SomeOrNone (IsContent f) → HasOne (IsReading bytes)
      by_content has (inl s) = record { one = Ok s.0; is = record { form = f; formed = formed; content = s.1 }; only = only_this s.0 s.1 }
      by_content has (inr none) = record { one = Err PrefixText; is = (f, formed, has, none); only = only_prefix has none }

      by_asns : HasAsns f ⊎ (HasAsns f → ⊥) → HasOne (IsReading bytes)
      by_asns (inl has) = by_content has (content_or_none f has)
      by_asns (inr none) = record { one = Err Number; is = (f, formed, none); only = only_number none }

    by_file : SomeOrNone (IsFile v t) → HasOne (IsReading bytes)
    by_file (inl f) = by_asns f.0 f.1 (asns_or_not f.0)
    by_file (inr none) = record { one = Err Member; is = (v, (t, versioned, none)); only = only_member none }

  by_version : SomeOrNone (λ v. HasVersion v t) → HasOne (IsReading bytes)
  by_version (inl v) = by_file v.0 v.1 (file_or_none v.0 t)
  by_version (inr none) = record { one = Err Version; is = (t, tree, none); only = only_version none }

-- ---- the tree

by_tree : (bytes : List ℕ) → SomeOrNone (IsTree bytes) → HasOne (IsReading bytes)
by_tree bytes (inl t) = by_version bytes t.0 t.1 (version_or_none t.0)
by_tree bytes (inr none) = record { one = Err Json; is = none; only = only_json bytes none }

pub each_file : EachFileHasOneReading
each_file bytes = by_tree bytes (tree_or_none bytes)
