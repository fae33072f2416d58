-- The routes of one peer, those without a path identifier apart from those with one. Private contracts alone cite it.
use Rattle.std.specs.Prelude.{◌≡◌, ◌≢◌, ℕ, Bool, true, false, List, [], ◌∷◌, option_map, is_some}
use Rattle.std.specs.Borrow.{Bor}
use Rattle.std.specs.Global.{Box}
use Rattle.std.specs.declared.cmp.Ordering.TheVariants.{Less}
use Rattle.std.specs.declared.option.Option.{Option}
use Rattle.std.specs.declared.option.Option.TheVariants.{Some, None}
use Rattle.std.specs.BTreeMap.{insert_entry, is_at}
use Rattle.std.specs.List.{AllByRecursion}
use Rattle.std.specs.List.Sorted.{IsStrictlySortedBy}
use Rattle.std.specs.Map.{keys_of, lookup, remove_entry}
use Rattle.std.specs.Option.{IsSome}
use Rattle.path_model.specs.declared.nlri.Nlri.{Nlri}
use Rattle.path_model.specs.Key.{nlri_cmp}
use Rattle.path_model.specs.Prefix.{Subnet}

-- a prefix without a path identifier, and with one
abbrev pub plain : Subnet → Nlri
plain prefix = record { prefix = prefix; path = None }

abbrev pub identified : Subnet → ℕ → Nlri
identified prefix path = record { prefix = prefix; path = Some path }

-- the value of an announced prefix, if it has one
abbrev pub value_of : {V : Type 0} → List (Nlri × V) → Nlri → Option V
value_of es nlri = lookup (is_at (nlri_cmp nlri)) es

-- the list with this value at an announced prefix, and without one there
abbrev pub with_value : {V : Type 0} → List (Nlri × V) → Nlri → V → List (Nlri × V)
with_value es nlri value = insert_entry nlri_cmp es nlri value

abbrev pub without_nlri : {V : Type 0} → List (Nlri × V) → Nlri → List (Nlri × V)
without_nlri es nlri = remove_entry (is_at (nlri_cmp nlri)) es

-- what is in a box, and none where there is no box
abbrev pub boxed_or : {V : Type 0} → Option (Box (List (Nlri × V))) → List (Nlri × V)
boxed_or None = []
boxed_or (Some b) = b.value

-- each has a path identifier, or none has
abbrev pub AreIdentified : {V : Type 0} → Bool → List (Nlri × V) → Type 0
AreIdentified b es = AllByRecursion (λ e. is_some e.0.path ≡ b) es

-- all of them in order: each of the first has its place among the others
abbrev pub merged : {V : Type 0} → List (Nlri × V) → List (Nlri × V) → List (Nlri × V)
merged [] fs = fs
merged (e ∷ es) fs = insert_entry nlri_cmp (merged es fs) e.0 e.1

-- the first have no path identifier, the others have one, and both are in order
pub record AreTwo {V : Type 0} (plains others : List (Nlri × V)) : Type 0 where
  pub plain : AreIdentified false plains
  pub identified : AreIdentified true others
  pub plain_in_order : IsStrictlySortedBy nlri_cmp (keys_of plains)
  pub identified_in_order : IsStrictlySortedBy nlri_cmp (keys_of others)

-- an entry before the others, if there is one
abbrev pub before : {V : Type 0} → Option (Nlri × V) → List (Nlri × V) → List (Nlri × V)
before None es = es
before (Some e) es = e ∷ es

-- an entry with its value behind a reference
abbrev pub seen : {V : Type 0} → Option (Nlri × Bor V) → Option (Nlri × V)
seen o = option_map (λ e. (e.0, e.1.now)) o

-- there is one that leads there
abbrev pub HasNlri : {V : Type 0} → List (Nlri × V) → Nlri → Type 0
HasNlri es nlri = IsSome (value_of es nlri)

-- what the first leads to, if there is one
abbrev pub first_nlri : {V : Type 0} → List (Nlri × V) → Option Nlri
first_nlri [] = None
first_nlri (e ∷ es) = Some e.0

-- the first is below this, and was given
pub record GivesBelow {V : Type 0} (old : List (Nlri × V)) (nlri : Nlri) (new : List (Nlri × V)) (given : Nlri × Bor V) : Type 0 where
  pub first : old ≡ (given.0, given.1.now) ∷ new
  pub below : nlri_cmp given.0 nlri ≡ Less

-- there is none, or the first isn't below this
abbrev pub FirstIsNotBelow : {V : Type 0} → List (Nlri × V) → Nlri → Type 0
FirstIsNotBelow [] nlri = Unit {0}
FirstIsNotBelow (e ∷ es) nlri = nlri_cmp e.0 nlri ≢ Less

-- so all of them are left
pub record IsNotBelow {V : Type 0} (old : List (Nlri × V)) (nlri : Nlri) (new : List (Nlri × V)) : Type 0 where
  pub same : new ≡ old
  pub behind : FirstIsNotBelow old nlri
