-- What the members of an object of the tree are, and what they stand for.
use Rattle.std.specs.Prelude.{◌≡◌, ℕ, List, [], ◌∷◌, Bool, true, false, is_some, option_map, option_and_then}
use Rattle.std.specs.declared.option.Option.{Option}
use Rattle.std.specs.declared.option.Option.TheVariants.{Some, None}
use Rattle.std.specs.Str.{bytes_eq}
use Rattle.std.specs.List.{list_any, list_all}
use Rattle.serde_json.specs.Data.{Num, Data, Items, no_items, item, Members, no_members, member}
use Rattle.serde_json.specs.Find.{get, as_number, as_array, as_object, as_str}
use Rattle.json_fields.specs.Each.{Each}

-- the number that is the member of this name
abbrev pub number_at : List ℕ → Data → Option Num
number_at name d = option_and_then as_number (get name d)

-- the items of an array
abbrev pub list_of : Items → List Data
list_of no_items = []
list_of (item d ds) = d ∷ list_of ds

-- the array that is the member of this name
abbrev pub items_at : List ℕ → Data → Option Items
items_at name d = option_and_then as_array (get name d)

abbrev pub array_at : List ℕ → Data → Option (List Data)
array_at name d = option_map list_of (items_at name d)

-- What the member of this name is, of one kind: none where it is of another kind, and none of it where there is no member.
abbrev pub if_there : {A : Type 0} → (Data → Option A) → Option Data → Option (Option A)
if_there of_kind None = Some None
if_there of_kind (Some d) = option_map Some (of_kind d)

abbrev pub number_if_there : List ℕ → Data → Option (Option Num)
number_if_there name d = if_there as_number (get name d)

abbrev pub text_if_there : List ℕ → Data → Option (Option (List ℕ))
text_if_there name d = if_there as_str (get name d)

-- no member, or a text
abbrev pub is_text_if_there : Option Data → Bool
is_text_if_there None = true
is_text_if_there (Some d) = is_some (as_str d)

abbrev pub may_have_text : List ℕ → Data → Bool
may_have_text name d = is_text_if_there (get name d)

-- whether a name is one of these
abbrev pub is_among : List (List ℕ) → List ℕ → Bool
is_among names name = list_any (λ other. bytes_eq other name) names

-- the names of an object's members
abbrev pub names_of : Members → List (List ℕ)
names_of no_members = []
names_of (member name d ms) = name ∷ names_of ms

abbrev pub only_if_there : List (List ℕ) → Option Members → Bool
only_if_there names None = false
only_if_there names (Some ms) = list_all (is_among names) (names_of ms)

-- an object whose members have these names alone
abbrev pub has_only : List (List ℕ) → Data → Bool
has_only names d = only_if_there names (as_object d)

-- the members of these names are arrays
abbrev pub are_arrays : List (List ℕ) → Data → Bool
are_arrays names d = list_all (λ name. is_some (array_at name d)) names

-- the value is this number
abbrev pub IsNumber : Data → Num → Type 0
IsNumber d n = as_number d ≡ Some n

-- this array of the object stands for this list
pub record ArrayIs {A : Type 0} (R : Data → A → Type 0) (name : List ℕ) (d : Data) (list : List A) : Type 0 where
  pub items : List Data
  pub is : array_at name d ≡ Some items
  pub each : Each R items list

-- the member of this name is of that kind
pub record MemberIs {A : Type 0} (R : Data → A → Type 0) (name : List ℕ) (d : Data) (value : A) : Type 0 where
  pub member : Data
  pub is : get name d ≡ Some member
  pub holds : R member value
