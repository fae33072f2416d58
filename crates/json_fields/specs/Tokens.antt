-- What is taken from a text's tokens, a value at a time. The grammar over tokens is that of the tree.
use Rattle.std.specs.Prelude.{◌≡◌, ℕ, ◌<◌, List, [], ◌∷◌, ◌++◌, length, Bool, true, false, is_some, map, option_map, Vec}
use Rattle.std.specs.declared.alloc.Global.{Global}
use Rattle.std.specs.declared.option.Option.{Option}
use Rattle.std.specs.declared.option.Option.TheVariants.{Some, None}
use Rattle.std.specs.declared.result.Result.{Result}
use Rattle.std.specs.declared.result.Result.TheVariants.{Ok, Err}
use Rattle.json.specs.Token.{Token, begin_array, begin_object}
use Rattle.json.specs.Json.{value, items, members}
use Rattle.serde_json.specs.Data.{Num, Data, object, Items, Members, no_members}
use Rattle.serde_json.specs.Find.{as_number, as_str, as_array, as_object}
use Rattle.serde_json.specs.Read.{of_json, of_items, of_members, converted}
use Rattle.serde_json.specs.View.{number_view}
use Rattle.serde_json.specs.declared.number.Number.{Number as TreeNumber}
use Rattle.json_fields.specs.Answers.{MemoryOr}
use Rattle.json_fields.specs.Each.{Each, IfThere}
use Rattle.json_fields.specs.Object.{list_of}
use Rattle.json_fields.specs.declared.fault.JsonFault.{JsonFault}
use Rattle.json_fields.specs.declared.kind.Kind.{Kind}
use Rattle.json_fields.specs.declared.kind.Kind.TheVariants.{Number, Text, Array, Object, Other}

-- ---- the grammar: what the tokens begin with, and the tokens after it

-- a value, in which arrays and objects nest at most so deep
abbrev pub value_in : ℕ → List Token → Option (Data × List Token)
value_in depth tokens = converted of_json (value depth tokens)

-- the items of an array, after its opening bracket
abbrev pub items_in : ℕ → List Token → Option (Items × List Token)
items_in depth tokens = converted of_items (items (value depth) (length tokens) tokens)

-- the members of an object, likewise
abbrev pub members_in : ℕ → List Token → Option (Members × List Token)
members_in depth tokens = converted (λ ms. of_members ms no_members) (members (value depth) (length tokens) tokens)

-- ---- what a call answers that takes a part of the file

-- this part, of which the answer is; or there is none; or no memory
abbrev pub Part : {X D : Type 0} → (X → D → Type 0) → Option (D × List Token) → List Token → Result X JsonFault → Type 0
Part {D = D} R part rest (Ok x) = (d : D) × (part ≡ Some (d, rest)) × R x d
Part R part rest (Err fault) = MemoryOr fault (part ≡ None)

abbrev pub Takes : {X : Type 0} → (X → Data → Type 0) → ℕ → List Token → List Token → Result X JsonFault → Type 0
Takes R depth old new result = Part R (value_in depth old) new result

abbrev pub TakesItems : {X : Type 0} → (X → List Data → Type 0) → ℕ → List Token → List Token → Result X JsonFault → Type 0
TakesItems R depth old new result = Part (λ x ds. R x (list_of ds)) (items_in depth old) new result

abbrev pub TakesObject : {X : Type 0} → (X → Data → Type 0) → ℕ → List Token → List Token → Result X JsonFault → Type 0
TakesObject R depth old new result = Part (λ x ms. R x (object ms)) (members_in depth old) new result

abbrev pub Anything : {X D : Type 0} → X → D → Type 0
Anything x d = Unit {0}

-- ---- kinds of values

abbrev pub kind_number : Kind → Option Num
kind_number (Number n) = Some (number_view n)
kind_number (Text text) = None
kind_number Array = None
kind_number Object = None
kind_number Other = None

abbrev pub kind_text : Kind → Option (List ℕ)
kind_text (Number n) = None
kind_text (Text text) = Some text.now
kind_text Array = None
kind_text Object = None
kind_text Other = None

abbrev pub is_array : Kind → Bool
is_array (Number n) = false
is_array (Text text) = false
is_array Array = true
is_array Object = false
is_array Other = false

abbrev pub is_object : Kind → Bool
is_object (Number n) = false
is_object (Text text) = false
is_object Array = false
is_object Object = true
is_object Other = false

pub record KindIs (kind : Kind) (d : Data) : Type 0 where
  pub number : kind_number kind ≡ as_number d
  pub text : kind_text kind ≡ as_str d
  pub array : is_array kind ≡ is_some (as_array d)
  pub object : is_object kind ≡ is_some (as_object d)

-- an opening bracket was taken, or a value
abbrev pub OpensAs : Kind → ℕ → List Token → List Token → Type 0
OpensAs (Number n) depth old new = (d : Data) × (value_in depth old ≡ Some (d, new)) × KindIs (Number n) d
OpensAs (Text text) depth old new = (d : Data) × (value_in depth old ≡ Some (d, new)) × KindIs (Text text) d
OpensAs Array depth old new = (old ≡ begin_array ∷ new) × (0 < depth)
OpensAs Object depth old new = (old ≡ begin_object ∷ new) × (0 < depth)
OpensAs Other depth old new = (d : Data) × (value_in depth old ≡ Some (d, new)) × KindIs Other d

abbrev pub Opens : ℕ → List Token → List Token → Result Kind JsonFault → Type 0
Opens depth old new (Ok kind) = OpensAs kind depth old new
Opens depth old new (Err fault) = MemoryOr fault (value_in depth old ≡ None)

-- this opening bracket was taken, or a value that isn't of its kind
abbrev pub OpensOr : {E : Type 0} → Token → (Data → Option E) → ℕ → List Token → List Token → Result Bool JsonFault → Type 0
OpensOr bracket as_kind depth old new (Ok true) = (old ≡ bracket ∷ new) × (0 < depth)
OpensOr bracket as_kind depth old new (Ok false) = (d : Data) × (value_in depth old ≡ Some (d, new)) × (as_kind d ≡ None)
OpensOr bracket as_kind depth old new (Err fault) = MemoryOr fault (value_in depth old ≡ None)

abbrev pub OpensArray : ℕ → List Token → List Token → Result Bool JsonFault → Type 0
OpensArray depth old new result = OpensOr begin_array as_array depth old new result

abbrev pub OpensObject : ℕ → List Token → List Token → Result Bool JsonFault → Type 0
OpensObject depth old new result = OpensOr begin_object as_object depth old new result

-- ---- what a value stands for, if for anything

-- this is so of what is seen here, or of nothing
abbrev pub Holds : {X A : Type 0} → (X → A) → Option X → (A → Type 0) → Type 0
Holds see (Some x) P = P (see x)
Holds see None P = (a : _) → P a → ⊥

abbrev pub IsOr : {X A : Type 0} → (X → A) → (Data → A → Type 0) → Option X → Data → Type 0
IsOr see R found d = Holds see found (R d)

-- what is kept of a member that may be absent: none where it stands for nothing
abbrev pub Keeps : {X A : Type 0} → (X → A) → (Data → A → Type 0) → Option (Option X) → Option Data → Type 0
Keeps see R kept o = Holds (option_map see) kept (IfThere R o)

-- the elements, each
abbrev pub AreOr : {X A : Type 0} → (X → List A) → (Data → A → Type 0) → Option X → List Data → Type 0
AreOr see R found ds = Holds see found (Each R ds)

-- an array of such elements
pub record IsListOf {A : Type 0} (R : Data → A → Type 0) (d : Data) (list : List A) : Type 0 where
  pub elements : List Data
  pub is : option_map list_of (as_array d) ≡ Some elements
  pub each : Each R elements list

abbrev pub IsListOr : {X A : Type 0} → (X → List A) → (Data → A → Type 0) → Option X → Data → Type 0
IsListOr see R found d = Holds see found (IsListOf R d)

abbrev pub joined : {T : Type 0} → Option (List T) → Option T → Option (List T)
joined None item = None
joined (Some list) None = None
joined (Some list) (Some item) = Some (list ++ item ∷ [])

-- ---- how what is kept of members is seen

abbrev pub items_view : {X A : Type 0} → (X → A) → Vec X Global → List A
items_view see v = map see v.items

abbrev pub numbers_kept : Option (Option TreeNumber) → Option (Option Num)
numbers_kept kept = option_map (option_map number_view) kept

abbrev pub text_view : Option (Vec ℕ Global) → Option (List ℕ)
text_view text = option_map (λ v. v.items) text

abbrev pub texts_kept : Option (Option (Vec ℕ Global)) → Option (Option (List ℕ))
texts_kept kept = option_map text_view kept
