-- What a value is that begins with a token.
use Rattle.std.proofs.Common.{◌≡◌, ℕ, ◌-◌, ◌<◌, List, [], ◌∷◌, Bool, Option, Some, None, option_map, refl, sym, ap, subst, ◌∙◌}
use Rattle.json.specs.Token.{Token}
use Rattle.json.specs.Json.{value, parse_map}
use Rattle.json.proofs.Grammar.{value_is}
use Rattle.serde_json.specs.Data.{Num, null, boolean, number, string, array, object, Items, Members}
use Rattle.serde_json.specs.Read.{of_json, converted, number_of}
use Rattle.serde_json.specs.View.{number_view}
use Rattle.serde_json.specs.declared.number.Number.{Number}
use Rattle.json_fields.specs.Answers.{MemoryOr}
use Rattle.json_fields.specs.Tokens.{KindIs, value_in, items_in, members_in}
use Rattle.json_fields.specs.declared.fault.JsonFault.{JsonFault}
use Rattle.json_fields.specs.declared.kind.Kind.{Kind}
use Rattle.json_fields.specs.declared.kind.Kind.TheVariants.{Array, Object}
use Rattle.json_fields.proofs.FaultLemmas.{fault_by}
use Rattle.json_fields.proofs.TurnsLemmas.{array_opened, object_opened}

module _ (depth : ℕ) (all rest : List Token) where
  at : (t : Token) → all ≡ t ∷ rest → value_in depth all ≡ value_in depth (t ∷ rest)
  at t e = ap (value_in depth) e

  pub text_first : (s : List ℕ) → all ≡ Token.string s ∷ rest → value_in depth all ≡ Some (string s, rest)
  text_first s e = at (Token.string s) e ∙ ap (converted of_json) (value_is depth (Token.string s ∷ rest))

  pub bool_first : (b : Bool) → all ≡ Token.boolean b ∷ rest → value_in depth all ≡ Some (boolean b, rest)
  bool_first b e = at (Token.boolean b) e ∙ ap (converted of_json) (value_is depth (Token.boolean b ∷ rest))

  pub null_first : all ≡ Token.null ∷ rest → value_in depth all ≡ Some (null, rest)
  null_first e = at Token.null e ∙ ap (converted of_json) (value_is depth (Token.null ∷ rest))

  number_by : (s : List ℕ) (o : Option Num) → all ≡ Token.number s ∷ rest → number_of s ≡ o
      → value_in depth all ≡ option_map (λ n. (number n, rest)) o
  number_by s None e is = at (Token.number s) e ∙ ap (converted of_json) (value_is depth (Token.number s ∷ rest)) ∙ rw is
  number_by s (Some n) e is = at (Token.number s) e ∙ ap (converted of_json) (value_is depth (Token.number s ∷ rest)) ∙ rw is

  pub number_first : (s : List ℕ) (n : Number) → all ≡ Token.number s ∷ rest → option_map number_view (Some n) ≡ number_of s
      → value_in depth all ≡ Some (number (number_view n), rest)
  number_first s n e is = number_by s (Some (number_view n)) e (sym is)

  pub number_too_large : (s : List ℕ) → all ≡ Token.number s ∷ rest → None ≡ number_of s → value_in depth all ≡ None
  number_too_large s e is = number_by s None e (sym is)

  pub end_object_first : all ≡ Token.end_object ∷ rest → value_in depth all ≡ None
  end_object_first e = at Token.end_object e ∙ ap (converted of_json) (value_is depth (Token.end_object ∷ rest))

  pub end_array_first : all ≡ Token.end_array ∷ rest → value_in depth all ≡ None
  end_array_first e = at Token.end_array e ∙ ap (converted of_json) (value_is depth (Token.end_array ∷ rest))

  pub key_first : (s : List ℕ) → all ≡ Token.key s ∷ rest → value_in depth all ≡ None
  key_first s e = at (Token.key s) e ∙ ap (converted of_json) (value_is depth (Token.key s ∷ rest))

  pub bad_first : all ≡ Token.bad ∷ rest → value_in depth all ≡ None
  bad_first e = at Token.bad e ∙ ap (converted of_json) (value_is depth (Token.bad ∷ rest))

  pub array_too_deep : depth ≡ 0 → all ≡ Token.begin_array ∷ rest → value_in depth all ≡ None
  unfolding value
  array_too_deep none e = at Token.begin_array e ∙ ap (λ n. converted of_json (value n (Token.begin_array ∷ rest))) none

  pub object_too_deep : depth ≡ 0 → all ≡ Token.begin_object ∷ rest → value_in depth all ≡ None
  unfolding value
  object_too_deep none e = at Token.begin_object e ∙ ap (λ n. converted of_json (value n (Token.begin_object ∷ rest))) none

pub nothing_first : (depth : ℕ) (all : List Token) → all ≡ [] → value_in depth all ≡ None
nothing_first depth all e = ap (value_in depth) e ∙ ap (converted of_json) (value_is depth [])

-- ---- an array and an object, from their opening bracket on

module _ (depth : ℕ) (old mid : List Token) where
  module _ (first : old ≡ Token.begin_array ∷ mid) (some : 0 < depth) where
    pub array_value : (ds : Items) (new : List Token) → items_in (depth - 1) mid ≡ Some (ds, new) → value_in depth old ≡ Some (array ds, new)
    array_value ds new e = array_opened depth old mid first some ∙ ap (parse_map array) e

    pub array_fault : (fault : JsonFault) → MemoryOr fault (items_in (depth - 1) mid ≡ None)
        → MemoryOr fault (value_in depth old ≡ None)
    array_fault fault h = fault_by fault (λ none. array_opened depth old mid first some ∙ ap (parse_map array) none) h

  module _ (first : old ≡ Token.begin_object ∷ mid) (some : 0 < depth) where
    pub object_value : (ms : Members) (new : List Token) → members_in (depth - 1) mid ≡ Some (ms, new) → value_in depth old ≡ Some (object ms, new)
    object_value ms new e = object_opened depth old mid first some ∙ ap (parse_map object) e

    pub object_fault : (fault : JsonFault) → MemoryOr fault (members_in (depth - 1) mid ≡ None)
        → MemoryOr fault (value_in depth old ≡ None)
    object_fault fault h = fault_by fault (λ none. object_opened depth old mid first some ∙ ap (parse_map object) none) h

-- ---- kinds

pub kind_array : (kind : Kind) (ds : Items) → kind ≡ Array → KindIs kind (array ds)
kind_array kind ds e = subst (λ (k : Kind). KindIs k (array ds)) (sym e) (record { number = refl; text = refl; array = refl; object = refl })

pub kind_object : (kind : Kind) (ms : Members) → kind ≡ Object → KindIs kind (object ms)
kind_object kind ms e = subst (λ (k : Kind). KindIs k (object ms)) (sym e) (record { number = refl; text = refl; array = refl; object = refl })
