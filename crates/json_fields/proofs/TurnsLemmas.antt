-- The grammar's loops over a file's tokens, a turn at a time.
use Rattle.std.proofs.Common.{◌≡◌, ℕ, zero, suc, ◌-◌, ◌<◌, ◌≤◌, List, [], ◌∷◌, ◌++◌, length, Option, Some, None, option_map, option_and_then, refl, ap, ◌∙◌, arith}
use Rattle.json.specs.Token.{Token}
use Rattle.json.specs.Json as json
use Rattle.json.specs.Json.{Parse, parse_map, after_end_array, read_key, items_step, items, members, value}
use Rattle.json.proofs.Grammar.{left, value-begin_array, value-begin_object, read_key-shorter, items_end, items_more, members_end, members_no_key, members_more, skip_value-shorter}
use Rattle.serde_json.specs.Data.{Data, array, object, Items, no_items, item, Members, no_members, put}
use Rattle.serde_json.specs.Read.{of_json, of_items, of_members, converted}
use Rattle.json_fields.specs.Object.{list_of}
use Rattle.json_fields.specs.Tokens.{value_in, items_in, members_in}

-- ---- what was read, under a conversion

abbrev pick : {A : Type 0} → A → Option A → A
pick d None = d
pick d (Some a) = a

found : {A B : Type 0} (a : A) (r s : List Token) (x : Option B) (b : B) → option_map {U = B × List Token} (λ y. (y, r)) x ≡ Some (b, s) → (r ≡ s) × (x ≡ Some b)
found a r s None b e = absurd (cc)
found a r s (Some y) b e = let same = ap (pick (y, r)) e in (ap (λ p. p.1) same, ap (λ p. Some p.0) same)

converted_some : {A B : Type 0} (f : A → Option B) (o : Option (A × List Token)) (b : B) (r : List Token) → converted f o ≡ Some (b, r)
    → (a : A) × (o ≡ Some (a, r)) × (f a ≡ Some b)
converted_some f None b r e = absurd (cc)
converted_some f (Some p) b r e = let both = found p.0 p.1 r (f p.0) b e in (p.0, ap (λ s. Some (p.0, s)) both.0, both.1)

refused : {B : Type 0} (r : List Token) (x : Option B) → option_map {U = B × List Token} (λ y. (y, r)) x ≡ None → x ≡ None
refused r None e = refl
refused r (Some y) e = absurd (cc)

twice : {A B : Type 0} (g : A → B) (r : List Token) (x : Option A) → option_map (λ b. (b, r)) (option_map g x) ≡ parse_map g (option_map (λ a. (a, r)) x)
twice g r None = refl
twice g r (Some a) = refl

converted-array : (o : Option (json.Items × List Token)) → converted of_json (parse_map json.array o) ≡ parse_map array (converted of_items o)
converted-array None = refl
converted-array (Some p) = twice array p.1 (of_items p.0)

converted-object : (o : Option (json.Members × List Token)) → converted of_json (parse_map json.object o) ≡ parse_map object (converted (λ ms. of_members ms no_members) o)
converted-object None = refl
converted-object (Some p) = twice object p.1 (of_members p.0 no_members)

with_item : (j : json.Json) (d : Data) → of_json j ≡ Some d → (o : Option (json.Items × List Token))
    → converted of_items (parse_map (json.item j) o) ≡ parse_map (item d) (converted of_items o)
with_item j d e None = refl
with_item j d e (Some p) = rw e (twice (item d) p.1 (of_items p.0))

without_item : (j : json.Json) → of_json j ≡ None → (o : Option (json.Items × List Token)) → converted of_items (parse_map (json.item j) o) ≡ None
without_item j e None = refl
without_item j e (Some p) = rw e

with_member : (k : List ℕ) (j : json.Json) (d : Data) (old : Members) → of_json j ≡ Some d → (o : Option (json.Members × List Token))
    → converted (λ ms. of_members ms old) (parse_map (json.member k j) o) ≡ converted (λ ms. of_members ms (put k d old)) o
with_member k j d old e None = refl
with_member k j d old e (Some p) = rw e

without_member : (k : List ℕ) (j : json.Json) (old : Members) → of_json j ≡ None → (o : Option (json.Members × List Token))
    → converted (λ ms. of_members ms old) (parse_map (json.member k j) o) ≡ None
without_member k j old e None = refl
without_member k j old e (Some p) = rw e

-- ---- one turn

module _ (p : Parse json.Json) where
  item_read : (n : ℕ) (ts r : List Token) (d : Data) → 0 < n → after_end_array ts ≡ None → converted of_json (p ts) ≡ Some (d, r)
      → converted of_items (items p n ts) ≡ parse_map (item d) (converted of_items (items p (n - 1) r))
  item_read n ts r d some going e = let j = converted_some of_json (p ts) d r e in ap (converted of_items) (items_more p n ts r j.0 some going j.1) ∙ with_item j.0 d j.2 _

  no_item : (more : Parse json.Items) (o : Option (json.Json × List Token)) → converted of_json o ≡ None
      → converted of_items (option_and_then (λ q. parse_map (json.item q.0) (more q.1)) o) ≡ None
  no_item more None e = refl
  no_item more (Some q) e = without_item q.0 (refused q.1 (of_json q.0) e) (more q.1)

  item_refused : (n : ℕ) (ts : List Token) → after_end_array ts ≡ None → converted of_json (p ts) ≡ None → converted of_items (items p n ts) ≡ None
  unfolding items
  item_refused zero ts going e = refl
  item_refused (suc n) ts going e = ap (λ o. converted of_items (items_step p (items p n) ts o)) going ∙ no_item (items p n) (p ts) e

  module _ (old : Members) where
    member_read : (n : ℕ) (k : List ℕ) (ts s r : List Token) (d : Data) → 0 < n → read_key ts ≡ Some (Some k, s) → converted of_json (p s) ≡ Some (d, r)
        → converted (λ ms. of_members ms old) (members p n ts) ≡ converted (λ ms. of_members ms (put k d old)) (members p (n - 1) r)
    member_read n k ts s r d some key e =
        let j = converted_some of_json (p s) d r e in
        ap (converted (λ ms. of_members ms old)) (members_more p n k ts s r j.0 some key j.1) ∙ with_member k j.0 d old j.2 _

    no_member : (k : List ℕ) (more : Parse json.Members) (o : Option (json.Json × List Token)) → converted of_json o ≡ None
        → converted (λ ms. of_members ms old) (option_and_then (λ q. parse_map (json.member k q.0) (more q.1)) o) ≡ None
    no_member k more None e = refl
    no_member k more (Some q) e = without_member k q.0 old (refused q.1 (of_json q.0) e) (more q.1)

    member_refused : (n : ℕ) (k : List ℕ) (ts s : List Token) → read_key ts ≡ Some (Some k, s) → converted of_json (p s) ≡ None
        → converted (λ ms. of_members ms old) (members p n ts) ≡ None
    unfolding members
    member_refused zero k ts s key e = refl
    member_refused (suc n) k ts s key e = rw key (no_member k (members p n) (p s) e)

-- ---- a value takes a token at least

pub value_shorter : (depth : ℕ) (ts r : List Token) (d : Data) → value_in depth ts ≡ Some (d, r) → length r < length ts
value_shorter depth ts r d e = let j = converted_some of_json (value depth ts) d r e in skip_value-shorter depth ts r (ap left j.1)

-- ---- the items of an array

abbrev before : List Data → Items → Items
before [] rest = rest
before (d ∷ ds) rest = item d (before ds rest)

before_push : (ds : List Data) (d : Data) (rest : Items) → before ds (item d rest) ≡ before (ds ++ d ∷ []) rest
before_push [] d rest = refl
before_push (e ∷ ds) d rest = ap (item e) (before_push ds d rest)

one_more : (ds : List Data) (d : Data) (r : Option (Items × List Token)) → parse_map (before ds) (parse_map (item d) r) ≡ parse_map (before (ds ++ d ∷ [])) r
one_more ds d None = refl
one_more ds d (Some p) = ap (λ is. Some (is, p.1)) (before_push ds d p.0)

none_before : (r : Option (Items × List Token)) → r ≡ parse_map (λ a. a) r
none_before None = refl
none_before (Some p) = refl

list_of_before : (ds : List Data) → ds ≡ list_of (before ds no_items)
list_of_before [] = refl
list_of_before (d ∷ ds) = ap (λ es. d ∷ es) (list_of_before ds)

-- these are the items before the tokens that are left
pub record ItemsSoFar (depth : ℕ) (all rest : List Token) (done : List Data) : Type 0 where
  pub turns : ℕ
  pub enough : length rest ≤ turns
  pub within : length rest ≤ length all
  pub so_far : items_in depth all ≡ parse_map (before done) (converted of_items (items (value depth) turns rest))

pub items_start : (depth : ℕ) (all : List Token) → ItemsSoFar depth all all []
items_start depth all = record { turns = length all; enough = omega arith; within = omega arith; so_far = none_before (items_in depth all) }

pub items_next : (depth : ℕ) (all rest next : List Token) (done : List Data) (d : Data) → ItemsSoFar depth all rest done
    → after_end_array rest ≡ None → value_in depth rest ≡ Some (d, next) → ItemsSoFar depth all next (done ++ d ∷ [])
items_next depth all rest next done d s going e =
    let less = value_shorter depth rest next d e in
    let turn = item_read (value depth) s.turns rest next d (omega (arith, s.enough, less)) going e in
    record {
      turns = s.turns - 1;
      enough = omega (arith, s.enough, less);
      within = omega (arith, s.within, less);
      so_far = s.so_far ∙ ap (parse_map (before done)) turn ∙ one_more done d _;
    }

pub items_done : (depth : ℕ) (all rest next : List Token) (done : List Data) → ItemsSoFar depth all rest done
    → after_end_array rest ≡ Some next → (ds : Items) × (items_in depth all ≡ Some (ds, next)) × (done ≡ list_of ds)
items_done depth all rest next done s end = (
  before done no_items,
  s.so_far ∙ ap (λ o. parse_map (before done) (converted of_items o)) (items_end (value depth) s.turns rest next s.enough end),
  list_of_before done,
)

pub items_refused : (depth : ℕ) (all rest : List Token) (done : List Data) → ItemsSoFar depth all rest done
    → after_end_array rest ≡ None → value_in depth rest ≡ None → items_in depth all ≡ None
items_refused depth all rest done s going e = s.so_far ∙ ap (parse_map (before done)) (item_refused (value depth) s.turns rest going e)

-- ---- the members of an object

-- these are the members before the tokens that are left
pub record MembersSoFar (depth : ℕ) (all rest : List Token) (done : Members) : Type 0 where
  pub turns : ℕ
  pub enough : length rest ≤ turns
  pub within : length rest ≤ length all
  pub so_far : members_in depth all ≡ converted (λ ms. of_members ms done) (members (value depth) turns rest)

pub members_start : (depth : ℕ) (all : List Token) → MembersSoFar depth all all no_members
members_start depth all = record { turns = length all; enough = omega arith; within = omega arith; so_far = refl }

pub members_next : (depth : ℕ) (all rest named next : List Token) (done : Members) (k : List ℕ) (d : Data) → MembersSoFar depth all rest done
    → read_key rest ≡ Some (Some k, named) → value_in depth named ≡ Some (d, next) → MembersSoFar depth all next (put k d done)
members_next depth all rest named next done k d s key e =
    let less = value_shorter depth named next d e in
    let lesser = read_key-shorter rest (Some k) named key in
    record {
      turns = s.turns - 1;
      enough = omega (arith, s.enough, less, lesser);
      within = omega (arith, s.within, less, lesser);
      so_far = s.so_far ∙ member_read (value depth) done s.turns k rest named next d (omega (arith, s.enough, less, lesser)) key e;
    }

pub members_done : (depth : ℕ) (all rest next : List Token) (done : Members) → MembersSoFar depth all rest done
    → read_key rest ≡ Some (None, next) → members_in depth all ≡ Some (done, next)
members_done depth all rest next done s end = s.so_far ∙ ap (converted (λ ms. of_members ms done)) (members_end (value depth) s.turns rest next s.enough end)

pub members_no_name : (depth : ℕ) (all rest : List Token) (done : Members) → MembersSoFar depth all rest done → read_key rest ≡ None
    → members_in depth all ≡ None
members_no_name depth all rest done s e = s.so_far ∙ ap (converted (λ ms. of_members ms done)) (members_no_key (value depth) s.turns rest e)

pub members_refused : (depth : ℕ) (all rest named : List Token) (done : Members) (k : List ℕ) → MembersSoFar depth all rest done
    → read_key rest ≡ Some (Some k, named) → value_in depth named ≡ None → members_in depth all ≡ None
members_refused depth all rest named done k s key e = s.so_far ∙ member_refused (value depth) done s.turns k rest named key e

-- ---- an array and an object, from their opening bracket on

pub array_opened : (depth : ℕ) (all rest : List Token) → all ≡ Token.begin_array ∷ rest → 0 < depth
    → value_in depth all ≡ parse_map array (items_in (depth - 1) rest)
array_opened depth all rest first some =
    ap (λ ts. converted of_json (value depth ts)) first ∙ ap (converted of_json) (value-begin_array depth rest some)
    ∙ converted-array (items (value (depth - 1)) (length rest) rest)

pub object_opened : (depth : ℕ) (all rest : List Token) → all ≡ Token.begin_object ∷ rest → 0 < depth
    → value_in depth all ≡ parse_map object (members_in (depth - 1) rest)
object_opened depth all rest first some =
    ap (λ ts. converted of_json (value depth ts)) first ∙ ap (converted of_json) (value-begin_object depth rest some)
    ∙ converted-object (members (value (depth - 1)) (length rest) rest)
