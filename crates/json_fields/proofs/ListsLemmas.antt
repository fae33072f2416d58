-- Lists whose items are read one after another.
use Rattle.std.proofs.Common.{◌≡◌, ℕ, ◌-◌, ◌<◌, List, [], ◌∷◌, ◌++◌, Option, Some, None, Vec, map, option_map, bytes_eq, true, false, refl, sym, ap, subst, ◌∙◌}
use Rattle.std.specs.declared.alloc.Global.{Global}
use Rattle.std.specs.declared.result.Result.{Result}
use Rattle.std.specs.declared.result.Result.TheVariants.{Ok, Err}
use Rattle.json.specs.Token.{Token, begin_array, begin_object}
use Rattle.json.specs.Json.{parse_map}
use Rattle.serde_json.specs.Data.{Data, array, object, Items, Members, put}
use Rattle.serde_json.specs.Find.{as_array}
use Rattle.json_fields.specs.Each.{Each}
use Rattle.json_fields.specs.Object.{ArrayIs, list_of}
use Rattle.json_fields.specs.Tokens.{Holds, AreOr, IsListOr, Takes, TakesItems, TakesObject, joined}
use Rattle.json_fields.specs.declared.fault.JsonFault.{JsonFault}
use Rattle.json_fields.proofs.FaultLemmas.{fault_by}
use Rattle.json_fields.proofs.ObjectLemmas.{array_same, array_other}
use Rattle.json_fields.proofs.FoundLemmas.{same_some}
use Rattle.json_fields.proofs.TurnsLemmas.{array_opened, object_opened}

map_push : {A B : Type 0} (f : A → B) (xs : List A) (x : A) → map f (xs ++ x ∷ []) ≡ map f xs ++ f x ∷ []
map_push f [] x = refl
map_push f (y ∷ xs) x = ap (λ zs. f y ∷ zs) (map_push f xs x)

each_append : {D A : Type 0} (R : D → A → Type 0) (ds : List D) (list : List A) (d : D) (a : A) → Each R ds list → R d a
    → Each R (ds ++ d ∷ []) (list ++ a ∷ [])
each_append R [] [] d a each holds = (holds, tt)
each_append R [] (b ∷ list) d a each holds = absurd each
each_append R (e ∷ ds) [] d a each holds = absurd each
each_append R (e ∷ ds) (b ∷ list) d a each holds = (each.0, each_append R ds list d a each.1 holds)

-- what the items of a longer list stand for
record Split {D A : Type 0} (R : D → A → Type 0) (ds : List D) (d : D) : Type 0 where
  list : List A
  a : A
  each : Each R ds list
  holds : R d a

each_split : {D A : Type 0} (R : D → A → Type 0) (ds : List D) (d : D) (list : List A) → Each R (ds ++ d ∷ []) list → Split R ds d
each_split R [] d [] each = absurd each
each_split R [] d (a ∷ list) each = record { list = []; a = a; each = tt; holds = each.0 }
each_split R (e ∷ ds) d [] each = absurd each
each_split R (e ∷ ds) d (b ∷ list) each =
    let more = each_split R ds d list each.1 in
    record { list = b ∷ more.list; a = more.a; each = (each.0, more.each); holds = more.holds }

pub not_some : {A : Type 0} (a : A) → Some a ≡ None → ⊥
not_some a e = cc

-- one more item was read
pub are_more : {T A : Type 0} (R : Data → A → Type 0) (look : T → A) (old new : Option (Vec T Global)) (x : Option T) (ds : List Data) (d : Data)
    → option_map (λ v. v.items) new ≡ joined (option_map (λ v. v.items) old) x
    → AreOr (λ (v : Vec T Global). map look v.items) R old ds → Holds look x (R d)
    → AreOr (λ (v : Vec T Global). map look v.items) R new (ds ++ d ∷ [])
are_more {A = A} R look None None x ds d is each holds = λ list h. let s = each_split R ds d list h in each s.list s.each
are_more R look None (Some w) x ds d is each holds = absurd (not_some w.items is)
are_more {A = A} R look (Some v) None None ds d is each holds = λ list h. let s = each_split R ds d list h in holds s.a s.holds
are_more R look (Some v) (Some w) None ds d is each holds = absurd (not_some w.items is)
are_more R look (Some v) None (Some t) ds d is each holds = absurd (not_some (v.items ++ t ∷ []) (sym is))
are_more {A = A} R look (Some v) (Some w) (Some t) ds d is each holds =
    let same : w.items ≡ v.items ++ t ∷ [] = same_some (Some w.items) w.items (v.items ++ t ∷ []) refl is in
    subst (λ (list : List A). Each R (ds ++ d ∷ []) list) (sym (ap (map look) same ∙ map_push look v.items t)) (each_append R ds (map look v.items) d (look t) each holds)

-- ---- from the items to the array, and to the member that it is

module _ {X A : Type 0} (see : X → List A) (R : Data → A → Type 0) where
  pub list_here : (found : Option X) (elements : Items) (done : List Data) → done ≡ list_of elements → AreOr see R found done
      → IsListOr see R found (array elements)
  list_here (Some x) elements done is each = record { elements = done; is = ap Some (sym is); each = each }
  list_here None elements done is none = λ list h. none list (subst (λ (ds : List Data). Each R ds list) (same_some (Some (list_of elements)) h.elements done h.is (ap Some (sym is))) h.each)

  pub list_nowhere : (d : Data) → as_array d ≡ None → IsListOr see R None d
  list_nowhere d e = λ list h. not_some h.elements (sym h.is ∙ ap (option_map list_of) e)

  pub list_replaced : (found : Option X) (q k : List ℕ) (d : Data) (ms : Members) → bytes_eq k q ≡ true → IsListOr see R found d
      → Holds see found (ArrayIs R q (object (put k d ms)))
  list_replaced (Some x) q k d ms e h = record { items = h.elements; is = sym (array_same q k d ms e) ∙ h.is; each = h.each }
  list_replaced None q k d ms e none = λ list h. none list (record { elements = h.items; is = array_same q k d ms e ∙ h.is; each = h.each })

  pub list_kept : (found : Option X) (q k : List ℕ) (d : Data) (ms : Members) → bytes_eq k q ≡ false
      → Holds see found (ArrayIs R q (object ms)) → Holds see found (ArrayIs R q (object (put k d ms)))
  list_kept (Some x) q k d ms e h = record { items = h.items; is = sym (array_other q k d ms e) ∙ h.is; each = h.each }
  list_kept None q k d ms e none = λ list h. none list (record { items = h.items; is = array_other q k d ms e ∙ h.is; each = h.each })

  -- from what is taken after the bracket
  pub array_taken : (depth : ℕ) (old mid new : List Token) (result : Result (Option X) JsonFault) → old ≡ begin_array ∷ mid → 0 < depth
      → TakesItems (AreOr see R) (depth - 1) mid new result → Takes (IsListOr see R) depth old new result
  array_taken depth old mid new (Ok found) first some h =
      (array h.0, array_opened depth old mid first some ∙ ap (parse_map array) h.1, list_here found h.0 (list_of h.0) refl h.2)
  array_taken depth old mid new (Err fault) first some h = fault_by fault (λ none. array_opened depth old mid first some ∙ ap (parse_map array) none) h

pub object_taken : {X : Type 0} (R : X → Data → Type 0) (depth : ℕ) (old mid new : List Token) (result : Result X JsonFault)
    → old ≡ begin_object ∷ mid → 0 < depth → TakesObject R (depth - 1) mid new result → Takes R depth old new result
object_taken R depth old mid new (Ok kept) first some h =
    (object h.0, object_opened depth old mid first some ∙ ap (parse_map object) h.1, h.2)
object_taken R depth old mid new (Err fault) first some h = fault_by fault (λ none. object_opened depth old mid first some ∙ ap (parse_map object) none) h
