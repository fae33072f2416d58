-- The members of an object after one more was read.
use Rattle.std.proofs.Common.{◌≡◌, ℕ, List, [], ◌∷◌, Bool, true, false, ◌&&◌, ◌||◌, map, bytes_eq, refl, sym, ap, subst, ◌∙◌, Option, Some, None, option_map, option_and_then, is_some, Ordering, Less, Equal, Greater, nat_cmp, is_eq}
use Rattle.std.proofs.lemmas.Bool.{false≢true}
use Rattle.std.proofs.lemmas.Map.Text.{is_eq-slice_cmp}
use Rattle.std.proofs.lemmas.Slice.Eq.{bytes_eq-Decides}
use Rattle.std.specs.Cmp.Lexicographic.{slice_cmp}
use Rattle.std.specs.List.{list_any, list_all}
use Rattle.std.specs.Ordering.{match_ordering}
use Rattle.serde_json.specs.Data.{Data, null, boolean, number, string, array, object, Members, no_members, member, put}
use Rattle.serde_json.specs.Find.{get, get_member, as_number, as_str, as_array, as_object}
use Rattle.serde_json.proofs.Views.{get_member-put, get_member-put_other}
use Rattle.json_fields.specs.Object.{if_there, number_at, array_at, may_have_text, is_text_if_there, is_among, names_of, has_only, list_of}

pub list_any-map : {A B : Type 0} (p : B → Bool) (f : A → B) (xs : List A)
    → list_any (λ x. p (f x)) xs ≡ list_any p (map f xs)
list_any-map p f [] = refl
list_any-map p f (x ∷ xs) = ap (λ b. p (f x) || b) (list_any-map p f xs)

-- ---- names

pub same_name : (k q : List ℕ) → bytes_eq k q ≡ true → k ≡ q
same_name k q e = (bytes_eq-Decides k q).0 e

-- a name that is this one isn't that one
pub not_that : (k this that : List ℕ) → bytes_eq k this ≡ true → bytes_eq this that ≡ false → bytes_eq k that ≡ false
not_that k this that e other = ap (λ (x : List ℕ). bytes_eq x that) (same_name k this e) ∙ other

-- ---- what is found at a name

pub get_same : (q k : List ℕ) (d : Data) (ms : Members) → bytes_eq k q ≡ true → get q (object (put k d ms)) ≡ Some d
get_same q k d ms e = subst (λ (x : List ℕ). get_member x (put k d ms) ≡ Some d) (same_name k q e) (get_member-put k d ms)

pub get_other : (q k : List ℕ) (d : Data) (ms : Members) → bytes_eq k q ≡ false → get q (object (put k d ms)) ≡ get q (object ms)
get_other q k d ms e = get_member-put_other q k d ms (λ same. false≢true (sym e ∙ (bytes_eq-Decides k q).1 (sym same)))

pub get_in_other : (q : List ℕ) (d : Data) → as_object d ≡ None → get q d ≡ None
get_in_other q null e = refl
get_in_other q (boolean b) e = refl
get_in_other q (number n) e = refl
get_in_other q (string s) e = refl
get_in_other q (array ds) e = refl
get_in_other q (object ms) e = absurd (cc)

pub number_other : (q k : List ℕ) (d : Data) (ms : Members) → bytes_eq k q ≡ false → number_at q (object ms) ≡ number_at q (object (put k d ms))
number_other q k d ms e = sym (ap (option_and_then as_number) (get_other q k d ms e))

pub text_other : (q k : List ℕ) (d : Data) (ms : Members) → bytes_eq k q ≡ false → may_have_text q (object ms) ≡ may_have_text q (object (put k d ms))
text_other q k d ms e = sym (ap is_text_if_there (get_other q k d ms e))

pub array_other : (q k : List ℕ) (d : Data) (ms : Members) → bytes_eq k q ≡ false → array_at q (object ms) ≡ array_at q (object (put k d ms))
array_other q k d ms e = sym (ap (λ g. option_map list_of (option_and_then as_array g)) (get_other q k d ms e))

pub number_same : (q k : List ℕ) (d : Data) (ms : Members) → bytes_eq k q ≡ true → as_number d ≡ number_at q (object (put k d ms))
number_same q k d ms e = sym (ap (option_and_then as_number) (get_same q k d ms e))

pub text_same : (q k : List ℕ) (d : Data) (ms : Members) → bytes_eq k q ≡ true → is_some (as_str d) ≡ may_have_text q (object (put k d ms))
text_same q k d ms e = sym (ap is_text_if_there (get_same q k d ms e))

pub array_same : (q k : List ℕ) (d : Data) (ms : Members) → bytes_eq k q ≡ true → option_map list_of (as_array d) ≡ array_at q (object (put k d ms))
array_same q k d ms e = sym (ap (λ g. option_map list_of (option_and_then as_array g)) (get_same q k d ms e))

pub if_there_same : {A : Type 0} (of_kind : Data → Option A) (q k : List ℕ) (d : Data) (ms : Members) → bytes_eq k q ≡ true → option_map Some (of_kind d) ≡ if_there of_kind (get q (object (put k d ms)))
if_there_same of_kind q k d ms e = sym (ap (if_there of_kind) (get_same q k d ms e))

pub if_there_other : {A : Type 0} (of_kind : Data → Option A) (q k : List ℕ) (d : Data) (ms : Members) → bytes_eq k q ≡ false → if_there of_kind (get q (object ms)) ≡ if_there of_kind (get q (object (put k d ms)))
if_there_other of_kind q k d ms e = sym (ap (if_there of_kind) (get_other q k d ms e))

pub some_list : {A B : Type 0} (f : A → B) (o : Option A) → is_some o ≡ is_some (option_map f o)
some_list f None = refl
some_list f (Some x) = refl

pub maps_there : {A B : Type 0} (f : A → B) (o : Option A) → option_map (option_map f) (option_map Some o) ≡ option_map Some (option_map f o)
maps_there f None = refl
maps_there f (Some x) = refl

-- ---- whether the names are among some

and_idempotent : (a b : Bool) → (a && b) ≡ (a && (a && b))
and_idempotent true b = refl
and_idempotent false b = refl

and_swapped : (a b c : Bool) → (a && (b && c)) ≡ (b && (a && c))
and_swapped true b c = refl
and_swapped false true c = refl
and_swapped false false c = refl

and_turned : (a b : Bool) → (a && b) ≡ (b && a)
and_turned true true = refl
and_turned true false = refl
and_turned false true = refl
and_turned false false = refl

names_put_at : (p : List ℕ → Bool) (o : Ordering) (k l : List ℕ) (d e : Data) (ms : Members) → slice_cmp nat_cmp k l ≡ o
    → list_all p (names_of (put k d ms)) ≡ (p k && list_all p (names_of ms))
    → list_all p (names_of (match_ordering o (member k d (member l e ms)) (member l d ms) (member l e (put k d ms))))
    ≡ (p k && list_all p (names_of (member l e ms)))
names_put_at p Less k l d e ms is later = refl
names_put_at p Equal k l d e ms is later =
    let same : k ≡ l = same_name k l (sym (is_eq-slice_cmp k l) ∙ ap is_eq is) in
    and_idempotent (p l) (list_all p (names_of ms)) ∙ ap (λ (x : List ℕ). p x && (p l && list_all p (names_of ms))) (sym same)
names_put_at p Greater k l d e ms is later = ap (λ b. p l && b) later ∙ and_swapped (p l) (p k) (list_all p (names_of ms))

names_put : (p : List ℕ → Bool) (k : List ℕ) (d : Data) (ms : Members) → list_all p (names_of (put k d ms)) ≡ (p k && list_all p (names_of ms))
names_put p k d no_members = refl
names_put p k d (member l e ms) = names_put_at p _ k l d e ms refl (names_put p k d ms)

pub only_next : (names : List (List ℕ)) (k : List ℕ) (d : Data) (ms : Members) (b : Bool) → b ≡ has_only names (object ms)
    → (b && is_among names k) ≡ has_only names (object (put k d ms))
only_next names k d ms b e =
    ap (λ c. c && is_among names k) e ∙ and_turned (list_all (is_among names) (names_of ms)) (is_among names k) ∙ sym (names_put (is_among names) k d ms)
