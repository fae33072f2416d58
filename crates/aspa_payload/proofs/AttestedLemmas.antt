-- The attestations of lines, gathered one after another, are exactly these; any lines have exactly one map of them.
use Rattle.std.proofs.Common.{◌≡◌, ◌≢◌, ℕ, ◌⊎◌, inl, inr, Bool, true, false, cond, ◌||◌, List, [], ◌∷◌, ◌++◌, is_some, Option, Some, None, refl, sym, ap, ◌∙◌, subst}
use Rattle.std.specs.Ordering.{nat_cmp, eq_by_cmp, is_eq}
use Rattle.std.specs.BTreeMap.{is_at}
use Rattle.std.specs.Cmp.{nat_cmp_total, Equal-is, tied_itself}
use Rattle.std.specs.List.{list_any}
use Rattle.std.specs.Option.{option_map}
use Rattle.std.specs.FinMap as map
use Rattle.std.proofs.lemmas.Map.Lookups.{exact_unsigned}
use Rattle.path_model.proofs.UnionLemmas.{same_key}
use Rattle.attestations.specs.declared.term.Term.{Term}
use Rattle.attestations.specs.Order.{term_total}
use Rattle.attestations.specs.Terms.{term_cmp, SetOfTerms, TermMap, terms_or_none, with_term, set_of}
use Rattle.attestations.specs.Gathered.{TermLists, list_or_none, with_gathered, AreTermsOf}
use Rattle.attestations.proofs.SetOfLemmas.{in_set, same_keyed}
use Rattle.attestations.proofs.TermLemmas.{term_exact, term_itself}
use Rattle.aspa_payload.specs.Lines.{term_of, Attests, AreAttested}
use Rattle.aspa_payload.specs.declared.line.Dated.{Dated}

-- the attestations of a customer, in their order
abbrev pub made : List Dated → ℕ → List Term
made [] x = []
made (unit ∷ units) x = cond (is_at (nat_cmp x) unit.payload.customer) (term_of unit ∷ made units x) (made units x)

-- none of them, or some
abbrev pub listed : List Term → Option (List Term)
listed [] = None
listed (t ∷ ts) = Some (t ∷ ts)

-- each customer's list has its attestations
pub record IsGathered (units : List Dated) (gathered : TermLists) : Type 0 where
  pub lists : (x : ℕ) → map.get gathered x ≡ listed (made units x)

-- ---- one more line

push_within : (a b : Bool) (t u : Term) (ts : List Term)
    → cond a (t ∷ cond b (ts ++ u ∷ []) ts) (cond b (ts ++ u ∷ []) ts) ≡ cond b (cond a (t ∷ ts) ts ++ u ∷ []) (cond a (t ∷ ts) ts)
push_within true true t u ts = refl
push_within true false t u ts = refl
push_within false true t u ts = refl
push_within false false t u ts = refl

made_push : (units : List Dated) (unit : Dated) (x : ℕ)
    → made (units ++ unit ∷ []) x ≡ cond (is_at (nat_cmp x) unit.payload.customer) (made units x ++ term_of unit ∷ []) (made units x)
made_push [] unit x = refl
made_push (v ∷ units) unit x =
    let own = is_at (nat_cmp x) v.payload.customer in
    ap (λ (ts : List Term). cond own (term_of v ∷ ts) ts) (made_push units unit x)
    ∙ push_within own (is_at (nat_cmp x) unit.payload.customer) (term_of v) (term_of unit) (made units x)

listed_push : (ts : List Term) (t : Term) → listed (ts ++ t ∷ []) ≡ Some (ts ++ t ∷ [])
listed_push [] t = refl
listed_push (u ∷ ts) t = refl

list_again : (ts : List Term) → list_or_none (listed ts) ≡ ts
list_again [] = refl
list_again (t ∷ ts) = refl

pub gathered_start : (gathered : TermLists) → gathered ≡ map.empty → IsGathered [] gathered
gathered_start gathered e = record { lists = λ x. ap (λ (m : TermLists). map.get m x) e ∙ map.get-empty nat_cmp x }

module _ (units : List Dated) (unit : Dated) (old : TermLists) (is : IsGathered units old) (x : ℕ) where
  by_customer : (b : Bool) → is_at (nat_cmp x) unit.payload.customer ≡ b
      → cond b (Some (list_or_none (map.get old unit.payload.customer) ++ term_of unit ∷ [])) (map.get old x)
      ≡ listed (cond b (made units x ++ term_of unit ∷ []) (made units x))
  by_customer true e =
      let own : map.get old unit.payload.customer ≡ listed (made units x) =
      is.lists unit.payload.customer ∙ ap (λ (y : ℕ). listed (made units y)) (same_key x unit.payload.customer e) in
      ap (λ (ts : List Term). Some (ts ++ term_of unit ∷ [])) (ap list_or_none own ∙ list_again (made units x))
      ∙ sym (listed_push (made units x) (term_of unit))
  by_customer false e = is.lists x

  list_next : map.get (with_gathered old unit.payload.customer (term_of unit)) x ≡ listed (made (units ++ unit ∷ []) x)
  list_next =
      map.get-insert nat_cmp_total old unit.payload.customer (list_or_none (map.get old unit.payload.customer) ++ term_of unit ∷ []) x
      ∙ by_customer (is_at (nat_cmp x) unit.payload.customer) refl
      ∙ ap listed (sym (made_push units unit x))

pub gathered_next : (units : List Dated) (unit : Dated) (old new : TermLists) → IsGathered units old
    → new ≡ with_gathered old unit.payload.customer (term_of unit) → IsGathered (units ++ unit ∷ []) new
gathered_next units unit old new is e = record { lists = λ x. ap (λ (m : TermLists). map.get m x) e ∙ list_next units unit old is x }

pub same_gathered : (old : TermLists) (unit : Dated) (customer : ℕ) (providers : List ℕ) → customer ≡ unit.payload.customer
    → providers ≡ unit.payload.providers
    → with_gathered old customer (record { providers = providers; until = unit.until }) ≡ with_gathered old unit.payload.customer (term_of unit)
same_gathered old unit customer providers e f = λ i. with_gathered old (e i) (record { providers = f i; until = unit.until })

-- ---- what is gathered is what is attested

-- each customer's set is that of its attestations
abbrev AreMade : List Dated → TermMap → Type 0
AreMade units terms = (x : ℕ) → map.get terms x ≡ option_map set_of (listed (made units x))

set_listed : (ts : List Term) → terms_or_none (option_map set_of (listed ts)) ≡ set_of ts
set_listed [] = refl
set_listed (t ∷ ts) = refl

any_first : (b : Bool) (t u : Term) (ts : List Term) → eq_by_cmp term_cmp t u ≡ b → (b || list_any (eq_by_cmp term_cmp t) ts) ≡ true
    → (u ≡ t) ⊎ (list_any (eq_by_cmp term_cmp t) ts ≡ true)
any_first true t u ts e h = inl (sym (term_exact t u ((Equal-is (term_cmp t u)).0 e)))
any_first false t u ts e h = inr h

any_made : (b : Bool) (unit : Dated) (x : ℕ) (t : Term) (ts : List Term) → is_at (nat_cmp x) unit.payload.customer ≡ b
    → list_any (eq_by_cmp term_cmp t) (cond b (term_of unit ∷ ts) ts) ≡ true
    → ((unit.payload.customer ≡ x) × (term_of unit ≡ t)) ⊎ (list_any (eq_by_cmp term_cmp t) ts ≡ true)
any_made true unit x t ts e h =
    elim (any_first (eq_by_cmp term_cmp t (term_of unit)) t (term_of unit) ts refl h) [
      | inl same ↦ inl (same_key x unit.payload.customer e, same)
      | inr more ↦ inr more
    ]
any_made false unit x t ts e h = inr h

any_attests : (units : List Dated) (x : ℕ) (t : Term) → list_any (eq_by_cmp term_cmp t) (made units x) ≡ true → Attests units x t
any_attests [] x t h = absurd cc
any_attests (unit ∷ units) x t h =
    elim (any_made (is_at (nat_cmp x) unit.payload.customer) unit x t (made units x) refl h) [
      | inl own ↦ inl own
      | inr more ↦ inr (any_attests units x t more)
    ]

itself : (x c : ℕ) → c ≡ x → is_at (nat_cmp x) c ≡ true
itself x c same = subst (λ (k : ℕ). is_at (nat_cmp x) k ≡ true) (sym same) (ap is_eq (tied_itself nat_cmp_total x))

same_term : (t u : Term) → u ≡ t → eq_by_cmp term_cmp t u ≡ true
same_term t u same = subst (λ (s : Term). eq_by_cmp term_cmp t s ≡ true) (sym same) (term_itself t)

or_true : (b c : Bool) → c ≡ true → (b || c) ≡ true
or_true true c e = refl
or_true false c e = e

any_more : (b : Bool) (t u : Term) (ts : List Term) → list_any (eq_by_cmp term_cmp t) ts ≡ true
    → list_any (eq_by_cmp term_cmp t) (cond b (u ∷ ts) ts) ≡ true
any_more true t u ts h = or_true (eq_by_cmp term_cmp t u) (list_any (eq_by_cmp term_cmp t) ts) h
any_more false t u ts h = h

attests_any : (units : List Dated) (x : ℕ) (t : Term) → Attests units x t → list_any (eq_by_cmp term_cmp t) (made units x) ≡ true
attests_any [] x t a = absurd a
attests_any (unit ∷ units) x t (inl own) =
    ap (λ (b : Bool). list_any (eq_by_cmp term_cmp t) (cond b (term_of unit ∷ made units x) (made units x))) (itself x unit.payload.customer own.0)
    ∙ ap (λ (b : Bool). b || list_any (eq_by_cmp term_cmp t) (made units x)) (same_term t (term_of unit) own.1)
attests_any (unit ∷ units) x t (inr more) =
    any_more (is_at (nat_cmp x) unit.payload.customer) t (term_of unit) (made units x) (attests_any units x t more)

module _ (units : List Dated) (terms : TermMap) (are : AreMade units terms) where
  has_made : (x : ℕ) (t : Term) → map.contains_key (terms_or_none (map.get terms x)) t ≡ list_any (eq_by_cmp term_cmp t) (made units x)
  has_made x t =
      ap (λ (o : Option SetOfTerms). is_some (map.get (terms_or_none o) t)) (are x)
      ∙ ap (λ (s : SetOfTerms). is_some (map.get s t)) (set_listed (made units x))
      ∙ in_set term_total (made units x) t

  first_attests : (x : ℕ) (ts : List Term) → made units x ≡ ts → map.get terms x ≢ None → (t : Term) × Attests units x t
  first_attests x [] e some = absurd (some (are x ∙ ap (λ (ts : List Term). option_map set_of (listed ts)) e))
  first_attests x (t ∷ ts) e some =
      (t, any_attests units x t (ap (list_any (eq_by_cmp term_cmp t)) e ∙ ap (λ (b : Bool). b || list_any (eq_by_cmp term_cmp t) ts) (term_itself t)))

  attested_by : AreAttested units terms
  attested_by = record {
    within = λ x t h. any_attests units x t (sym (has_made x t) ∙ h);
    all = λ x t a. has_made x t ∙ attests_any units x t a;
    some = λ x h. first_attests x (made units x) refl h;
  }

pub attested_of : (units : List Dated) (gathered : TermLists) (terms : TermMap) → IsGathered units gathered
    → AreTermsOf gathered terms → AreAttested units terms
attested_of units gathered terms is sets = attested_by units terms (λ x. sets x ∙ ap (option_map set_of) (is.lists x))

-- ---- any lines have a map of attestations

module _ (units : List Dated) (unit : Dated) (terms : TermMap) (are : AreMade units terms) (x : ℕ) where
  made_by : (b : Bool) → is_at (nat_cmp x) unit.payload.customer ≡ b
      → cond b (Some (with_term (terms_or_none (map.get terms unit.payload.customer)) (term_of unit))) (map.get terms x)
      ≡ option_map set_of (listed (cond b (term_of unit ∷ made units x) (made units x)))
  made_by true e =
      ap (λ (s : SetOfTerms). Some (with_term s (term_of unit)))
      (ap terms_or_none (are unit.payload.customer) ∙ set_listed (made units unit.payload.customer)
      ∙ ap (λ (y : ℕ). set_of (made units y)) (same_key x unit.payload.customer e))
  made_by false e = are x

some_made : (units : List Dated) → (terms : TermMap) × AreMade units terms
some_made [] = (map.empty, λ x. map.get-empty nat_cmp x)
some_made (unit ∷ units) =
    let more = some_made units in (
      map.insert more.0 unit.payload.customer (with_term (terms_or_none (map.get more.0 unit.payload.customer)) (term_of unit)),
      λ x. map.get-insert nat_cmp_total more.0 unit.payload.customer (with_term (terms_or_none (map.get more.0 unit.payload.customer)) (term_of unit)) x
          ∙ made_by units unit more.0 more.1 x (is_at (nat_cmp x) unit.payload.customer) refl,
    )

pub some_attested : (units : List Dated) → (terms : TermMap) × AreAttested units terms
some_attested units = let some = some_made units in (some.0, attested_by units some.0 some.1)

-- ---- and one

-- a customer has exactly the attestations that are made of it, and it isn't without one
record IsAt (units : List Dated) (x : ℕ) (own : Option SetOfTerms) : Type 0 where
  within : (t : Term) → map.contains_key (terms_or_none own) t ≡ true → Attests units x t
  all : (t : Term) → Attests units x t → map.contains_key (terms_or_none own) t ≡ true
  some : own ≢ None → (t : Term) × Attests units x t

at_customer : (units : List Dated) (terms : TermMap) → AreAttested units terms → (x : ℕ) → IsAt units x (map.get terms x)
at_customer units terms are x = record { within = are.within x; all = are.all x; some = are.some x }

none_has : (t : Term) → map.contains_key (terms_or_none None) t ≡ false
none_has t = ap is_some (map.get-empty term_cmp t)

no_term : (t : Term) → map.contains_key (terms_or_none None) t ≡ true → ⊥
no_term t h = let none = none_has t in cc

none_or_some : (units : List Dated) (x : ℕ) (terms : SetOfTerms) → IsAt units x None → IsAt units x (Some terms) → ⊥
none_or_some units x terms none some = let t = some.some (λ e. cc) in no_term t.0 (none.all t.0 t.1)

both_ways : (b c : Bool) → (b ≡ true → c ≡ true) → (c ≡ true → b ≡ true) → b ≡ c
both_ways true c to from = sym (to refl)
both_ways false true to from = from refl
both_ways false false to from = refl

same_at : (units : List Dated) (x : ℕ) (one other : Option SetOfTerms) → IsAt units x one → IsAt units x other → one ≡ other
same_at units x None None h k = refl
same_at units x None (Some terms) h k = absurd (none_or_some units x terms h k)
same_at units x (Some terms) None h k = absurd (none_or_some units x terms k h)
same_at units x (Some one) (Some other) h k =
    ap Some (same_keyed term_total term_exact one other (λ t. both_ways (is_some (map.get one t)) (is_some (map.get other t)) (λ e. k.all t (h.within t e)) (λ e. h.all t (k.within t e))))

pub one_attested : (units : List Dated) (one other : TermMap) → AreAttested units one → AreAttested units other → one ≡ other
one_attested units one other h k =
    map.same_map nat_cmp_total exact_unsigned one other (λ x. same_at units x (map.get one x) (map.get other x) (at_customer units one h x) (at_customer units other k x))
