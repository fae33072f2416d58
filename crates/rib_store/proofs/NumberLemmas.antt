-- Another state touches one number of pairs of a peer AS and a path.
use Rattle.std.proofs.Common.{◌≡◌, ℕ, List, [], ◌∷◌, length, Some, refl, ap, sym, subst, ◌∙◌, arith, inl, inr}
use Rattle.std.specs.Prelude.{map, All, Contains}
use Rattle.std.specs.FinMap as fin
use Rattle.std.proofs.lemmas.List.{get_or-map, length-map}
use Rattle.std.proofs.lemmas.List.Elements.{All-nil, All-cons, All-head, All-tail, All-weaker, All-map, All-from_recursion, Contains-get_or, Contains-append_right}
use Rattle.std.proofs.lemmas.Map.Made.{Contains-tail}
use Rattle.std.proofs.lemmas.Map.Views.{Contains-from_lookup}
use Rattle.path_model.specs.declared.key.Key.{Key}
use Rattle.path_model.specs.Key.{key_cmp}
use Rattle.path_model.specs.Routes.{Routes}
use Rattle.path_model.specs.Trail.{Path}
use Rattle.path_model.proofs.Decide.{Decided}
use Rattle.shared_cases.specs.Touched.{AreApart}
use Rattle.av_base.specs.One.{HasOne}
use Rattle.rib_store.specs.State.{State}
use Rattle.rib_store.specs.Touched.{grounds_of, IsTouchedRoute, IsWithinTouched, IsTouchedNumber}
use Rattle.rib_store.proofs.DecidedLemmas.{decided_like, decided_pair, decided_contains, decided_touched}
use Rattle.rib_store.proofs.KeyLemmas.{same_key, find_lookup, all_found}
use Rattle.rib_store.proofs.TouchedLemmas.{within_number}

-- ---- at most one

-- as many as there are is within what there is
all_within : (old new : State) (number : ℕ) → IsTouchedNumber old new number → IsWithinTouched old new number
all_within old new number all = record { pairs = all.pairs; apart = all.apart; each = all.each; within = omega (arith, all.number_is) }

pub IsTouchedNumber-unique : (old new : State) (one other : ℕ) → IsTouchedNumber old new one → IsTouchedNumber old new other → one ≡ other
IsTouchedNumber-unique old new one other a b =
    omega (arith, within_number old new one other (all_within old new one a) b, within_number old new other one (all_within old new other b) a)

-- ---- and at least one

-- those elements of a list of which P holds, each once
record Once {A : Type 0} (P : A → Type 0) (xs : List A) : Type 0 where
  members : List A
  apart : AreApart members
  each : All P members
  all : (q : A) → P q → Contains xs q → Contains members q

module _ {A : Type 0} (same : (a b : A) → Decided (a ≡ b)) (P : A → Type 0) where
  passed_over : (x : A) (xs : List A) → (P x → ⊥) → Once P xs → Once P (x ∷ xs)
  passed_over x xs fails rest = record {
    members = rest.members;
    apart = rest.apart;
    each = rest.each;
    all = λ q holds has. elim (same x q) [
      | inl first ↦ absurd (fails (subst P (sym first) holds))
      | inr other ↦ rest.all q holds (Contains-tail x xs q other has)
    ];
  }

  there_already : (x : A) (xs : List A) → (rest : Once P xs) → Contains rest.members x → Once P (x ∷ xs)
  there_already x xs rest there = record {
    members = rest.members;
    apart = rest.apart;
    each = rest.each;
    all = λ q holds has. elim (same x q) [
      | inl first ↦ subst (λ (a : A). Contains rest.members a) first there
      | inr other ↦ rest.all q holds (Contains-tail x xs q other has)
    ];
  }

  one_more : (x : A) (xs : List A) → P x → (rest : Once P xs) → (Contains rest.members x → ⊥) → Once P (x ∷ xs)
  one_more x xs here rest new = record {
    members = x ∷ rest.members;
    apart = (λ k d below e. new (subst (λ (a : A). Contains rest.members a) (sym e) (Contains-get_or rest.members k d below)), rest.apart);
    each = All-cons P x rest.members here rest.each;
    all = λ q holds has. elim (same x q) [
      | inl first ↦ (0, omega arith, first)
      | inr other ↦ Contains-append_right (x ∷ []) rest.members q (rest.all q holds (Contains-tail x xs q other has))
    ];
  }

  -- where it can be found out of each element whether P holds
  once : (R : A → Type 0) → ((a : A) → R a → Decided (P a)) → (xs : List A) → All R xs → Once P xs
  once R decide [] each = record { members = []; apart = tt; each = All-nil P; all = λ q holds has. has }
  once R decide (x ∷ xs) each =
      let rest : Once P xs = once R decide xs (All-tail R x xs each) in
      elim (decide x (All-head R x xs each)) [
        | inl here ↦ elim (decided_contains same rest.members x) [
          | inl there ↦ there_already x xs rest there
          | inr new ↦ one_more x xs here rest new
        ]
        | inr fails ↦ passed_over x xs fails rest
      ]

-- a route from this peer AS has this path
record IsOfRoute (routes : Routes) (pair : ℕ × Path) : Type 0 where
  key : Key
  asn : key.peer.asn ≡ pair.0
  route : fin.get routes key ≡ Some pair.1

abbrev pair_of : Key × Path → ℕ × Path
pair_of e = (e.0.peer.asn, e.1)

abbrev pairs_of : Routes → List (ℕ × Path)
pairs_of routes = map pair_of (fin.entries routes)

of_routes : (routes : Routes) → All (IsOfRoute routes) (pairs_of routes)
of_routes routes = All-map (IsOfRoute routes) pair_of (fin.entries routes)
    (All-weaker (λ (e : Key × Path). fin.find key_cmp e.0 (fin.entries routes) ≡ Some e.1) (λ (e : Key × Path). IsOfRoute routes (pair_of e))
    (λ e found. record { key = e.0; asn = refl; route = fin.get-entries routes e.0 ∙ found }) (fin.entries routes)
    (All-from_recursion (λ (e : Key × Path). fin.find key_cmp e.0 (fin.entries routes) ≡ Some e.1) (fin.entries routes) (all_found (fin.entries routes) (fin.entries_sorted routes))))

-- the pair of each route is there
has_route : (routes : Routes) (key : Key) (path : Path) → fin.get routes key ≡ Some path → Contains (pairs_of routes) (key.peer.asn, path)
has_route routes key path route =
    let entry : Contains (fin.entries routes) (key, path) =
    Contains-from_lookup same_key key path (fin.entries routes) (sym (find_lookup (fin.entries routes) key) ∙ sym (fin.get-entries routes key) ∙ route) in (
      entry.0,
      omega (arith, entry.1, length-map (fin.entries routes) pair_of),
      get_or-map pair_of (fin.entries routes) entry.0 (key, path) (key.peer.asn, path) entry.1 ∙ ap pair_of entry.2,
    )

module _ (old new : State) where
  abbrev IsTouchedPair : ℕ × Path → Type 0
  IsTouchedPair = IsTouchedRoute (grounds_of old) (grounds_of new) old.routes

  decided_route : (pair : ℕ × Path) → IsOfRoute old.routes pair → Decided (IsTouchedPair pair)
  decided_route pair of = decided_like (λ touched. record { key = of.key; asn = of.asn; route = of.route; touched = touched }) (λ is. is.touched)
      (decided_touched (grounds_of old) (grounds_of new) pair)

  touched_once : Once IsTouchedPair (pairs_of old.routes)
  touched_once = once decided_pair IsTouchedPair (IsOfRoute old.routes) decided_route (pairs_of old.routes) (of_routes old.routes)

  is_there : (pair : ℕ × Path) → IsTouchedPair pair → Contains (pairs_of old.routes) pair
  is_there pair is = subst (λ (asn : ℕ). Contains (pairs_of old.routes) (asn, pair.1)) is.asn (has_route old.routes is.key pair.1 is.route)

  pub some_touched_number : (number : ℕ) × IsTouchedNumber old new number
  some_touched_number = (
    length touched_once.members,
    record {
      pairs = touched_once.members;
      apart = touched_once.apart;
      each = touched_once.each;
      all = λ pair is. touched_once.all pair is (is_there pair is);
      number_is = refl;
    },
  )

pub has_one_touched_number : (old new : State) → HasOne (IsTouchedNumber old new)
has_one_touched_number old new = record {
  one = (some_touched_number old new).0;
  is = (some_touched_number old new).1;
  only = λ other is. IsTouchedNumber-unique old new other (some_touched_number old new).0 is (some_touched_number old new).1;
}
