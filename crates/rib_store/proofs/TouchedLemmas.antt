-- The touched cases are those of touched routes, and no more than there are.
use Rattle.std.proofs.Common.{◌≡◌, ℕ, ◌<◌, ◌≤◌, Bool, true, false, cond, [], ◌∷◌, length, None, Some, is_some, refl, ap, sym, subst, ◌∙◌, arith, inl, inr}
use Rattle.std.specs.declared.option.Option.{Option}
use Rattle.std.specs.Prelude.{Contains}
use Rattle.std.specs.BTreeMap.{is_at}
use Rattle.std.specs.FinMap as fin
use Rattle.std.specs.List.Sorted.{IsStrictlySortedBy}
use Rattle.std.specs.Map.{lookup, keys_of, values_of}
use Rattle.std.specs.Option.{option_map, unwrap_or}
use Rattle.std.specs.Cmp.{nat_cmp_total, nat_eq_equiv, unsigned_tied}
use Rattle.std.proofs.lemmas.List.Elements.{All-weaker}
use Rattle.std.proofs.lemmas.List.Sums.{sum_by-cons}
use Rattle.std.proofs.lemmas.Map.Keys.{sorted_head, sorted_tail}
use Rattle.path_model.specs.declared.key.Key.{Key}
use Rattle.path_model.specs.declared.role.Role.{Role}
use Rattle.path_model.specs.Key.{key_cmp}
use Rattle.path_model.specs.Roles.{Relations, role_of, set_role}
use Rattle.path_model.specs.Routes.{Routes}
use Rattle.path_model.specs.Trail.{Path}
use Rattle.shared_cases.specs.declared.case.StoredCase.{StoredCase}
use Rattle.shared_cases.specs.Cases.{Slots, at, IsStoredAs}
use Rattle.shared_cases.specs.Grounds.{Grounds}
use Rattle.shared_cases.specs.Touched.{IsTouchedCase, AreWithinTouched, IsRoleMove}
use Rattle.shared_cases.proofs.NumberLemmas.{decide_eq, nat_eq-other}
use Rattle.rib_store.specs.Cased.{Numbered, path_or, routes_by, one, users_of, IsCounted, IsOfAs, AreStored}
use Rattle.rib_store.specs.State.{State}
use Rattle.rib_store.specs.Touched.{grounds_of, IsTouchedRoute, IsWithinTouched, IsTouchedNumber}
use Rattle.rib_store.proofs.ApartLemmas.{apart_within}
use Rattle.rib_store.proofs.CasedLemmas.{get_through}
use Rattle.rib_store.proofs.CountedLemmas.{one-other}
use Rattle.rib_store.proofs.KeyLemmas.{key_itself, same_key, none_below}

-- a case with users is that of some key
pub record HasKey (routes : Numbered) (n : ℕ) : Type 0 where
  pub key : Key
  pub there : lookup (is_at (key_cmp key)) routes ≡ Some n

first_key : (e : Key × ℕ) (es : Numbered) (n : ℕ) → e.1 ≡ n → HasKey (e ∷ es) n
first_key e es n same = record { key = e.0; there = ap (λ (b : Bool). cond b (Some e.1) (lookup (is_at (key_cmp e.0)) es)) (key_itself e.0) ∙ ap Some same }

later_key : (e : Key × ℕ) (es : Numbered) (n : ℕ) → IsStrictlySortedBy key_cmp (keys_of (e ∷ es)) → (h : HasKey es n) → (b : Bool) → is_at (key_cmp h.key) e.0 ≡ b → HasKey (e ∷ es) n
later_key e es n sorted h true t = absurd (
    let none : None ≡ Some n = sym (none_below e.0 es (sorted_head key_cmp e.0 (keys_of es) sorted)) ∙ ap (λ (k : Key). lookup (is_at (key_cmp k)) es) (sym (same_key h.key e.0 t)) ∙ h.there in cc)
later_key e es n sorted h false t = record { key = h.key; there = ap (λ (b : Bool). cond b (Some e.1) (lookup (is_at (key_cmp h.key)) es)) t ∙ h.there }

pub has_key : (routes : Numbered) (n : ℕ) → IsStrictlySortedBy key_cmp (keys_of routes) → 0 < users_of routes n → HasKey routes n
has_key [] n sorted used = absurd (omega (arith, used))
has_key (e ∷ es) n sorted used = elim (decide_eq e.1 n) [
  | inl same ↦ first_key e es n same
  | inr other ↦ let h = has_key es n (sorted_tail key_cmp e.0 (keys_of es) sorted) (omega (arith, used, sum_by-cons (one n) e.1 (values_of es), one-other n e.1 other)) in
      later_key e es n sorted h (is_at (key_cmp h.key) e.0) refl
]

pub stored_used : (c : Option StoredCase) (asn : ℕ) (path : Path) (users : ℕ) → IsStoredAs c asn path → IsCounted c users → 0 < users
stored_used None asn path users stored counted = absurd stored
stored_used (Some c) asn path users stored counted = counted.1

pub stored_as : (c : Option StoredCase) (asn a : ℕ) (path : Path) → IsStoredAs c asn path → IsOfAs c a → a ≡ asn
stored_as None asn a path stored is = absurd stored
stored_as (Some c) asn a path stored is = sym is ∙ stored.0

pub stored_path : (c : Option StoredCase) (asn : ℕ) (path : Path) → IsStoredAs c asn path → path_or c ≡ path
stored_path None asn path stored = absurd stored
stored_path (Some c) asn path stored = stored.1

-- the pair of a touched case is that of a route
touched_route : (g old new : Grounds) (routes : Numbered) (cases : Slots) → AreStored g routes cases → IsStrictlySortedBy key_cmp (keys_of routes)
    → (pair : ℕ × Path) → IsTouchedCase old new cases pair → IsTouchedRoute old new (routes_by cases routes) pair
touched_route g old new routes cases stored sorted pair touched =
    let h = has_key routes touched.number sorted (stored_used (at cases touched.number) pair.0 pair.1 (users_of routes touched.number) touched.stored (stored.counted touched.number)) in
    record {
      key = h.key;
      asn = stored_as (at cases touched.number) pair.0 h.key.peer.asn pair.1 touched.stored (stored.of_peers h.key touched.number h.there);
      route = get_through path_or cases routes h.key ∙ ap (option_map (λ n. path_or (at cases n))) h.there ∙ ap Some (stored_path (at cases touched.number) pair.0 pair.1 touched.stored);
      touched = touched.touched;
    }

pub within_routes : (g : Grounds) (old new : State) (routes : Numbered) (cases : Slots) (ticks : ℕ) → AreStored g routes cases → IsStrictlySortedBy key_cmp (keys_of routes) → old.routes ≡ routes_by cases routes
    → AreWithinTouched (grounds_of old) (grounds_of new) cases ticks → IsWithinTouched old new ticks
within_routes g old new routes cases ticks stored sorted is within = record {
  pairs = within.pairs;
  apart = within.apart;
  each = All-weaker (IsTouchedCase (grounds_of old) (grounds_of new) cases) (IsTouchedRoute (grounds_of old) (grounds_of new) old.routes)
      (λ pair touched. subst (λ (m : Routes). IsTouchedRoute (grounds_of old) (grounds_of new) m pair) (sym is) (touched_route g (grounds_of old) (grounds_of new) routes cases stored sorted pair touched))
      within.pairs within.each;
  within = within.within;
}

-- some distinct pairs are no more than all
pub within_number : (old new : State) (ticks number : ℕ) → IsWithinTouched old new ticks → IsTouchedNumber old new number → ticks ≤ number
within_number old new ticks number within all =
    let fewer : length within.pairs ≤ length all.pairs = apart_within within.pairs all.pairs within.apart
    (All-weaker (IsTouchedRoute (grounds_of old) (grounds_of new) old.routes) (Contains all.pairs) all.all within.pairs within.each) in
    omega (arith, fewer, within.within, all.number_is)

-- setting the role of an AS leaves those of the others, and each own one
own_or : (b : Bool) (role : Role) (o : Option Role) → is_some o ≡ true → is_some (cond b (Some role) o) ≡ true
own_or true role o own = refl
own_or false role o own = own

pub role_set : (asn : ℕ) (role before : Role) (relations : Relations) → before ≡ role_of relations asn → IsRoleMove asn before relations (set_role relations asn role)
role_set asn role before relations is = record {
  here = sym is;
  others = λ other apart. sym (ap (λ (o : Option Role). unwrap_or o relations.default)
      (fin.get-insert nat_cmp_total relations.set asn role other ∙ ap (λ (b : Bool). cond b (Some role) (fin.get relations.set other)) (unsigned_tied other asn ∙ nat_eq-other other asn apart)));
  own = ap is_some (fin.get-insert nat_cmp_total relations.set asn role asn ∙ ap (λ (b : Bool). cond b (Some role) (fin.get relations.set asn)) (unsigned_tied asn asn ∙ nat_eq_equiv.refl asn));
  kept = λ other own. ap is_some (fin.get-insert nat_cmp_total relations.set asn role other) ∙ own_or _ role (fin.get relations.set other) own;
}

-- where another default is set, setting the one before gives the roles before
pub default_back : (role before : Role) (relations now : Relations) → before ≡ relations.default → now ≡ record relations { default = role } → record now { default = before } ≡ relations
default_back role before relations now was is = λ i. record (is i) { default = was i }
