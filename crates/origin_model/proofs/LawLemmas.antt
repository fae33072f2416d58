-- Laws of states: each route has one, whatever is current.
use Rattle.std.proofs.Common.{◌≡◌, ℕ, ◌≤◌, Bool, true, false, cond, List, [], ◌∷◌, Some, None, refl, sym, ap, subst, ◌∙◌, arith, ◌⊎◌, inl, inr, true≢false}
use Rattle.std.specs.declared.option.Option.{Option}
use Rattle.std.specs.List.{slice_get}
use Rattle.std.specs.Option.{unwrap_or}
use Rattle.path_model.specs.Prefix.{Subnet}
use Rattle.path_model.specs.Trail.{Path}
use Rattle.origin_model.specs.declared.origin_state.OriginState.{OriginState}
use Rattle.origin_model.specs.declared.origin_state.OriginState.TheVariants.{Valid, Invalid, NotFound}
use Rattle.origin_model.specs.declared.prefix_filter.PrefixFilter.{PrefixFilter}
use Rattle.origin_model.specs.Covering.{Covers}
use Rattle.origin_model.specs.Current.{Parts, IsCurrent, IsGiven}
use Rattle.origin_model.specs.PrefixFilter.{AgreesInAsn, AgreesInPrefix, Hits, IsHit}
use Rattle.origin_model.specs.Laws.{As0MakesNothingValid, CoveringIsAnOrder, EachRouteHasOneState, RoutesWithoutOriginAreNeverValid}
use Rattle.origin_model.specs.OriginState.{Matches, HasState, better, origin_of}
use Rattle.origin_model.specs.Vrp.{Payload}
use Rattle.origin_model.specs.VrpSet.{has}
use Rattle.origin_model.proofs.CoverLemmas.{covers_between, covers_decided, covers_family, covers_itself, covers_only, covers_through}
use Rattle.origin_model.proofs.PayloadLemmas.{first_has, has_first}
use Rattle.origin_model.proofs.StateLemmas.{has_like, has_none, has_or, one_state}

-- ---- what can be decided

abbrev Decided : Type 0 → Type 0
Decided A = A ⊎ (¬ A)

numbers_decided : (m n : ℕ) → Decided (m ≡ n)
numbers_decided m n = search arith

prefix_decided : (o : Option Subnet) (v : Payload) → Decided (AgreesInPrefix o v)
prefix_decided None v = inl tt
prefix_decided (Some p) v = covers_decided p v.prefix

asn_decided : (o : Option ℕ) (v : Payload) → Decided (AgreesInAsn o v)
asn_decided None v = inl tt
asn_decided (Some asn) v = numbers_decided asn v.asn

hits_decided : (f : PrefixFilter) (v : Payload) → Decided (Hits f v)
hits_decided f v = elim (prefix_decided f.prefix v) [
  | inr other ↦ inr (λ hits. other hits.prefix)
  | inl covers ↦ elim (asn_decided f.asn v) [
    | inr other ↦ inr (λ hits. other hits.asn)
    | inl same ↦ inl (record { prefix = covers; asn = same })
  ]
]

hit_decided : (fs : List PrefixFilter) (v : Payload) → Decided (IsHit fs v)
hit_decided [] v = inr (λ hit. hit)
hit_decided (f ∷ fs) v = elim (hits_decided f v) [
  | inl hits ↦ inl (inl hits)
  | inr not_this ↦ elim (hit_decided fs v) [
    | inl later ↦ inl (inr later)
    | inr none ↦ inr (λ hit. elim hit [ inl hits ↦ not_this hits | inr later ↦ none later ])
  ]
]

unhit_decided : (fs : List PrefixFilter) (v : Payload) → Decided (¬ IsHit fs v)
unhit_decided fs v = elim (hit_decided fs v) [ inl hit ↦ inr (λ none. none hit) | inr none ↦ inl none ]

origins_decided : (o : Option ℕ) (asn : ℕ) → Decided (o ≡ Some asn)
origins_decided None asn = inr (λ e. absurd cc)
origins_decided (Some x) asn = elim (numbers_decided x asn) [ inl e ↦ inl (ap Some e) | inr other ↦ inr (λ e. other (ap (λ (o : Option ℕ). unwrap_or o x) e)) ]

le_decided : (m n : ℕ) → Decided (m ≤ n)
le_decided m n = search arith

matches_decided : (v : Payload) (prefix : Subnet) (origin : Option ℕ) → Covers v.prefix prefix → Decided (Matches v prefix origin)
matches_decided v prefix origin covers = elim (le_decided prefix.len v.max) [
  | inr long ↦ inr (λ m. long m.short)
  | inl short ↦ elim (numbers_decided v.asn 0) [
    | inl nobody ↦ inr (λ m. m.somebody nobody)
    | inr somebody ↦ elim (origins_decided origin v.asn) [
      | inl from ↦ inl (record { covers = covers; short = short; somebody = somebody; from = from })
      | inr other ↦ inr (λ m. other m.from)
    ]
  ]
]

-- ---- each route has a state

abbrev State : (Payload → Type 0) → Subnet → Option ℕ → Type 0
State Is prefix origin = (s : OriginState) × HasState Is prefix origin s

module _ (prefix : Subnet) (origin : Option ℕ) (P : Payload → Type 0) (decided : (v : Payload) → Decided (P v)) where
  abbrev Only : Payload → Payload → Type 0
  Only w v = (v ≡ w) × P v

  same_covers : (w v : Payload) → v ≡ w → Covers v.prefix prefix → Covers w.prefix prefix
  same_covers w v e covers = subst (λ (u : Payload). Covers u.prefix prefix) e covers

  same_matches : (w v : Payload) → v ≡ w → Matches v prefix origin → Matches w prefix origin
  same_matches w v e m = subst (λ (u : Payload). Matches u prefix origin) e m

  by_covering : (w : Payload) → P w → Covers w.prefix prefix → State (Only w) prefix origin
  by_covering w p covers = elim (matches_decided w prefix origin covers) [
    | inl matches ↦ (Valid, record { payload = w; is = (refl, p); matches = matches })
    | inr other ↦ (Invalid, (λ m. other (same_matches w m.payload m.is.0 m.matches), record { payload = w; is = (refl, p); covers = covers }))
  ]

  by_one : (w : Payload) → State (Only w) prefix origin
  by_one w = elim (decided w) [
    | inr out ↦ (NotFound, has_none prefix origin (Only w) (λ v covers a. out (subst P a.0 a.1)))
    | inl p ↦ elim (covers_decided w.prefix prefix) [
      | inr apart ↦ (NotFound, has_none prefix origin (Only w) (λ v covers a. apart (same_covers w v a.0 covers)))
      | inl covers ↦ by_covering w p covers
    ]
  ]

  abbrev Among : List Payload → Payload → Type 0
  Among ws v = (has ws v ≡ true) × P v

  by_list : (ws : List Payload) → State (Among ws) prefix origin
  by_list [] = (NotFound, has_none prefix origin (Among []) (λ v covers a. true≢false (sym a.0)))
  by_list (w ∷ ws) =
      let one = by_one w in
      let rest = by_list ws in (
        better one.0 rest.0,
        has_like prefix origin (λ v. Only w v ⊎ Among ws v) (Among (w ∷ ws)) (better one.0 rest.0)
            (λ v covers a. elim a [ inl b ↦ (first_has v w ws (inl b.0), b.1) | inr b ↦ (first_has v w ws (inr b.0), b.1) ])
            (λ v covers a. elim (has_first v w ws a.0) [ inl e ↦ inl (e, a.1) | inr later ↦ inr (later, a.1) ])
            (has_or prefix origin (Only w) (Among ws) one.0 rest.0 one.1 rest.1),
      )

module _ (prefix : Subnet) (origin : Option ℕ) (filters : List PrefixFilter) where
  abbrev Given : List (List ℕ × List Payload) → Payload → Type 0
  Given sources v = IsGiven sources v × (¬ IsHit filters v)

  abbrev OfSource : List Payload → Payload → Type 0
  OfSource payloads v = (has payloads v ≡ true) × (¬ IsHit filters v)

  by_sources : (sources : List (List ℕ × List Payload)) → State (Given sources) prefix origin
  by_sources [] = (NotFound, has_none prefix origin (Given []) (λ v covers a. absurd a.0))
  by_sources (source ∷ more) =
      let one = by_list prefix origin (λ v. ¬ IsHit filters v) (unhit_decided filters) source.1 in
      let rest = by_sources more in (
        better one.0 rest.0,
        has_like prefix origin (λ v. OfSource source.1 v ⊎ Given more v) (Given (source ∷ more)) (better one.0 rest.0)
            (λ v covers a. elim a [ inl b ↦ (inl b.0, b.1) | inr b ↦ (inr b.0, b.1) ])
            (λ v covers a. elim a.0 [ inl here ↦ inl (here, a.1) | inr later ↦ inr (later, a.1) ])
            (has_or prefix origin (OfSource source.1) (Given more) one.0 rest.0 one.1 rest.1),
      )

current_state : (parts : Parts) (prefix : Subnet) (origin : Option ℕ) → State (IsCurrent parts) prefix origin
current_state parts prefix origin =
    let given = by_sources prefix origin parts.filters parts.sources in
    let asserted = by_list prefix origin (λ v. Unit {0}) (λ v. inl tt) parts.assertions in
    let A : Payload → Type 0 = λ v. IsGiven parts.sources v × (¬ IsHit parts.filters v) in
    let B : Payload → Type 0 = λ v. (has parts.assertions v ≡ true) × Unit {0} in (
      better given.0 asserted.0,
      has_like prefix origin (λ v. A v ⊎ B v) (IsCurrent parts) (better given.0 asserted.0)
          (λ v covers a. elim a [ inl g ↦ inl g | inr h ↦ inr h.0 ])
          (λ v covers a. elim a [ inl g ↦ inl g | inr h ↦ inr (h, tt) ])
          (has_or prefix origin A B given.0 asserted.0 given.1 asserted.1),
    )

pub one_for_each_route : EachRouteHasOneState
one_for_each_route parts key path =
    let found = current_state parts key.prefix (origin_of path) in
    record {
      one = found.0;
      is = found.1;
      only = λ other is. one_state key.prefix (origin_of path) (IsCurrent parts) found.0 other found.1 is;
    }

-- ---- AS 0, and no origin

pub as_0 : As0MakesNothingValid
as_0 parts key path kept = (λ m. m.matches.somebody (kept.all m.payload m.is m.matches.covers), kept.some)

none_matches : (origin : Option ℕ) → origin ≡ None → (asn : ℕ) → origin ≡ Some asn → ⊥
none_matches origin none asn some = let e : ◌≡◌ {A = Option ℕ} None (Some asn) = sym none ∙ some in absurd cc

no_origin_by : (set : Bool) (chain : List ℕ) → (set ≡ true) ⊎ (chain ≡ []) → cond {A = Option ℕ} set None (slice_get chain 0) ≡ None
no_origin_by true chain without = refl
no_origin_by false chain without = elim without [
  | inl set ↦ absurd (true≢false (sym set))
  | inr empty ↦ ap (λ (xs : List ℕ). slice_get xs 0) empty
]

no_origin : (path : Path) → (path.set ≡ true) ⊎ (path.chain ≡ []) → origin_of path ≡ None
no_origin path without = no_origin_by path.set path.chain without

pub without_origin : RoutesWithoutOriginAreNeverValid
without_origin parts key path without =
    let none = no_origin path without in
    record {
      never = λ m. none_matches (origin_of path) none m.payload.asn m.matches.from;
      invalid = λ covering. (λ m. none_matches (origin_of path) none m.payload.asn m.matches.from, covering);
    }

-- ---- covering

pub covering_order : CoveringIsAnOrder
covering_order = record { itself = covers_itself; through = covers_through; between = covers_between; only = covers_only; family = covers_family }
