-- The last moments at which attestations are alive; private contracts alone cite it.
use Rattle.std.specs.Prelude.{◌≡◌, ℕ, ◌+◌, ◌<◌, ◌≤◌, nat_eq, Bool, true, false, not, cond, ◌||◌, ◌&&◌, List, [], ◌∷◌, ◌++◌}
use Rattle.std.specs.declared.cmp.Ordering.{Ordering}
use Rattle.std.specs.declared.option.Option.{Option}
use Rattle.std.specs.declared.option.Option.TheVariants.{Some, None}
use Rattle.std.specs.BTreeMap.{is_at}
use Rattle.std.specs.List.{list_any}
use Rattle.std.specs.Ordering.{nat_cmp, ordering_then}
use Rattle.attestations.specs.declared.term.Term.{Term}
use Rattle.path_model.specs.Authority.{has}
use Rattle.attestations.specs.Terms.{TermMap}
use Rattle.vap_table.specs.Sources.{list_of}

-- all attestations that the sources have of a customer
abbrev pub all_terms : List (List ℕ × TermMap) → ℕ → List Term
all_terms [] x = []
all_terms (s ∷ ss) x = list_of s.1 x ++ all_terms ss x

-- it is alive at this moment for the last time
abbrev pub is_last : ℕ → Option ℕ → Bool
is_last moment None = false
is_last moment (Some end) = nat_eq end (moment + 1)

-- one of these is
abbrev pub lasts_among : List Term → ℕ → Bool
lasts_among terms moment = list_any (λ t. is_last moment t.until) terms

abbrev pub pair_cmp : ℕ × ℕ → ℕ × ℕ → Ordering
pair_cmp a b = ordering_then (nat_cmp a.0 b.0) (nat_cmp a.1 b.1)

-- the moment is listed as a last one of the customer
abbrev pub has_last : List (ℕ × ℕ) → ℕ → ℕ → Bool
has_last lasts x moment = list_any (is_at (pair_cmp (moment, x))) lasts

-- the moment is listed as a last one of the customer from now on or isn't, and all else stays
abbrev pub SetsLast : List (ℕ × ℕ) → ℕ → ℕ → Bool → List (ℕ × ℕ) → Type 0
SetsLast before x moment listed after =
    (q m : ℕ) → has_last after q m ≡ cond (nat_eq x q && nat_eq moment m) listed (has_last before q m)

-- the last moments of these attestations of a customer are listed too
abbrev pub AddsLasts : List (ℕ × ℕ) → ℕ → List Term → List (ℕ × ℕ) → Type 0
AddsLasts before x terms after = (q m : ℕ) → has_last after q m ≡ (has_last before q m || (nat_eq x q && lasts_among terms m))

-- they are no longer listed
abbrev pub DropsLasts : List (ℕ × ℕ) → ℕ → List Term → List (ℕ × ℕ) → Type 0
DropsLasts before x terms after = (q m : ℕ) → has_last after q m ≡ (not (nat_eq x q && lasts_among terms m) && has_last before q m)

-- exactly the last moments of the sources' attestations are listed
abbrev pub AreLasts : List (ℕ × ℕ) → List (List ℕ × TermMap) → Type 0
AreLasts lasts sources = (x m : ℕ) → has_last lasts x m ≡ lasts_among (all_terms sources x) m

-- the same for all but these customers, of which none are
abbrev pub AreLastsBut : List (ℕ × ℕ) → List (List ℕ × TermMap) → List ℕ → Type 0
AreLastsBut lasts sources names = (x m : ℕ) → has_last lasts x m ≡ cond (has names x) false (lasts_among (all_terms sources x) m)

-- the last moment of an attestation with this end
abbrev pub IsLastOf : Option ℕ → Option ℕ → Type 0
IsLastOf None until = (m : ℕ) → is_last m until ≡ false
IsLastOf (Some moment) until = (m : ℕ) → is_last m until ≡ nat_eq moment m

-- no moment from the one to before the other is a last one of the customer
abbrev pub HasNoneBetween : List (ℕ × ℕ) → ℕ → ℕ → ℕ → Type 0
HasNoneBetween lasts lower higher x = (m : ℕ) → lower ≤ m → m < higher → has_last lasts x m ≡ false

-- a moment from the one to before the other is a last one of the customer
pub record HasOneBetween (lasts : List (ℕ × ℕ)) (lower higher x : ℕ) : Type 0 where
  pub moment : ℕ
  pub least : lower ≤ moment
  pub most : moment < higher
  pub listed : has_last lasts x moment ≡ true
