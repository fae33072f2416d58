-- The cases that there are, as they are listed.
use Rattle.std.proofs.Common.{◌≡◌, ◌≢◌, ℕ, zero, suc, ◌+◌, List, [], ◌∷◌, None, Some, refl, ap, sym, subst, arith}
use Rattle.std.specs.Prelude.{map, All, Contains}
use Rattle.std.specs.declared.option.Option.{Option}
use Rattle.std.proofs.lemmas.List.Elements.{All-nil, All-cons, All-map, Contains-append_right}
use Rattle.slab.specs.Slab.{entries_from}
use Rattle.path_model.specs.Trail.{Path}
use Rattle.shared_cases.specs.declared.case.StoredCase.{StoredCase}
use Rattle.shared_cases.specs.Cases.{Slots, at, AreDistinct, IsStoredAs}
use Rattle.shared_cases.specs.Listed.{Listed, listed, cases_of}
use Rattle.shared_cases.specs.Touched.{AreApart}

-- what stands in the slots from a number on
pub entries_listed : (n : ℕ) (cases : Slots) → map (λ (e : ℕ × StoredCase). listed e.1) (entries_from n cases) ≡ cases_of cases
entries_listed n [] = refl
entries_listed n (None ∷ cases) = entries_listed (n + 1) cases
entries_listed n (Some c ∷ cases) = ap (λ (rest : List Listed). listed c ∷ rest) (entries_listed (n + 1) cases)

-- what is so of the case under each number is so of each that is listed
pub each_listed : (P : Listed → Type 0) (cases : Slots) → ((n : ℕ) (c : StoredCase) → at cases n ≡ Some c → P (listed c)) → All P (cases_of cases)
each_listed P [] so = All-nil P
each_listed P (None ∷ cases) so = each_listed P cases (λ n c is. so (suc n) c is)
each_listed P (Some c ∷ cases) so = All-cons P (listed c) (cases_of cases) (so 0 c refl) (each_listed P cases (λ n d is. so (suc n) d is))

-- ---- their pairs of a peer AS and a path

abbrev pub pair_of : Listed → ℕ × Path
pair_of l = (l.asn, l.trail)

-- each case has its pair there,
pub pair_listed : (cases : Slots) (n asn : ℕ) (path : Path) → IsStoredAs (at cases n) asn path → Contains (map pair_of (cases_of cases)) (asn, path)
pair_listed [] n asn path stored = absurd stored
pair_listed (None ∷ cases) zero asn path stored = absurd stored
pair_listed (None ∷ cases) (suc n) asn path stored = pair_listed cases n asn path stored
pair_listed (Some c ∷ cases) zero asn path stored = (0, omega arith, λ i. (stored.0 i, stored.1 i))
pair_listed (Some c ∷ cases) (suc n) asn path stored =
    Contains-append_right (pair_of (listed c) ∷ []) (map pair_of (cases_of cases)) (asn, path) (pair_listed cases n asn path stored)

-- and no two cases the same
later_distinct : (c : Option StoredCase) (cases : Slots) → AreDistinct (c ∷ cases) → AreDistinct cases
later_distinct c cases distinct = λ m n asn path one other. let e = distinct (suc m) (suc n) asn path one other in omega (arith, e)

pub pairs_apart : (cases : Slots) → AreDistinct cases → AreApart (map pair_of (cases_of cases))
pairs_apart [] distinct = tt
pairs_apart (None ∷ cases) distinct = pairs_apart cases (later_distinct None cases distinct)
pairs_apart (Some c ∷ cases) distinct = (
  All-map (λ (q : ℕ × Path). pair_of (listed c) ≢ q) pair_of (cases_of cases) (each_listed (λ l. pair_of (listed c) ≢ pair_of l) cases (λ n d is same.
      let e = distinct 0 (suc n) c.asn c.trail (refl, refl) (subst (λ (o : Option StoredCase). IsStoredAs o c.asn c.trail) (sym is)
      (ap (λ (p : ℕ × Path). p.0) (sym same), ap (λ (p : ℕ × Path). p.1) (sym same))) in absurd (omega (arith, e)))),
  pairs_apart cases (later_distinct (Some c) cases distinct),
)
