-- Tests of valleys: of a chain, and of what a pair is noted for.
use Rattle.std.proofs.Common.{◌≡◌, ◌↔◌, ℕ, zero, suc, ◌+◌, ◌-◌, ◌≤◌, inl, inr, Bool, true, false, List, [], ◌∷◌, ◌++◌, length, refl, ap, sym, ◌∙◌, subst, arith}
use Rattle.std.specs.Prelude.{Contains}
use Rattle.std.specs.declared.option.Option.{Option}
use Rattle.std.specs.declared.option.Option.TheVariants.{None}
use Rattle.std.proofs.lemmas.Bool.{cases_lt}
use Rattle.path_model.specs.declared.role.Direction.{Direction}
use Rattle.path_model.specs.declared.witness.Witness.{Witness}
use Rattle.path_model.specs.declared.witness.Witness.TheVariants.{Valid as ByLabelling, Empty, Set, Neighbour, Blocked, Unsettled}
use Rattle.path_model.specs.Authority.{Table}
use Rattle.path_model.specs.Labelling.{direction_of}
use Rattle.path_model.proofs.Decide.{Decided}
use Rattle.rib_store.specs.Pairs.{Paired}
use Rattle.valleys.specs.declared.valley.Valley.{Valley}
use Rattle.valleys.specs.Order.{valley_total}
use Rattle.valleys.specs.Valleys.{HasValley}
use Rattle.valleys.specs.Walk.{IsPassed, climb_at, closed_by, descent_at, exported, opened_by, still_open}
use Rattle.valleys.proofs.OrderLemmas.{valley_exact}
use Rattle.valleys.proofs.WalkLemmas.{passed_more, passed_none, valleys_exported}
use Rattle.listings.specs.SuspectSteps.{IsBlocked, IsNoted}
use Rattle.listings.proofs.TallyCountLemmas.{in_none}
use Rattle.listings.proofs.TallyTestLemmas.{decided_in}

-- ---- a chain has a valley or hasn't

-- what a walk finds up to a hop
walked : (table : Table) (chain : List ℕ) (n hop : ℕ) → hop ≡ n + 1 → hop ≤ length chain
    → (opened : Option ℕ) × (found : List Valley) × IsPassed table chain hop opened found
walked table chain zero hop number within = (None, [], subst (λ (k : ℕ). IsPassed table chain k None []) (sym number) (passed_none table chain))
walked table chain (suc n) hop number within =
    let before : (opened : Option ℕ) × (found : List Valley) × IsPassed table chain (n + 1) opened found = walked table chain n (n + 1) refl (omega arith) in
    let next = opened_by (climb_at table chain (n + 1)) (n + 1) (still_open (descent_at table chain (n + 1)) before.0) in
    let all = before.1 ++ closed_by (descent_at table chain (n + 1)) chain before.0 (n + 1) in
    let same : n + 1 + 1 ≡ hop = omega arith in (
      next,
      all,
      subst (λ (k : ℕ). IsPassed table chain k next all) same
          (passed_more table chain (n + 1) before.0 next before.1 all (omega arith) (omega arith) before.2 refl refl),
    )

-- all valleys of a chain, some perhaps more than once
pub valleys_listed : (table : Table) (direction : Direction) (chain : List ℕ)
    → (vs : List Valley) × ((v : Valley) → Contains vs v ↔ HasValley table direction chain v)
valleys_listed table direction chain = elim (cases_lt 0 (length chain)) [
  | inl some ↦
      let all : (opened : Option ℕ) × (found : List Valley) × IsPassed table chain (length chain) opened found = walked table chain (length chain - 1) (length chain) (omega arith) (omega arith) in
      (all.1 ++ exported direction chain all.0, λ v. valleys_exported table direction chain all.0 all.1 (all.1 ++ exported direction chain all.0) all.2 refl v)
  | inr none ↦ ([], λ v. ((λ h. absurd (in_none v h)), λ has. absurd (omega (arith, none, has.is.opened.opens.within))))
]

decided_valley : (table : Table) (direction : Direction) (chain : List ℕ) (v : Valley) → Decided (HasValley table direction chain v)
decided_valley table direction chain v =
    let all = valleys_listed table direction chain in
    elim (decided_in valley_total valley_exact all.0 v) [
      | inl there ↦ inl ((all.1 v).0 there)
      | inr none ↦ inr (λ has. none ((all.1 v).1 has))
    ]

-- ---- a pair is noted for a valley or isn't

decided_blocked : (witness : Witness) → Decided (IsBlocked witness)
decided_blocked Empty = inr (λ so. so)
decided_blocked Set = inr (λ so. so)
decided_blocked Neighbour = inr (λ so. so)
decided_blocked (ByLabelling c f d) = inr (λ so. so)
decided_blocked (Blocked first last) = inl tt
decided_blocked (Unsettled first last c f d) = inr (λ so. so)

pub decided_noted : (table : Table) (p : Paired) (v : Valley) → Decided (IsNoted table p v)
decided_noted table p v = elim (decided_blocked p.standing.witness) [
  | inl blocked ↦ elim (decided_valley table (direction_of p.standing.role) p.standing.path.chain v) [
    | inl has ↦ inl (record { blocked = blocked; has = has })
    | inr none ↦ inr (λ noted. none noted.has)
  ]
  | inr other ↦ inr (λ noted. other noted.blocked)
]
