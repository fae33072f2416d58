-- Ramps, and what they say of labellings.
use Rattle.std.proofs.lemmas.Bool.{cases_lt, ltb-true, ltb-false}
use Rattle.std.proofs.Common.{◌≡◌, ℕ, zero, suc, nat_lt, ◌+◌, ◌-◌, ◌<◌, ◌≤◌, ◌⊎◌, inl, inr, Bool, true, false, cond, List, length, refl, subst, arith, below_more, add-one}
use Rattle.path_model.specs.declared.role.Direction.{Direction}
use Rattle.path_model.specs.declared.role.Direction.TheVariants.{Up, Down}
use Rattle.path_model.specs.declared.verdict.Verdict.TheVariants.{Valid, Unknown, Invalid}
use Rattle.path_model.specs.Authority.{Table}
use Rattle.path_model.specs.Labelling.{Climbs, Descends, IsValid, upward, downward, RefusesToClimb, RefusesToDescend, MayClimb, MayDescend, DoesNotClimb, DoesNotDescend, Fits}
use Rattle.path_model.specs.RightVerdict.{CanBeValid}
use Rattle.path_model.specs.Witness.{IsLaterHop}
use Rattle.path_model.specs.PrintedWitness.{IsLeastHop, IsGreatestHop, IsLastHop, IsLongestClimb}
use Rattle.path_model.specs.Ramps.{IsUpRamp, IsDownRamp, Ramps, AreRamps, reach, verdict_by_ramps}
use Rattle.path_model.specs.WitnessByRamps.{climb_of, last_by}
use Rattle.path_model.specs.Laws.{IsRightByHops, IsDecidedByRamps}
use Rattle.path_model.proofs.Decide.{Decided, decided_not, decided_provides, decided_refuses}
use Rattle.path_model.proofs.WitnessLemmas.{attests, blocked_now, blocked_ever, before_least, behind_greatest, Fits-CanBeValid, valid_can}

-- what an up-ramp says
pub record UpTo (chain : List ℕ) (stops : ℕ → Type 0) (ramp : ℕ) : Type 0 where
  pub positive : 0 < ramp
  pub within : ramp ≤ length chain
  pub below : (k : ℕ) → k + 1 < ramp → stops k → ⊥
  pub stop : ramp < length chain → IsLeastHop chain stops ramp

-- an up-ramp is up to a hop or to the end
IsUpRamp-UpTo : (chain : List ℕ) (stops : ℕ → Type 0) (ramp : ℕ) → 0 < length chain → IsUpRamp chain stops ramp → UpTo chain stops ramp
IsUpRamp-UpTo chain stops ramp some (inl least) = record {
  positive = omega (arith, least.hop.number);
  within = omega (arith, least.hop.within);
  below = λ k before so. before_least chain stops ramp k least before so;
  stop = λ _. least;
}
IsUpRamp-UpTo chain stops ramp some (inr none) = record {
  positive = omega (arith, none.1);
  within = omega (arith, none.1);
  below = λ k before so. none.0 (k + 1) (record { place = k; number = refl; within = omega (arith, none.1); so = so });
  stop = λ short. absurd (omega (arith, none.1));
}

-- what a down-ramp says
pub record DownTo (chain : List ℕ) (stops : ℕ → Type 0) (ramp : ℕ) : Type 0 where
  pub positive : 0 < ramp
  pub within : ramp ≤ length chain
  pub behind : (k : ℕ) → length chain < k + 1 + ramp → k + 1 < length chain → stops k → ⊥
  pub stop : ramp < length chain → IsGreatestHop chain stops (length chain - ramp)

-- a down-ramp is down to a hop or to the end
IsDownRamp-DownTo : (chain : List ℕ) (stops : ℕ → Type 0) (ramp : ℕ) → 0 < length chain → IsDownRamp chain stops ramp → DownTo chain stops ramp
IsDownRamp-DownTo chain stops ramp some (inl stopped) = record {
  positive = omega (arith, stopped.1.hop.within, stopped.2);
  within = omega (arith, stopped.2);
  behind = λ k beyond within so. behind_greatest chain stops stopped.0 k stopped.1 (omega (arith, stopped.2)) within so;
  stop = λ short. let same : length chain - ramp ≡ stopped.0 = omega (arith, stopped.2) in rw same stopped.1;
}
IsDownRamp-DownTo chain stops ramp some (inr none) = record {
  positive = omega (arith, none.1);
  within = omega (arith, none.1);
  behind = λ k beyond within so. none.0 (k + 1) (record { place = k; number = refl; within = within; so = so });
  stop = λ short. absurd (omega (arith, none.1));
}

-- an up-ramp gives the longest climb
pub longest_climb : (chain : List ℕ) (climbs stops : ℕ → Type 0) (ramp : ℕ) → ((k : ℕ) → (stops k → ⊥) → climbs k)
    → ((k : ℕ) → stops k → climbs k → ⊥) → UpTo chain stops ramp → IsLongestClimb chain climbs (climb_of (length chain) ramp)
longest_climb chain climbs stops ramp all_else stops_it up = record {
  run = λ k below. all_else k (up.below k (omega arith));
  longest = λ more climbs_here.
      let least : IsLeastHop chain stops ramp = up.stop (omega (arith, up.positive)) in
      let same : ramp - 1 ≡ least.hop.place = omega (arith, least.hop.number) in
      stops_it least.hop.place least.hop.so (subst climbs same climbs_here);
  free = λ more. omega (arith, up.positive);
  no_free = λ all. omega (arith, up.positive);
  each_hop = omega (arith, up.positive, up.within);
}

-- where the ramps reach all ASes, the labelling of the up-ramp fits
reaching_fits : (direction : Direction) (chain : List ℕ) (climbs descends no_climb no_descent : ℕ → Type 0) (up down : ℕ)
    → ((k : ℕ) → (no_climb k → ⊥) → climbs k) → ((k : ℕ) → (no_descent k → ⊥) → descends k) → UpTo chain no_climb up → DownTo chain no_descent down
    → length chain ≤ reach direction up down → Fits climbs descends direction chain (climb_of (length chain) up)
reaching_fits Up chain climbs descends no_climb no_descent up down all_climb all_descend up_to down_to reaches = record {
  shape = (omega arith, omega arith);
  each_hop = omega (arith, up_to.positive, up_to.within);
  climbing = λ k below. all_climb k (up_to.below k (omega arith));
  descending = λ k from below. absurd (omega arith);
}
reaching_fits Down chain climbs descends no_climb no_descent up down all_climb all_descend up_to down_to reaches = record {
  shape = omega arith;
  each_hop = omega (arith, up_to.positive, up_to.within);
  climbing = λ k below. all_climb k (up_to.below k (omega arith));
  descending = λ k from below. all_descend k (down_to.behind k (omega (arith, up_to.positive, up_to.within)) (omega (arith, up_to.positive, up_to.within)));
}

-- where ramps don't reach all ASes, the up-ramp doesn't
up_short : (direction : Direction) (chain : List ℕ) (no_climb no_descent : ℕ → Type 0) (up down : ℕ) → UpTo chain no_climb up
    → DownTo chain no_descent down → reach direction up down < length chain → up < length chain
up_short Up chain no_climb no_descent up down up_to down_to short = short
up_short Down chain no_climb no_descent up down up_to down_to short = omega arith

-- where ramps don't reach all ASes, the up-ramp ends at the least hop that stops it
pub least_short : (direction : Direction) (chain : List ℕ) (no_climb no_descent : ℕ → Type 0) (up down : ℕ) → UpTo chain no_climb up
    → DownTo chain no_descent down → reach direction up down < length chain → IsLeastHop chain no_climb up
least_short direction chain no_climb no_descent up down up_to down_to short = up_to.stop (up_short direction chain no_climb no_descent up down up_to down_to short)

-- and downstream the down-ramp at the greatest
pub last_short : (direction : Direction) (chain : List ℕ) (no_climb no_descent : ℕ → Type 0) (up down : ℕ) → UpTo chain no_climb up
    → DownTo chain no_descent down → reach direction up down < length chain
    → IsLastHop direction chain no_descent (last_by direction (length chain) down)
last_short Up chain no_climb no_descent up down up_to down_to short = refl
last_short Down chain no_climb no_descent up down up_to down_to short = down_to.stop (omega (arith, up_to.positive))

-- and the one stands before the other
later_short : (direction : Direction) (chain : List ℕ) (no_climb no_descent : ℕ → Type 0) (up down : ℕ) → UpTo chain no_climb up
    → DownTo chain no_descent down → reach direction up down < length chain
    → IsLaterHop direction chain no_descent up (last_by direction (length chain) down)
later_short Up chain no_climb no_descent up down up_to down_to short = refl
later_short Down chain no_climb no_descent up down up_to down_to short = (omega arith, (down_to.stop (omega (arith, up_to.positive))).hop)

-- the four ramps in one
pub record Reaches (table : Table) (chain : List ℕ) (ramps : Ramps) : Type 0 where
  pub maximal_up : UpTo chain (RefusesToClimb table chain) ramps.maximal_up
  pub minimal_up : UpTo chain (DoesNotClimb table chain) ramps.minimal_up
  pub maximal_down : DownTo chain (RefusesToDescend table chain) ramps.maximal_down
  pub minimal_down : DownTo chain (DoesNotDescend table chain) ramps.minimal_down

-- ramps of a chain that isn't empty say so
pub AreRamps-Reaches : (table : Table) (chain : List ℕ) (ramps : Ramps) → 0 < length chain → AreRamps table chain ramps → Reaches table chain ramps
AreRamps-Reaches table chain ramps some are = record {
  maximal_up = IsUpRamp-UpTo chain _ ramps.maximal_up some are.maximal_up;
  minimal_up = IsUpRamp-UpTo chain _ ramps.minimal_up some are.minimal_up;
  maximal_down = IsDownRamp-DownTo chain _ ramps.maximal_down some are.maximal_down;
  minimal_down = IsDownRamp-DownTo chain _ ramps.minimal_down some are.minimal_down;
}

-- maximal ramps that don't reach: no completion helps
short_cannot : (table : Table) (direction : Direction) (chain : List ℕ) (ramps : Ramps) → Reaches table chain ramps
    → reach direction ramps.maximal_up ramps.maximal_down < length chain → CanBeValid table direction chain → ⊥
short_cannot table direction chain ramps by short =
    blocked_ever table direction chain ramps.maximal_up (last_by direction (length chain) ramps.maximal_down)
    (least_short direction chain _ _ ramps.maximal_up ramps.maximal_down by.maximal_up by.maximal_down short).hop
    (later_short direction chain _ _ ramps.maximal_up ramps.maximal_down by.maximal_up by.maximal_down short)

-- maximal ramps that reach: some completion helps
reaching_can : (table : Table) (direction : Direction) (chain : List ℕ) (ramps : Ramps) → Reaches table chain ramps
    → length chain ≤ reach direction ramps.maximal_up ramps.maximal_down → CanBeValid table direction chain
reaching_can table direction chain ramps by reaches =
    Fits-CanBeValid table direction chain (climb_of (length chain) ramps.maximal_up)
    (reaching_fits direction chain (MayClimb table chain) (MayDescend table chain) (RefusesToClimb table chain) (RefusesToDescend table chain) ramps.maximal_up ramps.maximal_down (λ k never. never) (λ k never. never) by.maximal_up by.maximal_down reaches)

-- minimal ramps that don't reach: no labelling fits
short_misfits : (table : Table) (direction : Direction) (chain : List ℕ) (ramps : Ramps) → Reaches table chain ramps
    → reach direction ramps.minimal_up ramps.minimal_down < length chain → IsValid table direction chain → ⊥
short_misfits table direction chain ramps by short =
    blocked_now table direction chain ramps.minimal_up (last_by direction (length chain) ramps.minimal_down)
    (least_short direction chain _ _ ramps.minimal_up ramps.minimal_down by.minimal_up by.minimal_down short).hop
    (later_short direction chain _ _ ramps.minimal_up ramps.minimal_down by.minimal_up by.minimal_down short)

-- minimal ramps that reach: one fits
reaching_valid : (table : Table) (direction : Direction) (chain : List ℕ) (ramps : Ramps) → Reaches table chain ramps
    → length chain ≤ reach direction ramps.minimal_up ramps.minimal_down → IsValid table direction chain
reaching_valid table direction chain ramps by reaches =
    record {
      labelling = climb_of (length chain) ramps.minimal_up;
      fits = reaching_fits direction chain (Climbs table chain) (Descends table chain) (DoesNotClimb table chain) (DoesNotDescend table chain) ramps.minimal_up ramps.minimal_down (λ k never. attests _ never) (λ k never. attests _ never) by.minimal_up by.minimal_down reaches;
    }

-- so the two tests decide
pub right_by_tests : (table : Table) (direction : Direction) (chain : List ℕ) (ramps : Ramps) (hopeless undecided : Bool) → Reaches table chain ramps
    → nat_lt (reach direction ramps.maximal_up ramps.maximal_down) (length chain) ≡ hopeless
    → nat_lt (reach direction ramps.minimal_up ramps.minimal_down) (length chain) ≡ undecided
    → IsRightByHops table direction chain (cond hopeless Invalid (cond undecided Unknown Valid))
right_by_tests table direction chain ramps true undecided by test other =
    let cannot : CanBeValid table direction chain → ⊥ = short_cannot table direction chain ramps by (ltb-true _ _ test) in
    ((λ valid. cannot (valid_can table direction chain valid)), cannot)
right_by_tests table direction chain ramps false true by test other =
    (short_misfits table direction chain ramps by (ltb-true _ _ other), reaching_can table direction chain ramps by (ltb-false _ _ test))
right_by_tests table direction chain ramps false false by test other = reaching_valid table direction chain ramps by (ltb-false _ _ other)

-- the comparison of the ramps gives the right verdict
right_by_ramps : (table : Table) (direction : Direction) (chain : List ℕ) (ramps : Ramps) → Reaches table chain ramps
    → IsRightByHops table direction chain (verdict_by_ramps direction (length chain) ramps)
right_by_ramps table direction chain ramps by = right_by_tests table direction chain ramps (nat_lt (reach direction ramps.maximal_up ramps.maximal_down) (length chain)) (nat_lt (reach direction ramps.minimal_up ramps.minimal_down) (length chain)) by refl refl

-- a number below m + 1 is m or below m
same_or_below : (k n : ℕ) → k < suc n → (k ≡ n) ⊎ (k < n)
same_or_below k n below = grind arith

-- the least number below m at which a fact holds, or that there is none
least_or_none : (P : ℕ → Type 0) → ((k : ℕ) → Decided (P k)) → (m : ℕ)
    → ((k : ℕ) × (k < m) × P k × ((j : ℕ) → j < k → P j → ⊥)) ⊎ ((k : ℕ) → k < m → P k → ⊥)
least_or_none P decide zero = inr (λ k below. absurd (omega arith))
least_or_none P decide (suc m) =
    elim (least_or_none P decide m) [
      | inl found ↦ inl (found.0, omega (arith, found.1), found.2, found.3)
      | inr none ↦ elim (decide m) [
        | inl here ↦ inl (m, omega arith, here, none)
        | inr not_here ↦ inr (rw (← add-one m) (below_more (λ k. P k → ⊥) m none not_here))
      ]
    ]

-- what holds at no number behind k but below m, and not at m, holds at none below m + 1
below_or_here : (P : ℕ → Type 0) (m j k : ℕ) → ((j : ℕ) → k < j → j < m → P j → ⊥) → (P m → ⊥) → k < j → j < suc m → P j → ⊥
below_or_here P m j k none not_here above below holds =
    elim (same_or_below j m below) [ inl same ↦ not_here (rw same at holds) | inr less ↦ none j above less holds ]

-- the least hop comes first
not_before : (P : ℕ → Type 0) (k j other : ℕ) → other ≡ j + 1 → P j → ((j : ℕ) → j < k → P j → ⊥) → k + 1 ≤ other
not_before P k j other number holds none =
    elim (cases_lt j k) [ inl before ↦ absurd (none j before holds) | inr not_less ↦ omega (arith, number) ]

-- the greatest hop comes last
not_behind : (P : ℕ → Type 0) (k j other m : ℕ) → other ≡ j + 1 → j < m → P j → ((j : ℕ) → k < j → j < m → P j → ⊥) → other ≤ k + 1
not_behind P k j other m number within holds none =
    elim (cases_lt k j) [ inl behind ↦ absurd (none j behind within holds) | inr not_more ↦ omega (arith, number) ]

-- the greatest one
greatest_or_none : (P : ℕ → Type 0) → ((k : ℕ) → Decided (P k)) → (m : ℕ)
    → ((k : ℕ) × (k < m) × P k × ((j : ℕ) → k < j → j < m → P j → ⊥)) ⊎ ((k : ℕ) → k < m → P k → ⊥)
greatest_or_none P decide zero = inr (λ k below. absurd (omega arith))
greatest_or_none P decide (suc m) =
    elim (decide m) [
      | inl here ↦ inl (m, omega arith, here, λ j above below. absurd (omega arith))
      | inr not_here ↦ elim (greatest_or_none P decide m) [
        | inl found ↦ inl (found.0, omega (arith, found.1), found.2, λ j above. below_or_here P m j found.0 found.3 not_here above)
        | inr none ↦ inr (rw (← add-one m) (below_more (λ k. P k → ⊥) m none not_here))
      ]
    ]

-- there is an up-ramp
some_up_ramp : (chain : List ℕ) (stops : ℕ → Type 0) → ((k : ℕ) → Decided (stops k)) → 0 < length chain → (ramp : ℕ) × IsUpRamp chain stops ramp
some_up_ramp chain stops decide some =
    elim (least_or_none stops decide (length chain - 1)) [
      | inl found ↦ (
        found.0 + 1,
        inl (record {
          hop = record { place = found.0; number = refl; within = omega (arith, found.1); so = found.2 };
          least = λ other hop. not_before stops found.0 hop.place other hop.number hop.so found.3;
        }),
      )
      | inr none ↦ (length chain, inr ((λ i hop. none hop.place (omega (arith, hop.number, hop.within)) hop.so), refl))
    ]

-- there is a down-ramp
some_down_ramp : (chain : List ℕ) (stops : ℕ → Type 0) → ((k : ℕ) → Decided (stops k)) → 0 < length chain
    → (ramp : ℕ) × IsDownRamp chain stops ramp
some_down_ramp chain stops decide some =
    elim (greatest_or_none stops decide (length chain - 1)) [
      | inl found ↦ (
        length chain - 1 - found.0,
        inl (
          found.0 + 1,
          record {
            hop = record { place = found.0; number = refl; within = omega (arith, found.1); so = found.2 };
            greatest = λ other hop. not_behind stops found.0 hop.place other (length chain - 1) hop.number (omega (arith, hop.number, hop.within)) hop.so found.3;
          },
          omega (arith, found.1),
        ),
      )
      | inr none ↦ (length chain, inr ((λ i hop. none hop.place (omega (arith, hop.number, hop.within)) hop.so), refl))
    ]

-- every chain that isn't empty has its four ramps
pub some_ramps : (table : Table) (chain : List ℕ) → 0 < length chain → (ramps : Ramps) × AreRamps table chain ramps
some_ramps table chain some =
    let a = some_up_ramp chain (RefusesToClimb table chain) (λ k. decided_refuses (upward table chain k)) some in
    let b = some_up_ramp chain (DoesNotClimb table chain) (λ k. decided_not (decided_provides (upward table chain k))) some in
    let c = some_down_ramp chain (RefusesToDescend table chain) (λ k. decided_refuses (downward table chain k)) some in
    let d = some_down_ramp chain (DoesNotDescend table chain) (λ k. decided_not (decided_provides (downward table chain k))) some in
    (record { maximal_up = a.0; minimal_up = b.0; maximal_down = c.0; minimal_down = d.0 }, record { maximal_up = a.1; minimal_up = b.1; maximal_down = c.1; minimal_down = d.1 })

-- the ramps decide
pub ramps_decide : (table : Table) (chain : List ℕ) → 0 < length chain → IsDecidedByRamps table chain
ramps_decide table chain some =
    let found : (ramps : Ramps) × AreRamps table chain ramps = some_ramps table chain some in
    record {
      ramps = found.0;
      are = found.1;
      decide = λ direction other are. right_by_ramps table direction chain other (AreRamps-Reaches table chain other some are);
    }
