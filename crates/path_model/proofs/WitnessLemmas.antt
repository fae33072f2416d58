-- Witnesses and the verdict that they show.
use Rattle.std.proofs.Common.{◌≡◌, ◌≢◌, ℕ, ◌+◌, ◌-◌, ◌<◌, ◌≤◌, ◌⊎◌, ◌↔◌, true, inl, inr, List, length, get_or, refl, arith}
use Rattle.std.proofs.lemmas.Bool.{cases_lt}
use Rattle.std.specs.declared.option.Option.{Option}
use Rattle.std.specs.declared.option.Option.TheVariants.{Some, None}
use Rattle.path_model.specs.declared.authority.Authority.{Authority}
use Rattle.path_model.specs.declared.authority.Authority.TheVariants.{Silent, Refuses, Provides}
use Rattle.path_model.specs.declared.role.Role.{Role}
use Rattle.path_model.specs.declared.role.Direction.{Direction}
use Rattle.path_model.specs.declared.role.Direction.TheVariants.{Up, Down}
use Rattle.path_model.specs.declared.verdict.Verdict.{Verdict}
use Rattle.path_model.specs.declared.witness.Witness.{Witness}
use Rattle.path_model.specs.declared.witness.Witness.TheVariants.{Valid as ByLabelling, Empty, Set, Neighbour, Blocked, Unsettled}
use Rattle.path_model.specs.Authority.{Table, has, authority_of}
use Rattle.path_model.specs.Trail.{Path}
use Rattle.path_model.specs.Labelling.{Labelling, Climbs, Descends, IsOfShape, IsValid, direction_of, RefusesToClimb, RefusesToDescend, MayClimb, MayDescend, DoesNotClimb, DoesNotDescend, Fits}
use Rattle.path_model.specs.RightVerdict.{IsRight, CanBeValid}
use Rattle.path_model.specs.Laws.{fullest}
use Rattle.path_model.specs.Witness.{IsHop, labelling, IsLaterHop, shown_by, Shows, Facts}
use Rattle.path_model.specs.PrintedWitness.{IsLeastHop, IsGreatestHop, IsLastHop, IsLongestClimb, IsChosen, IsPrinted}
use Rattle.path_model.proofs.Decide.{decided_provides}
use Rattle.path_model.proofs.AuthorityLemmas.{has-at, filled, authority_of-fullest}
use Rattle.path_model.proofs.ValidLemmas.{CanBeValid-fullest, fullest-CanBeValid}

-- where silence counts as attesting, an AS attests unless it refuses
may_filled : (a : Authority) → (a ≢ Refuses) ↔ (filled a ≡ Provides)
may_filled Silent = (λ may. refl, λ fills refuses. cc)
may_filled Refuses = (λ may. absurd (may refl), λ fills refuses. cc)
may_filled Provides = (λ may. refl, λ fills refuses. cc)

-- an AS attests where it doesn't fail to
pub attests : (a : Authority) → (a ≢ Provides → ⊥) → a ≡ Provides
attests a not_other = elim (decided_provides a) [ inl provides ↦ provides | inr other ↦ absurd (not_other other) ]

-- an AS that refuses doesn't attest
refuses_says_no : (a : Authority) → a ≡ Refuses → a ≢ Provides
refuses_says_no a refuses provides = cc

-- so in the fullest completion an AS of the chain attests another unless it refuses that
may_fullest : (table : Table) (chain : List ℕ) (x y : ℕ) → has chain x ≡ true → has chain y ≡ true
    → (authority_of table x y ≢ Refuses) ↔ (authority_of (fullest table chain) x y ≡ Provides)
may_fullest table chain x y x_in_chain y_in_chain = rw (authority_of-fullest table chain x y x_in_chain y_in_chain) (may_filled (authority_of table x y))

-- and a hop climbs there where it climbs with silence counted as attesting
climbs_fullest : (table : Table) (chain : List ℕ) (k : ℕ) → k + 1 < length chain → MayClimb table chain k ↔ Climbs (fullest table chain) chain k
climbs_fullest table chain k within = may_fullest table chain (get_or chain k 0) (get_or chain (k + 1) 0) (has-at chain k (omega arith)) (has-at chain (k + 1) within)

-- and descends in the same way
descends_fullest : (table : Table) (chain : List ℕ) (k : ℕ) → k + 1 < length chain → MayDescend table chain k ↔ Descends (fullest table chain) chain k
descends_fullest table chain k within = may_fullest table chain (get_or chain (k + 1) 0) (get_or chain k 0) (has-at chain (k + 1) within) (has-at chain k (omega arith))

-- a labelling that fits by some hops fits by more
pub Fits-more : (climbs descends climbs_too descends_too : ℕ → Type 0) (direction : Direction) (chain : List ℕ) (l : Labelling)
    → ((k : ℕ) → k + 1 < length chain → climbs k → climbs_too k) → ((k : ℕ) → k + 1 < length chain → descends k → descends_too k)
    → Fits climbs descends direction chain l → Fits climbs_too descends_too direction chain l
Fits-more climbs descends climbs_too descends_too direction chain l more_climb more_descend fits = record {
  shape = fits.shape;
  each_hop = fits.each_hop;
  climbing = λ k below. more_climb k (omega (arith, fits.each_hop)) (fits.climbing k below);
  descending = λ k from below. more_descend k (omega (arith, fits.each_hop)) (fits.descending k from below);
}

-- where a labelling fits with silence counted as attesting, some completion makes the path valid
pub Fits-CanBeValid : (table : Table) (direction : Direction) (chain : List ℕ) (l : Labelling)
    → Fits (MayClimb table chain) (MayDescend table chain) direction chain l → CanBeValid table direction chain
Fits-CanBeValid table direction chain l fits =
    fullest-CanBeValid table direction chain (record { labelling = l; fits = Fits-more _ _ _ _ direction chain l (λ k within. (climbs_fullest table chain k within).0) (λ k within. (descends_fullest table chain k within).0) fits })

-- and the other way round
CanBeValid-Fits : (table : Table) (direction : Direction) (chain : List ℕ) → CanBeValid table direction chain
    → (l : Labelling) × Fits (MayClimb table chain) (MayDescend table chain) direction chain l
CanBeValid-Fits table direction chain can =
    let valid : IsValid (fullest table chain) direction chain = CanBeValid-fullest table direction chain can in
    (valid.labelling, Fits-more _ _ _ _ direction chain valid.labelling (λ k within. (climbs_fullest table chain k within).1) (λ k within. (descends_fullest table chain k within).1) valid.fits)

-- a hop that stops the climb before one that stops the descent: no labelling fits
blocked : (climbs descends no_climb no_descent : ℕ → Type 0) (direction : Direction) (chain : List ℕ) (l : Labelling) (first : ℕ) (last : Option ℕ)
    → ((k : ℕ) → no_climb k → climbs k → ⊥) → ((k : ℕ) → no_descent k → descends k → ⊥) → IsHop chain no_climb first
    → IsLaterHop direction chain no_descent first last → Fits climbs descends direction chain l → ⊥
blocked climbs descends no_climb no_descent Up chain l first last stops_climb stops_descent hop later fits =
    stops_climb hop.place hop.so (fits.climbing hop.place (omega (arith, hop.number, hop.within, fits.each_hop, fits.shape.0, fits.shape.1)))
blocked climbs descends no_climb no_descent Down chain l first None stops_climb stops_descent hop later fits = later
blocked climbs descends no_climb no_descent Down chain l first (Some last) stops_climb stops_descent hop later fits =
    elim (cases_lt hop.place l.climbs) [
      | inl among ↦ stops_climb hop.place hop.so (fits.climbing hop.place among)
      | inr beyond ↦ stops_descent later.1.place later.1.so (fits.descending later.1.place
          (omega (arith, hop.number, later.1.number, later.0, fits.shape)) (omega (arith, later.1.number, later.1.within, fits.each_hop)))
    ]

-- the number of climbs of a labelling that fits is at most that of the longest climb
climbs_less : (climbs descends : ℕ → Type 0) (direction : Direction) (chain : List ℕ) (l other : Labelling) → IsLongestClimb chain climbs l
    → Fits climbs descends direction chain other → other.climbs ≤ l.climbs
climbs_less climbs descends direction chain l other longest fits =
    elim (cases_lt l.climbs other.climbs) [
      | inl more ↦ absurd (longest.longest (omega (arith, fits.each_hop)) (fits.climbing l.climbs more))
      | inr less ↦ less
    ]

-- where some labelling fits, the longest climb is of the direction's shape
longest_shape : (direction : Direction) (chain : List ℕ) (climbs descends : ℕ → Type 0) (l other : Labelling) → IsLongestClimb chain climbs l
    → Fits climbs descends direction chain other → other.climbs ≤ l.climbs → (l.climbs + 1 < length chain) ⊎ (length chain ≤ l.climbs + 1)
    → IsOfShape direction l
longest_shape Up chain climbs descends l other longest fits less (inl left) = absurd (omega (arith, fits.each_hop, fits.shape.0, fits.shape.1))
longest_shape Up chain climbs descends l other longest fits less (inr all) = (longest.no_free (omega (arith, longest.each_hop)), omega (arith, longest.each_hop))
longest_shape Down chain climbs descends l other longest fits less (inl left) = omega (arith, longest.free left)
longest_shape Down chain climbs descends l other longest fits less (inr all) = omega (arith, longest.no_free (omega (arith, longest.each_hop)))

-- at most one hop is free in either direction
free_less : (direction : Direction) (l : Labelling) → IsOfShape direction l → l.free ≤ 1
free_less Up l shape = omega (arith, shape.0)
free_less Down l shape = shape

-- if some labelling fits, the one of the longest climb does
longest_fits : (climbs descends : ℕ → Type 0) (direction : Direction) (chain : List ℕ) (l other : Labelling) → IsLongestClimb chain climbs l
    → Fits climbs descends direction chain other → Fits climbs descends direction chain l
longest_fits climbs descends direction chain l other longest fits =
    let less : other.climbs ≤ l.climbs = climbs_less climbs descends direction chain l other longest fits in
    let at_most_one : other.free ≤ 1 = free_less direction other fits.shape in
    record {
      shape = longest_shape direction chain climbs descends l other longest fits less (cases_lt (l.climbs + 1) (length chain));
      each_hop = longest.each_hop;
      climbing = longest.run;
      descending = λ k from below. elim (cases_lt (l.climbs + 1) (length chain)) [
        | inl left ↦ fits.descending k (omega (arith, longest.free left)) (omega (arith, longest.each_hop, fits.each_hop))
        | inr all ↦ absurd (omega (arith, longest.each_hop))
      ];
    }

-- a hop before the least one that does something doesn't
pub before_least : (chain : List ℕ) (does : ℕ → Type 0) (i k : ℕ) → IsLeastHop chain does i → k + 1 < i → does k → ⊥
before_least chain does i k least before so =
    let least_of_all : i ≤ k + 1 = least.least (k + 1) (record { place = k; number = refl; within = omega (arith, least.hop.within); so = so }) in
    absurd (omega arith)

-- a hop behind the greatest one that does something doesn't
pub behind_greatest : (chain : List ℕ) (does : ℕ → Type 0) (i k : ℕ) → IsGreatestHop chain does i → i ≤ k → k + 1 < length chain → does k → ⊥
behind_greatest chain does i k greatest behind within so =
    let greatest_of_all : k + 1 ≤ i = greatest.greatest (k + 1) (record { place = k; number = refl; within = within; so = so }) in
    absurd (omega arith)

-- If no labelling fits, the least hop that stops the climb stands before the greatest that stops the descent.
stands_before : (climbs descends no_climb no_descent : ℕ → Type 0) (direction : Direction) (chain : List ℕ) (first : ℕ) (last : Option ℕ)
    → ((k : ℕ) → (no_climb k → ⊥) → climbs k) → ((k : ℕ) → (no_descent k → ⊥) → descends k) → IsLeastHop chain no_climb first
    → IsLastHop direction chain no_descent last → ((l : Labelling) → Fits climbs descends direction chain l → ⊥)
    → IsLaterHop direction chain no_descent first last
stands_before climbs descends no_climb no_descent Up chain first last all_climb all_descend least greatest none_fits = greatest
stands_before climbs descends no_climb no_descent Down chain first None all_climb all_descend least greatest none_fits = greatest
stands_before climbs descends no_climb no_descent Down chain first (Some last) all_climb all_descend least greatest none_fits =
    elim (cases_lt first last) [
      | inl before ↦ (before, greatest.hop)
      | inr crossed ↦ absurd (none_fits (labelling least.hop.place 1 (length chain - 2 - least.hop.place)) (record {
        shape = omega arith;
        each_hop = omega (arith, least.hop.number, least.hop.within);
        climbing = λ k below. all_climb k (before_least chain no_climb first k least (omega (arith, least.hop.number)));
        descending = λ k from below. all_descend k (behind_greatest chain no_descent last k greatest (omega (arith, least.hop.number)) (omega (arith, least.hop.number, least.hop.within)));
      }))
    ]

-- what the table makes valid, some completion does
pub valid_can : (table : Table) (direction : Direction) (chain : List ℕ) → IsValid table direction chain → CanBeValid table direction chain
valid_can table direction chain valid =
    Fits-CanBeValid table direction chain valid.labelling
    (Fits-more _ _ _ _ direction chain valid.labelling (λ k within climbs refuses. refuses_says_no _ refuses climbs) (λ k within descends refuses. refuses_says_no _ refuses descends) valid.fits)

-- where hops block by the table, no labelling fits
pub blocked_now : (table : Table) (direction : Direction) (chain : List ℕ) (first : ℕ) (last : Option ℕ)
    → IsHop chain (DoesNotClimb table chain) first → IsLaterHop direction chain (DoesNotDescend table chain) first last
    → IsValid table direction chain → ⊥
blocked_now table direction chain first last hop later valid =
    blocked (Climbs table chain) (Descends table chain) (DoesNotClimb table chain) (DoesNotDescend table chain) direction chain valid.labelling first last
    (λ k stops climbs. stops climbs) (λ k stops descends. stops descends) hop later valid.fits

-- where hops refuse, no completion helps
pub blocked_ever : (table : Table) (direction : Direction) (chain : List ℕ) (first : ℕ) (last : Option ℕ)
    → IsHop chain (RefusesToClimb table chain) first → IsLaterHop direction chain (RefusesToDescend table chain) first last
    → CanBeValid table direction chain → ⊥
blocked_ever table direction chain first last hop later can =
    let by : (l : Labelling) × Fits (MayClimb table chain) (MayDescend table chain) direction chain l = CanBeValid-Fits table direction chain can in
    blocked (MayClimb table chain) (MayDescend table chain) (RefusesToClimb table chain) (RefusesToDescend table chain) direction chain by.0 first last
    (λ k stops climbs. climbs stops) (λ k stops descends. descends stops) hop later by.1

-- a hop that refuses to climb doesn't climb
refuses_hop : (table : Table) (chain : List ℕ) (i : ℕ) → IsHop chain (RefusesToClimb table chain) i → IsHop chain (DoesNotClimb table chain) i
refuses_hop table chain i hop = record { place = hop.place; number = hop.number; within = hop.within; so = refuses_says_no _ hop.so }

-- and a later one that refuses to descend doesn't descend
refuses_later : (table : Table) (direction : Direction) (chain : List ℕ) (first : ℕ) (last : Option ℕ)
    → IsLaterHop direction chain (RefusesToDescend table chain) first last → IsLaterHop direction chain (DoesNotDescend table chain) first last
refuses_later table Up chain first last later = later
refuses_later table Down chain first None later = later
refuses_later table Down chain first (Some last) later = (later.0, record { place = later.1.place; number = later.1.number; within = later.1.within; so = refuses_says_no _ later.1.so })

-- what a witness shows gives the right verdict
shows_right : (table : Table) (role : Role) (neighbour : ℕ) (path : Path) (witness : Witness) → Shows table role neighbour path witness
    → IsRight table role neighbour path (shown_by witness)
shows_right table role neighbour path Empty shows = inl (inl shows)
shows_right table role neighbour path Set shows = inl (inr (inl shows))
shows_right table role neighbour path Neighbour shows = inl (inr (inr (shows.1, shows.2)))
shows_right table role neighbour path (ByLabelling c f d) shows = (shows.0, record { labelling = labelling c f d; fits = shows.1 })
shows_right table role neighbour path (Blocked first last) shows = inr (
  blocked_now table (direction_of role) path.chain first last (refuses_hop table path.chain first shows.1) (refuses_later table (direction_of role) path.chain first last shows.2),
  blocked_ever table (direction_of role) path.chain first last shows.1 shows.2,
)
shows_right table role neighbour path (Unsettled first last c f d) shows = (
  shows.0,
  blocked_now table (direction_of role) path.chain first last shows.1 shows.2,
  Fits-CanBeValid table (direction_of role) path.chain (labelling c f d) shows.3,
)

-- facts give the right verdict
pub facts_right : (table : Table) (role : Role) (neighbour : ℕ) (path : Path) (verdict : Verdict) (witness : Witness)
    → Facts table role neighbour path verdict witness → IsRight table role neighbour path verdict
facts_right table role neighbour path verdict witness facts = rw facts.verdict_shown (shows_right table role neighbour path witness facts.shows)

-- what is printed shows the verdict
chosen_shows : (table : Table) (role : Role) (neighbour : ℕ) (path : Path) (witness : Witness)
    → IsRight table role neighbour path (shown_by witness) → IsChosen table role neighbour path witness → Shows table role neighbour path witness
chosen_shows table role neighbour path Empty right chosen = chosen
chosen_shows table role neighbour path Set right chosen = chosen.1
chosen_shows table role neighbour path Neighbour right chosen = (chosen.0, chosen.2, chosen.3)
chosen_shows table role neighbour path (ByLabelling c f d) right chosen = (
  right.0,
  longest_fits (Climbs table path.chain) (Descends table path.chain) (direction_of role) path.chain (labelling c f d) right.1.labelling chosen right.1.fits,
)
chosen_shows table role neighbour path (Blocked first last) right chosen =
    elim right [
      | inl at_once ↦ absurd (chosen.0 at_once)
      | inr by_hops ↦ (
        chosen.0,
        chosen.1.hop,
        stands_before (MayClimb table path.chain) (MayDescend table path.chain) (RefusesToClimb table path.chain) (RefusesToDescend table path.chain) (direction_of role) path.chain first last
            (λ k never. never) (λ k never. never) chosen.1 chosen.2 (λ l fits. by_hops.1 (Fits-CanBeValid table (direction_of role) path.chain l fits)),
      )
    ]
chosen_shows table role neighbour path (Unsettled first last c f d) right chosen =
    let by : (l : Labelling) × Fits (MayClimb table path.chain) (MayDescend table path.chain) (direction_of role) path.chain l = CanBeValid-Fits table (direction_of role) path.chain right.2 in (
      right.0,
      chosen.0.hop,
      stands_before (Climbs table path.chain) (Descends table path.chain) (DoesNotClimb table path.chain) (DoesNotDescend table path.chain) (direction_of role) path.chain first last
          (λ k never. attests _ never) (λ k never. attests _ never) chosen.0 chosen.1 (λ l fits. right.1 (record { labelling = l; fits = fits })),
      longest_fits (MayClimb table path.chain) (MayDescend table path.chain) (direction_of role) path.chain (labelling c f d) by.0 chosen.2 by.1,
    )

-- the printed witness has its facts
pub printed_facts : (table : Table) (role : Role) (neighbour : ℕ) (path : Path) (verdict : Verdict) (witness : Witness)
    → IsPrinted table role neighbour path verdict witness → Facts table role neighbour path verdict witness
printed_facts table role neighbour path verdict witness printed = record {
  verdict_shown = printed.verdict_shown;
  shows = chosen_shows table role neighbour path witness (rw (← printed.verdict_shown) printed.right) printed.chosen;
}
