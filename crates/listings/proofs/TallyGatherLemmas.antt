-- What was gathered of the pairs so far.
use Rattle.std.proofs.Common.{◌≡◌, ℕ, zero, suc, ◌+◌, ◌<◌, ◌≤◌, ◌^◌, Bool, true, false, cond, List, [], ◌∷◌, ◌++◌, length, refl, ap, sym, ◌∙◌, subst, arith, append_assoc}
use Rattle.std.specs.FinMap as fin
use Rattle.std.specs.declared.cmp.Ordering.{Ordering}
use Rattle.std.specs.declared.option.Option.{Option}
use Rattle.std.specs.declared.option.Option.TheVariants.{Some, None}
use Rattle.std.proofs.lemmas.List.Sums.{count_by-le-length, sum_by-append, sum_by-cons, sum_by_push}
use Rattle.rib_store.specs.Pairs.{ArePairs, Paired}
use Rattle.rib_store.specs.State.{State}
use Rattle.listings.specs.declared.tally.Tally.{Tally}
use Rattle.listings.specs.TallySteps.{AddsTo, HasRoom, more, tally_at}
use Rattle.listings.proofs.TallyCountLemmas.{any_hit, no_weight}
use Rattle.listings.proofs.TallyHitLemmas.{hits, paths_of, routes_hit, routes_of}

-- the tally of so many routes over so many paths, if there is one
abbrev pub tallied : ℕ → ℕ → Option Tally
tallied routes zero = None
tallied routes (suc n) = Some (record { routes = routes; paths = suc n })

tallied_suc : (routes n : ℕ) → tallied routes (n + 1) ≡ Some (record { routes = routes; paths = n + 1 })
tallied_suc routes n =
    let e : n + 1 ≡ suc n = omega arith in
    ap (tallied routes) e ∙ λ i. Some (record { routes = routes; paths = sym e i })

tallied_more : (routes n some : ℕ) → (n ≡ 0 → routes ≡ 0) → Some (more some (tallied routes n)) ≡ tallied (routes + some) (n + 1)
tallied_more routes zero some none =
    let sum : some ≡ routes + some = omega (arith, none refl) in
    let one : 1 ≡ zero + 1 = omega arith in
    (λ i. Some (record { routes = sum i; paths = one i })) ∙ sym (tallied_suc (routes + some) zero)
tallied_more routes (suc n) some none = sym (tallied_suc (routes + some) (suc n))

room_of : (routes n some : ℕ) → routes + some < 2 ^ 64 → n + 1 < 2 ^ 64 → HasRoom some (tallied routes n)
room_of routes zero some fits few = tt
room_of routes (suc n) some fits few = (fits, few)

-- Of all pairs these are left, and what was gathered counts those that are done; the test says for which keys a pair is noted.
pub record Gathered {K : Type 0} (R : K → K → Ordering) (test : K → Paired → Bool) (state : State) (rest : List Paired) (now : List (K × Tally)) : Type 0 where
  pub all : List Paired
  pub are : ArePairs state all
  pub few_pairs : length all < 2 ^ 64
  pub few_routes : length (fin.entries state.routes) < 2 ^ 64
  pub done : List Paired
  pub parts : done ++ rest ≡ all
  pub kept : (k : K) → tally_at R now k ≡ tallied (routes_of (test k) done) (paths_of (test k) done)

pub gathered_start : {K : Type 0} (R : K → K → Ordering) (test : K → Paired → Bool) (state : State) (all : List Paired) → ArePairs state all
    → length all < 2 ^ 64 → length (fin.entries state.routes) < 2 ^ 64 → Gathered R test state all []
gathered_start R test state all are few_pairs few_routes = record {
  all = all;
  are = are;
  few_pairs = few_pairs;
  few_routes = few_routes;
  done = [];
  parts = refl;
  kept = λ k. refl;
}

module _ {K : Type 0} {R : K → K → Ordering} {test : K → Paired → Bool} (state : State) (p : Paired) (rest : List Paired) (now : List (K × Tally))
    (gathered : Gathered R test state (p ∷ rest) now) where
  abbrev weight : K → Paired → ℕ
  weight k q = cond (test k q) q.routes 0

  abbrev one : K → Paired → ℕ
  one k q = cond (test k q) 1 0

  routes_within : (k : K) → routes_of (test k) gathered.done + weight k p ≤ length (fin.entries state.routes)
  routes_within k =
      let whole : routes_of (test k) (gathered.done ++ p ∷ rest) ≡ routes_of (test k) gathered.all = ap (routes_of (test k)) gathered.parts in
      omega (
        arith,
        whole,
        sum_by-append (weight k) gathered.done (p ∷ rest),
        sum_by-cons (weight k) p rest,
        routes_hit state (test k) gathered.all gathered.are.apart gathered.are.each,
        count_by-le-length (any_hit (test k) hits gathered.all) (fin.entries state.routes),
      )

  paths_within : (k : K) → paths_of (test k) gathered.done + one k p ≤ length gathered.all
  paths_within k =
      let whole : paths_of (test k) (gathered.done ++ p ∷ rest) ≡ paths_of (test k) gathered.all = ap (paths_of (test k)) gathered.parts in
      omega (
        arith,
        whole,
        sum_by-append (one k) gathered.done (p ∷ rest),
        sum_by-cons (one k) p rest,
        count_by-le-length (test k) gathered.all,
      )

  -- there is room for what the next pair adds
  pub gathered_room : (k : K) → test k p ≡ true → HasRoom p.routes (tally_at R now k)
  gathered_room k passes =
      let weighs : weight k p ≡ p.routes = ap (λ (b : Bool). cond b p.routes 0) passes in
      let counts : one k p ≡ 1 = ap (λ (b : Bool). cond {A = ℕ} b 1 0) passes in
      subst (λ (t : Option Tally). HasRoom p.routes t) (sym (gathered.kept k)) (room_of (routes_of (test k) gathered.done) (paths_of (test k) gathered.done) p.routes
      (omega (arith, routes_within k, weighs, gathered.few_routes)) (omega (arith, paths_within k, counts, gathered.few_pairs)))

  -- and so many are gathered with it
  pub gathered_next : (next : List (K × Tally)) → AddsTo R (λ k. test k p ≡ true) p.routes now next → Gathered R test state rest next
  gathered_next next adds = record {
    all = gathered.all;
    are = gathered.are;
    few_pairs = gathered.few_pairs;
    few_routes = gathered.few_routes;
    done = gathered.done ++ p ∷ [];
    parts = rw append_assoc gathered.parts;
    kept = λ k. by k (test k p) refl;
  } where
    counted : (k : K) (w n : ℕ) → weight k p ≡ w → one k p ≡ n
        → tallied (routes_of (test k) gathered.done + w) (paths_of (test k) gathered.done + n) ≡ tallied (routes_of (test k) (gathered.done ++ p ∷ [])) (paths_of (test k) (gathered.done ++ p ∷ []))
    counted k w n weighs counts =
        let routes : routes_of (test k) gathered.done + w ≡ routes_of (test k) (gathered.done ++ p ∷ []) = omega (arith, sum_by_push (weight k) gathered.done p, weighs) in
        let paths : paths_of (test k) gathered.done + n ≡ paths_of (test k) (gathered.done ++ p ∷ []) = omega (arith, sum_by_push (one k) gathered.done p, counts) in
        λ i. tallied (routes i) (paths i)

    by : (k : K) (b : Bool) → test k p ≡ b
        → tally_at R next k ≡ tallied (routes_of (test k) (gathered.done ++ p ∷ [])) (paths_of (test k) (gathered.done ++ p ∷ []))
    by k true passes = adds.here k passes
        ∙ ap (λ (t : Option Tally). Some (more p.routes t)) (gathered.kept k)
        ∙ tallied_more (routes_of (test k) gathered.done) (paths_of (test k) gathered.done) p.routes (no_weight (test k) hits (λ (q : Paired). q.routes) gathered.done)
        ∙ counted k p.routes 1 (ap (λ (b : Bool). cond b p.routes 0) passes) (ap (λ (b : Bool). cond {A = ℕ} b 1 0) passes)
    by k false fails =
        let routes : routes_of (test k) gathered.done ≡ routes_of (test k) gathered.done + 0 = omega arith in
        let paths : paths_of (test k) gathered.done ≡ paths_of (test k) gathered.done + 0 = omega arith in
        adds.others k (λ passes. let clash : true ≡ false = sym passes ∙ fails in absurd cc)
        ∙ gathered.kept k
        ∙ (λ i. tallied (routes i) (paths i))
        ∙ counted k 0 0 (ap (λ (b : Bool). cond b p.routes 0) fails) (ap (λ (b : Bool). cond {A = ℕ} b 1 0) fails)
