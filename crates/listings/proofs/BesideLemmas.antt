-- Hops with a direction, and the ASes beside an AS.
use Rattle.std.proofs.Common.{◌≡◌, ◌↔◌, ℕ, zero, suc, nat_eq, ◌+◌, ◌-◌, ◌<◌, Bool, true, false, ◌||◌, ◌&&◌, List, [], ◌∷◌, length, map, refl, sym, ap, ◌∙◌, arith}
use Rattle.std.specs.Prelude.{Contains, slice_index, slice_index_or}
use Rattle.std.specs.FinMap as fin
use Rattle.std.specs.Cmp.{both_ways, nat_eq_equiv}
use Rattle.std.specs.List.Sorted.{IsStrictlySortedBy}
use Rattle.std.specs.Ordering.{nat_cmp}
use Rattle.path_model.specs.declared.key.Key.{Key}
use Rattle.path_model.specs.Authority.{has}
use Rattle.path_model.specs.Routes.{Routes}
use Rattle.path_model.specs.Trail.{Path}
use Rattle.path_model.proofs.AscendingLemmas.{same_members}
use Rattle.attestations.specs.ComputedTable.{table_of}
use Rattle.attestations.proofs.PartsLemmas.{table_is_current}
use Rattle.av_base.specs.One.{HasOne}
use Rattle.hop_index.specs.Hops.{has_hop, joins_within}
use Rattle.hop_index.specs.Loose.{Chains, beside, chain_at, not_below}
use Rattle.hop_index.specs.Numbers.{has_number}
use Rattle.hop_index.proofs.BesideLemmas.{all_only, all_rising, all_whole}
use Rattle.hop_index.proofs.HopLemmas.{hops_are_told}
use Rattle.rib_store.specs.State.{State}
use Rattle.listings.specs.Neighbours.{AreBeside, AreNeighboursOf, goes, goes_within, neighbour_of}
use Rattle.listings.proofs.TallyHitLemmas.{entry_route, route_entry, same_table}

-- ---- a hop goes in one direction or the other

one_place : (a b p r s : Bool) → ((a || b) || (p || (r && s))) ≡ ((a || p) || (b || (s && r)))
one_place true b p r s = refl
one_place false true true r s = refl
one_place false true false r s = refl
one_place false false true r s = refl
one_place false false false true true = refl
one_place false false false true false = refl
one_place false false false false true = refl
one_place false false false false false = refl

either_within : (k : ℕ) (chain : List ℕ) (x y : ℕ) → joins_within k chain x y ≡ (goes_within k chain x y || goes_within k chain y x)
either_within zero chain x y = refl
either_within (suc k) chain x y =
    let a : ℕ = slice_index chain k in
    let b : ℕ = slice_index chain (k + 1) in
    ap (λ (t : Bool). t || ((nat_eq x a && nat_eq y b) || (nat_eq x b && nat_eq y a))) (either_within k chain x y)
    ∙ one_place (goes_within k chain x y) (goes_within k chain y x) (nat_eq x a && nat_eq y b) (nat_eq x b) (nat_eq y a)

pub goes_either : (chain : List ℕ) (x y : ℕ) → has_hop chain x y ≡ (goes chain x y || goes chain y x)
goes_either chain x y = either_within (length chain - 1) chain x y

or_first : (a b : Bool) → a ≡ true → (a || b) ≡ true
or_first true b e = refl
or_first false b e = absurd cc

or_second : (a b : Bool) → b ≡ true → (a || b) ≡ true
or_second true b e = refl
or_second false b e = e

pub gone_to : (chain : List ℕ) (x y : ℕ) → goes chain x y ≡ true → has_hop chain x y ≡ true
gone_to chain x y e = goes_either chain x y ∙ or_first (goes chain x y) (goes chain y x) e

pub gone_from : (chain : List ℕ) (x y : ℕ) → goes chain y x ≡ true → has_hop chain x y ≡ true
gone_from chain x y e = goes_either chain x y ∙ or_second (goes chain x y) (goes chain y x) e

-- ---- each state has one list of the ASes beside an AS

nat_eq-turned : (x y : ℕ) → nat_eq x y ≡ nat_eq y x
nat_eq-turned x y = nat_eq_equiv.symm x y

pub has_turned : (xs : List ℕ) (y : ℕ) → has xs y ≡ has_number xs y
has_turned [] y = refl
has_turned (x ∷ xs) y = λ i. nat_eq-turned x y i || has_turned xs y i

abbrev chains_of : List (Key × Path) → Chains
chains_of es = map (λ (e : Key × Path). e.1.chain) es

chain_by : (e : Key × Path) (fs : List (Key × Path)) (k : ℕ) → k < length fs → slice_index_or fs k e ≡ e → chain_at (chains_of fs) k ≡ e.1.chain
chain_by e [] k within is = absurd (omega (arith, within))
chain_by e (f ∷ fs) zero within is = ap (λ (g : Key × Path). g.1.chain) is
chain_by e (f ∷ fs) (suc k) within is = chain_by e fs k (omega (arith, within)) is

chain_there : (es : List (Key × Path)) (e : Key × Path) → Contains es e → (n : ℕ) × (chain_at (chains_of es) n ≡ e.1.chain)
chain_there es e there = (there.0, chain_by e es there.0 there.1 there.2)

of_chain : (es : List (Key × Path)) (n x y : ℕ) → has_hop (chain_at (chains_of es) n) x y ≡ true → (e : Key × Path) × Contains es e × (has_hop e.1.chain x y ≡ true)
of_chain [] n x y h = let no : ⊥ = cc in absurd no
of_chain (e ∷ es) zero x y h = (e, (0, omega arith, refl), h)
of_chain (e ∷ es) (suc n) x y h =
    let later : (f : Key × Path) × Contains es f × (has_hop f.1.chain x y ≡ true) = of_chain es n x y h in
    (later.0, (suc later.1.0, omega (arith, later.1.1), later.1.2), later.2)

module _ (routes : Routes) (asn : ℕ) where
  abbrev pub ases_beside : List ℕ
  ases_beside = not_below 0 (beside asn (chains_of (fin.entries routes)))

  beside_one : (other : ℕ) → has ases_beside other ≡ true → AreBeside routes asn other
  beside_one other there =
      let chains = chains_of (fin.entries routes) in
      let n = all_only asn chains other (sym (has_turned ases_beside other) ∙ there) in
      let e : (f : Key × Path) × Contains (fin.entries routes) f × (has_hop f.1.chain asn other ≡ true) = of_chain (fin.entries routes) n.0 asn other n.1 in
      record { key = e.0.0; path = e.0.1; route = entry_route routes e.0.0 e.0.1 e.1; neighbours = (hops_are_told e.0.1.chain asn other).0 e.2 }

  one_beside : (other : ℕ) → AreBeside routes asn other → has ases_beside other ≡ true
  one_beside other is =
      let chains = chains_of (fin.entries routes) in
      let n = chain_there (fin.entries routes) (is.key, is.path) (route_entry routes is.key is.path is.route) in
      let hop : has_hop is.path.chain asn other ≡ true = (hops_are_told is.path.chain asn other).1 is.neighbours in
      has_turned ases_beside other ∙ all_whole asn chains other n.0 (ap (λ (c : List ℕ). has_hop c asn other) n.1 ∙ hop)

  pub exactly : (other : ℕ) → (has ases_beside other ≡ true) ↔ AreBeside routes asn other
  exactly other = (beside_one other, one_beside other)

  pub rising : IsStrictlySortedBy nat_cmp ases_beside
  rising = all_rising asn (chains_of (fin.entries routes))

-- the ASes beside it are the same, whoever lists them
pub same_ases : (routes : Routes) (asn : ℕ) (one other : List ℕ) → IsStrictlySortedBy nat_cmp one → IsStrictlySortedBy nat_cmp other
    → ((z : ℕ) → (has one z ≡ true) ↔ AreBeside routes asn z) → ((z : ℕ) → (has other z ≡ true) ↔ AreBeside routes asn z) → one ≡ other
same_ases routes asn one other up also is are =
    same_members one other up also (λ z. both_ways (has one z) (has other z) (λ e. (are z).1 ((is z).0 e)) (λ e. (is z).1 ((are z).0 e)))

pub one_list_of_neighbours : (state : State) (asn : ℕ) → HasOne (AreNeighboursOf state asn)
one_list_of_neighbours state asn =
    let table = table_of state.parts in
    let ases = ases_beside state.routes asn in
    record {
      one = map (neighbour_of table state.routes asn) ases;
      is = record {
        table = table;
        current = table_is_current state.parts;
        ases = ases;
        rising = rising state.routes asn;
        exact = exactly state.routes asn;
        rows_are = refl;
      };
      only = λ rows are.
          let same : are.table ≡ table = same_table state.parts are.table are.current in
          let them : are.ases ≡ ases = same_ases state.routes asn are.ases ases are.rising (rising state.routes asn) are.exact (exactly state.routes asn) in
          are.rows_are ∙ (λ i. map (neighbour_of (same i) state.routes asn) (them i));
    }
