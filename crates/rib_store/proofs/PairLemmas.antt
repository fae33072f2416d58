-- The pairs of a peer AS and a path are the cases, and each case counts the routes that have its pair.
use Rattle.std.proofs.Common.{◌≡◌, ℕ, nat_eq, Bool, true, false, cond, List, [], ◌∷◌, Some, refl, ap, sym, subst, ◌∙◌, arith, inl, inr}
use Rattle.std.specs.Prelude.{map, Contains}
use Rattle.std.specs.declared.option.Option.{Option}
use Rattle.std.specs.BTreeMap.{is_at}
use Rattle.std.specs.Bool.{beq, Decides}
use Rattle.std.specs.Cmp.{booleans_Decides}
use Rattle.std.specs.Cmp.Lexicographic.{pointwise}
use Rattle.std.specs.List.{count_by, sum_by}
use Rattle.std.specs.List.Sorted.{IsStrictlySortedBy}
use Rattle.std.specs.Map.{lookup, keys_of, values_of}
use Rattle.std.proofs.lemmas.Bool.{false_from_ne_true}
use Rattle.std.proofs.lemmas.Bool.Decides.{Decides-and, Decides-eqb}
use Rattle.std.proofs.lemmas.List.Elements.{All-map}
use Rattle.std.proofs.lemmas.List.Sums.{sum_by-cons}
use Rattle.std.proofs.lemmas.Simd.{map-map}
use Rattle.std.proofs.lemmas.Slice.Eq.{slice_eq-Decides}
use Rattle.path_model.specs.declared.key.Key.{Key}
use Rattle.attestations.specs.ComputedTable.{table_of}
use Rattle.attestations.specs.CurrentTable.{Parts}
use Rattle.path_model.specs.Key.{key_cmp}
use Rattle.path_model.specs.Roles.{Relations, role_of}
use Rattle.path_model.specs.Trail.{Path}
use Rattle.attestations.proofs.PartsLemmas.{table_is_current}
use Rattle.path_model.proofs.WitnessLemmas.{printed_facts}
use Rattle.shared_cases.specs.declared.case.StoredCase.{StoredCase}
use Rattle.shared_cases.specs.Cases.{Slots, at, AreDistinct, IsStoredAs}
use Rattle.shared_cases.specs.Grounds.{IsJudged}
use Rattle.rib_store.specs.Grounds.{grounds}
use Rattle.shared_cases.specs.Listed.{listed, cases_of}
use Rattle.shared_cases.specs.Touched.{AreApart}
use Rattle.shared_cases.proofs.ListedLemmas.{each_listed, pair_listed, pairs_apart}
use Rattle.shared_cases.proofs.ListedLemmas.{pair_of as listed_pair}
use Rattle.shared_cases.proofs.NumberLemmas.{decide_eq}
use Rattle.rib_store.specs.Cased.{Numbered, path_or, through, routes_by, one, users_of, IsCounted, IsOfAs, AreStored}
use Rattle.rib_store.specs.Pairs.{is_same_path, has_pair, routes_with, pair_of, paired_by, IsPaired, ArePairs}
use Rattle.rib_store.specs.State.{State, Marked}
use Rattle.rib_store.proofs.CasedLemmas.{through_sorted}
use Rattle.rib_store.proofs.CountedLemmas.{one-same, one-other, users_positive}
use Rattle.rib_store.proofs.KeyLemmas.{AllFound, all_found, find_lookup, sorted_entries, entries_whole}
use Rattle.rib_store.proofs.RouteLemmas.{stored_with}
use Rattle.rib_store.proofs.SharingLemmas.{are_cases}

-- ---- the test of a pair

same_path_decides : (p q : Path) → Decides (is_same_path p q) (p ≡ q)
same_path_decides p q =
    let both = Decides-and (beq p.set q.set) (pointwise nat_eq p.chain q.chain) (booleans_Decides p.set q.set) (slice_eq-Decides Decides-eqb p.chain q.chain _ refl) in (
      λ t. let same = both.0 t in λ i. record { set = same.0 i; chain = same.1 i },
      λ same. both.1 (ap (λ (path : Path). path.set) same, ap (λ (path : Path). path.chain) same),
    )

-- the test of a pair decides whether the route is from the AS and has the path
pub pair_decides : (asn : ℕ) (path : Path) (route : Key × Path) → Decides (has_pair asn path route) ((route.0.peer.asn ≡ asn) × (route.1 ≡ path))
pair_decides asn path route = Decides-and (nat_eq route.0.peer.asn asn) (is_same_path route.1 path) (Decides-eqb route.0.peer.asn asn) (same_path_decides route.1 path)

module _ (parts : Parts) (relations : Relations) (routes : Numbered) (cases : Slots) (stored : AreStored (grounds parts relations) routes cases) (distinct : AreDistinct cases) where
  -- ---- a case counts the routes that have its pair

  module _ (n : ℕ) (c : StoredCase) (here : at cases n ≡ Some c) where
    module _ (key : Key) (m : ℕ) (there : lookup (is_at (key_cmp key)) routes ≡ Some m) where
      -- the key has the pair where it has the case,
      pair_here : m ≡ n → has_pair c.asn c.trail (key, path_or (at cases m)) ≡ true
      pair_here same =
          let is : at cases m ≡ Some c = ap (at cases) same ∙ here in
          let asn : c.asn ≡ key.peer.asn = subst (λ (o : Option StoredCase). IsOfAs o key.peer.asn) is (stored.of_peers key m there) in
          (pair_decides c.asn c.trail (key, path_or (at cases m))).1 (sym asn, ap path_or is)

      -- and only there
      case_here : has_pair c.asn c.trail (key, path_or (at cases m)) ≡ true → m ≡ n
      case_here t =
          let same = (pair_decides c.asn c.trail (key, path_or (at cases m))).0 t in
          distinct m n c.asn c.trail
          (stored_with (at cases m) c.asn c.trail (users_of routes m) (stored.counted m) (users_positive routes key m there)
          (subst (λ (a : ℕ). IsOfAs (at cases m) a) same.0 (stored.of_peers key m there)) same.1)
          (subst (λ (o : Option StoredCase). IsStoredAs o c.asn c.trail) (sym here) (refl, refl))

      counts_one : cond (has_pair c.asn c.trail (key, path_or (at cases m))) 1 0 ≡ one n m
      counts_one = elim (decide_eq m n) [
        | inl same ↦ ap (λ (b : Bool). cond b 1 0) (pair_here same) ∙ sym (ap (one n) same ∙ one-same n)
        | inr other ↦ ap (λ (b : Bool). cond b 1 0) (false_from_ne_true _ (λ t. other (case_here t))) ∙ sym (one-other n m other)
      ]

    pairs_counted : (es : Numbered) → AllFound routes es → count_by (has_pair c.asn c.trail) (through path_or cases es) ≡ sum_by (one n) (values_of es)
    pairs_counted [] found = refl
    pairs_counted (e ∷ es) found = omega (
      arith,
      sum_by-cons (λ (route : Key × Path). cond (has_pair c.asn c.trail route) 1 0) (e.0, path_or (at cases e.1)) (through path_or cases es),
      sum_by-cons (one n) e.1 (values_of es),
      counts_one e.0 e.1 (sym (find_lookup routes e.0) ∙ found.0),
      pairs_counted es found.1,
    )

  -- ---- all pairs

  module _ (sorted : IsStrictlySortedBy key_cmp (keys_of routes)) (marked : Marked) where
    abbrev state_here : State
    state_here = record { parts = parts; roles = relations; routes = routes_by cases routes; marked = marked }

    pub users_counted : (n : ℕ) (c : StoredCase) → at cases n ≡ Some c → c.users ≡ routes_with (routes_by cases routes) c.asn c.trail
    users_counted n c here =
        (subst (λ (o : Option StoredCase). IsCounted o (users_of routes n)) here (stored.counted n)).0
        ∙ sym (pairs_counted n c here routes (all_found routes (sorted_entries routes sorted)))
        ∙ ap (count_by (has_pair c.asn c.trail)) (sym (entries_whole (through path_or cases routes) (through_sorted path_or cases routes sorted)))

    case_paired : (n : ℕ) (c : StoredCase) → at cases n ≡ Some c → IsPaired state_here (paired_by relations (listed c))
    case_paired n c here =
        let counted : IsCounted (Some c) (users_of routes n) = subst (λ (o : Option StoredCase). IsCounted o (users_of routes n)) here (stored.counted n) in
        let right : IsJudged (grounds parts relations) (Some c) = subst (λ (o : Option StoredCase). IsJudged (grounds parts relations) o) here (stored.judged n) in
        record {
          counted = users_counted n c here;
          some = omega (arith, counted.0, counted.1);
          stands = record {
            role = refl;
            table = table_of parts;
            current = table_is_current parts;
            printed = right.0;
            facts = printed_facts (table_of parts) (role_of relations c.asn) c.asn c.trail c.judged.verdict c.judged.witness right.0;
          };
        }

    -- the pairs by the cases
    named : map pair_of (map (paired_by relations) (cases_of cases)) ≡ map listed_pair (cases_of cases)
    named = map-map pair_of (paired_by relations) (cases_of cases)

    pub are_pairs : ArePairs state_here (map (paired_by relations) (cases_of cases))
    are_pairs = record {
      apart = subst (λ (ps : List (ℕ × Path)). AreApart ps) (sym named) (pairs_apart cases distinct);
      all = λ key path route.
          let case = (are_cases parts relations false routes cases [] stored sorted distinct).of_each_route key path route in
          subst (λ (ps : List (ℕ × Path)). Contains ps (key.peer.asn, path)) (sym named)
          (pair_listed cases case.0 key.peer.asn path case.1);
      each = All-map (IsPaired state_here) (paired_by relations) (cases_of cases) (each_listed (λ l. IsPaired state_here (paired_by relations l)) cases case_paired);
    }
