-- The cases stay those of the routes where all routes of a peer go at once.
use Rattle.std.proofs.Common.{◌≡◌, ℕ, zero, suc, ◌+◌, ◌<◌, Bool, true, false, cond, not, [], ◌∷◌, None, Some, refl, ap, sym, subst, ◌∙◌, arith}
use Rattle.std.specs.declared.option.Option.{Option}
use Rattle.std.specs.BTreeMap.{is_at}
use Rattle.std.specs.FinMap as fin
use Rattle.std.specs.List.{filter, sum_by}
use Rattle.std.specs.Map.{lookup, values_of}
use Rattle.std.specs.Option.{option_map}
use Rattle.std.proofs.lemmas.List.Filters.{sum_by-filter_both}
use Rattle.std.proofs.lemmas.List.Sums.{sum_by-cons}
use Rattle.std.proofs.lemmas.Map.Entries.{lookup-filter-keys}
use Rattle.path_model.specs.declared.key.Key.{Key}
use Rattle.path_model.specs.declared.peer.Peer.{Peer}
use Rattle.path_model.specs.Key.{key_cmp}
use Rattle.path_model.specs.Order.{key_total}
use Rattle.path_model.specs.Routes.{is_of_peer}
use Rattle.path_model.proofs.OrderLemmas.{key_exact}
use Rattle.shared_cases.specs.declared.case.StoredCase.{StoredCase}
use Rattle.shared_cases.specs.Cases.{Slots, at}
use Rattle.shared_cases.specs.Grounds.{Grounds, IsJudged}
use Rattle.shared_cases.specs.Taking.{lowered, left_times, times}
use Rattle.rib_store.specs.Cased.{Numbered, path_or, one, users_of, routes_by, IsCounted, IsOfAs, AreStored}
use Rattle.rib_store.proofs.CasedLemmas.{get_through, kept_part}
use Rattle.rib_store.proofs.CountedLemmas.{users_positive, left_counted, left_used}
use Rattle.rib_store.proofs.KeyLemmas.{same_key}
use Rattle.rib_store.proofs.OfPeerLemmas.{alike, stays}
use Rattle.rib_store.proofs.RouteLemmas.{lowered_path}
use Rattle.rib_store.proofs.StoredLemmas.{left_as, left_judged}

-- ---- a case is left more than once

more : (u k : ℕ) → u + suc k ≡ (u + 1) + k
more u k = omega (arith)

counted_times : (k : ℕ) (c : Option StoredCase) (u : ℕ) → IsCounted c (u + k) → IsCounted (left_times k c) u
counted_times zero c u counted = subst (IsCounted c) (omega (arith)) counted
counted_times (suc k) c u counted = left_counted (left_times k c) u (counted_times k c (u + 1) (subst (IsCounted c) (more u k) counted))

as_times : (k : ℕ) (c : Option StoredCase) (asn : ℕ) → IsOfAs c asn → IsOfAs (left_times k c) asn
as_times zero c asn is = is
as_times (suc k) c asn is = left_as (left_times k c) asn (as_times k c asn is)

judged_times : (g : Grounds) (k : ℕ) (c : Option StoredCase) → IsJudged g c → IsJudged g (left_times k c)
judged_times g zero c right = right
judged_times g (suc k) c right = left_judged g (left_times k c) (judged_times g k c right)

part_times : {A : Type 0} (part : Option StoredCase → A) → ((c : Option StoredCase) → part (lowered c) ≡ part c) → (k : ℕ) (c : Option StoredCase) (u : ℕ) → IsCounted c (u + k) → 0 < u
    → part (left_times k c) ≡ part c
part_times part same zero c u counted used = refl
part_times part same (suc k) c u counted used =
    let before : IsCounted c ((u + 1) + k) = subst (IsCounted c) (more u k) counted in
    ap part (left_used (left_times k c) u (counted_times k c (u + 1) before) used) ∙ same (left_times k c)
    ∙ part_times part same k c (u + 1) before (omega (arith, used))

-- ---- the routes of a peer, and the others

sum_values : (f : ℕ → ℕ) (es : Numbered) → sum_by f (values_of es) ≡ sum_by (λ e. f e.1) es
sum_values f [] = refl
sum_values f (e ∷ es) = sum_by-cons f e.1 (values_of es) ∙ ap (λ (k : ℕ). f e.1 + k) (sum_values f es) ∙ sym (sum_by-cons (λ e'. f e'.1) e es)

module _ (g : Grounds) (before after taken : Numbered) (peer : Peer) (old new : Slots) (stored : AreStored g before old)
    (is_taken : taken ≡ filter (λ e. is_of_peer peer e.0) before) (is_left : after ≡ filter (λ e. not (is_of_peer peer e.0)) before)
    (leaves : (n : ℕ) → at new n ≡ left_times (times n (values_of taken)) (at old n)) where
  users_parted : (n : ℕ) → users_of before n ≡ users_of after n + times n (values_of taken)
  users_parted n =
      let whole : sum_by (one n) (values_of before) ≡ sum_by (λ e. one n e.1) before = sum_values (one n) before in
      let rest : sum_by (one n) (values_of after) ≡ sum_by (λ e. one n e.1) (filter (λ e. not (is_of_peer peer e.0)) before) =
      sum_values (one n) after ∙ ap (λ (es : Numbered). sum_by (λ e. one n e.1) es) is_left in
      let gone : sum_by (one n) (values_of taken) ≡ sum_by (λ e. one n e.1) (filter (λ e. is_of_peer peer e.0) before) =
      sum_values (one n) taken ∙ ap (λ (es : Numbered). sum_by (λ e. one n e.1) es) is_taken in
      let both : sum_by (λ e. one n e.1) (filter (λ e. is_of_peer peer e.0) before) + sum_by (λ e. one n e.1) (filter (λ e. not (is_of_peer peer e.0)) before)
      ≡ sum_by (λ e. one n e.1) before = sum_by-filter_both (λ e. is_of_peer peer e.0) (λ e. not (is_of_peer peer e.0)) (λ e. refl) (λ e. one n e.1) before in
      omega (arith, whole, rest, gone, both)

  counted_before : (n : ℕ) → IsCounted (at old n) (users_of after n + times n (values_of taken))
  counted_before n = subst (IsCounted (at old n)) (users_parted n) (stored.counted n)

  found_left : (q : Key) → lookup (is_at (key_cmp q)) after ≡ cond (stays peer q) (lookup (is_at (key_cmp q)) before) None
  found_left q = ap (lookup (is_at (key_cmp q))) is_left
      ∙ lookup-filter-keys (is_at (key_cmp q)) (stays peer) (stays peer q) (λ k t. ap (stays peer) (sym (same_key q k t))) before

  found_before : (q : Key) (n : ℕ) → lookup (is_at (key_cmp q)) after ≡ Some n → lookup (is_at (key_cmp q)) before ≡ Some n
  found_before q n here = by (stays peer q) (sym (found_left q) ∙ here) where
    by : (b : Bool) → cond b (lookup (is_at (key_cmp q)) before) None ≡ Some n → lookup (is_at (key_cmp q)) before ≡ Some n
    by true e = e
    by false e = absurd (cc)

  -- the cases are those of the routes that are left
  pub parted_stored : AreStored g after new
  parted_stored = record {
    counted = λ n. subst (λ (c : Option StoredCase). IsCounted c (users_of after n)) (sym (leaves n)) (counted_times (times n (values_of taken)) (at old n) (users_of after n) (counted_before n));
    of_peers = λ q n here. subst (λ (c : Option StoredCase). IsOfAs c q.peer.asn) (sym (leaves n))
        (as_times (times n (values_of taken)) (at old n) q.peer.asn (stored.of_peers q n (found_before q n here)));
    judged = λ n. subst (IsJudged g) (sym (leaves n)) (judged_times g (times n (values_of taken)) (at old n) (stored.judged n));
  }

  -- and their paths are what they were
  pub parted_routes : routes_by new after ≡ fin.retain_keys (routes_by old before) (stays peer)
  parted_routes = fin.same_map key_total key_exact _ _ (λ q. get_through path_or new after q
      ∙ ap (option_map (λ n. path_or (at new n))) (found_left q)
      ∙ by q (stays peer q) refl
      ∙ sym (fin.get-retain_keys (routes_by old before) (stays peer) q (alike peer q)
      ∙ ap (λ (o : Option _). cond (stays peer q) o None) (get_through path_or old before q))) where
        by : (q : Key) (b : Bool) → stays peer q ≡ b → option_map (λ n. path_or (at new n)) (cond b (lookup (is_at (key_cmp q)) before) None)
            ≡ cond b (option_map (λ n. path_or (at old n)) (lookup (is_at (key_cmp q)) before)) None
        by q true t = kept_part path_or old new (lookup (is_at (key_cmp q)) before) (λ n here. ap path_or (leaves n)
            ∙ part_times path_or lowered_path (times n (values_of taken)) (at old n) (users_of after n) (counted_before n)
            (users_positive after q n (found_left q ∙ ap (λ (b : Bool). cond b (lookup (is_at (key_cmp q)) before) None) t ∙ here)))
        by q false t = refl
