-- Routes through their cases: what one route more or less is there.
use Rattle.std.proofs.Common.{◌≡◌, ℕ, Bool, true, false, cond, [], ◌∷◌, length, None, Some, arith, refl, ap, sym, subst, ◌∙◌}
use Rattle.std.specs.declared.option.Option.{Option}
use Rattle.std.specs.BTreeMap.{is_at}
use Rattle.std.specs.Cmp.{eq_by_cmp_equiv}
use Rattle.std.specs.FinMap as fin
use Rattle.std.specs.List.Sorted.{IsStrictlySortedBy}
use Rattle.std.specs.Map.{lookup, keys_of}
use Rattle.std.specs.Option.{is_some, option_map}
use Rattle.std.specs.Ordering.{eq_by_cmp}
use Rattle.std.proofs.lemmas.Map.Made.{keys_of-map_values}
use Rattle.path_model.specs.declared.key.Key.{Key}
use Rattle.path_model.specs.Key.{key_cmp}
use Rattle.path_model.specs.Order.{key_total}
use Rattle.path_model.proofs.MapLemmas.{get_entries}
use Rattle.path_model.proofs.OrderLemmas.{key_exact}
use Rattle.shared_cases.specs.declared.case.StoredCase.{StoredCase}
use Rattle.shared_cases.specs.Cases.{Slots, at}
use Rattle.rib_store.specs.Cased.{Numbered, through}

module _ {A : Type 0} (part : Option StoredCase → A) where
  lookup_through : (cases : Slots) (routes : Numbered) (q : Key) → lookup (is_at (key_cmp q)) (through part cases routes) ≡ option_map (λ n. part (at cases n)) (lookup (is_at (key_cmp q)) routes)
  lookup_through cases [] q = refl
  lookup_through cases (e ∷ es) q = by (is_at (key_cmp q) e.0) (lookup_through cases es q) where
    by : (b : Bool) → lookup (is_at (key_cmp q)) (through part cases es) ≡ option_map (λ n. part (at cases n)) (lookup (is_at (key_cmp q)) es)
        → cond b (Some (part (at cases e.1))) (lookup (is_at (key_cmp q)) (through part cases es)) ≡ option_map (λ n. part (at cases n)) (cond b (Some e.1) (lookup (is_at (key_cmp q)) es))
    by true ih = refl
    by false ih = ih

  -- what the map of the routes has at a key
  pub get_through : (cases : Slots) (routes : Numbered) (q : Key) → fin.get (fin.from_entries {R = key_cmp} (through part cases routes)) q ≡ option_map (λ n. part (at cases n)) (lookup (is_at (key_cmp q)) routes)
  get_through cases routes q = get_entries key_total (through part cases routes) q ∙ lookup_through cases routes q

  pub through_sorted : (cases : Slots) (routes : Numbered) → IsStrictlySortedBy key_cmp (keys_of routes) → IsStrictlySortedBy key_cmp (keys_of (through part cases routes))
  through_sorted cases routes sorted = subst (IsStrictlySortedBy key_cmp) (sym (keys_of-map_values (λ n. part (at cases n)) routes)) sorted

  -- cases of which this part is the same
  pub kept_part : (old new : Slots) (o : Option ℕ) → ((j : ℕ) → o ≡ Some j → part (at new j) ≡ part (at old j)) → option_map (λ n. part (at new n)) o ≡ option_map (λ n. part (at old n)) o
  kept_part old new None same = refl
  kept_part old new (Some j) same = ap Some (same j refl)

  pub same_through : (old new : Slots) (routes : Numbered) → ((n : ℕ) → part (at new n) ≡ part (at old n)) → through part new routes ≡ through part old routes
  same_through old new [] same = refl
  same_through old new (e ∷ es) same = λ i. (e.0, same e.1 i) ∷ same_through old new es same i

  module _ (old new : Slots) (before after : Numbered) (k : Key) where
    -- one key more, or another case of it
    pub through_inserted : (n : ℕ) (value : A) → ((q : Key) → lookup (is_at (key_cmp q)) after ≡ cond (is_at (key_cmp k) q) (Some n) (lookup (is_at (key_cmp q)) before))
        → part (at new n) ≡ value → ((q : Key) (j : ℕ) → lookup (is_at (key_cmp q)) after ≡ Some j → lookup (is_at (key_cmp q)) before ≡ Some j → part (at new j) ≡ part (at old j))
        → fin.from_entries {R = key_cmp} (through part new after) ≡ fin.insert (fin.from_entries (through part old before)) k value
    through_inserted n value updates here kept = fin.same_map key_total key_exact _ _ (λ q.
        get_through new after q ∙ ap (option_map (λ j. part (at new j))) (updates q)
        ∙ one_more (is_at (key_cmp k) q) (lookup (is_at (key_cmp q)) before) (λ off j was. kept q j (updates q ∙ ap (λ (b : Bool). cond b (Some n) (lookup (is_at (key_cmp q)) before)) off ∙ was) was)
        ∙ ap (λ (b : Bool). cond b (Some value) (option_map (λ j. part (at old j)) (lookup (is_at (key_cmp q)) before))) ((eq_by_cmp_equiv key_total).symm k q)
        ∙ sym (fin.get-insert key_total (fin.from_entries (through part old before)) k value q ∙ ap (cond (eq_by_cmp key_cmp q k) (Some value)) (get_through old before q))) where
          one_more : (b : Bool) (o : Option ℕ) → (b ≡ false → (j : ℕ) → o ≡ Some j → part (at new j) ≡ part (at old j))
              → option_map (λ j. part (at new j)) (cond b (Some n) o) ≡ cond b (Some value) (option_map (λ j. part (at old j)) o)
          one_more true o others = ap Some here
          one_more false o others = kept_part old new o (others refl)

    -- one key less
    pub through_removed : ((q : Key) → lookup (is_at (key_cmp q)) after ≡ cond (is_at (key_cmp k) q) None (lookup (is_at (key_cmp q)) before))
        → ((q : Key) (j : ℕ) → lookup (is_at (key_cmp q)) after ≡ Some j → lookup (is_at (key_cmp q)) before ≡ Some j → part (at new j) ≡ part (at old j))
        → fin.from_entries {R = key_cmp} (through part new after) ≡ fin.remove (fin.from_entries (through part old before)) k
    through_removed updates kept = fin.same_map key_total key_exact _ _ (λ q.
        get_through new after q ∙ ap (option_map (λ j. part (at new j))) (updates q)
        ∙ one_less (is_at (key_cmp k) q) (lookup (is_at (key_cmp q)) before) (λ off j was. kept q j (updates q ∙ ap (λ (b : Bool). cond b None (lookup (is_at (key_cmp q)) before)) off ∙ was) was)
        ∙ ap (λ (b : Bool). cond b None (option_map (λ j. part (at old j)) (lookup (is_at (key_cmp q)) before))) ((eq_by_cmp_equiv key_total).symm k q)
        ∙ sym (fin.get-remove key_total (fin.from_entries (through part old before)) k q ∙ ap (cond (eq_by_cmp key_cmp q k) None) (get_through old before q))) where
          one_less : (b : Bool) (o : Option ℕ) → (b ≡ false → (j : ℕ) → o ≡ Some j → part (at new j) ≡ part (at old j))
              → option_map (λ j. part (at new j)) (cond b None o) ≡ cond b None (option_map (λ j. part (at old j)) o)
          one_less true o others = refl
          one_less false o others = kept_part old new o (others refl)

pub is_some_map : {X Y : Type 0} (f : X → Y) (o : Option X) → is_some (option_map f o) ≡ is_some o
is_some_map f None = refl
is_some_map f (Some v) = refl

pub through_length : {A : Type 0} (part : Option StoredCase → A) (cases : Slots) (routes : Numbered) → length (through part cases routes) ≡ length routes
through_length part cases [] = refl
through_length part cases (e ∷ es) = omega (arith, through_length part cases es)
