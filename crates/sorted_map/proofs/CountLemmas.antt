-- How many entries there are after one more or less, and what a map holds then.
use Rattle.std.proofs.Common.{◌≡◌, ℕ, ◌+◌, ◌-◌, ◌<◌, ◌≤◌, ◌^◌, Bool, true, false, not, List, [], length, None, Some, arith, refl, ap, sym, subst, ◌∙◌, true≢false}
use Rattle.std.specs.Prelude.{is_some}
use Rattle.std.specs.declared.option.Option.{Option}
use Rattle.std.specs.declared.cmp.Ordering.{Ordering}
use Rattle.std.specs.Int.{from_bool}
use Rattle.std.specs.BTreeMap.{insert_entry, is_at}
use Rattle.std.specs.Cmp.{IsTotalOrder}
use Rattle.std.specs.List.Sorted.{IsStrictlySortedBy}
use Rattle.std.specs.Map.{keys_of, lookup, remove_entry}
use Rattle.sorted_map.specs.Joined.{joined, AreChunks}
use Rattle.sorted_map.proofs.BlockLemmas.{new_entries, old_entries, sorted_inserted, sorted_removed, length_inserted, length_removed}

-- one more where there was none
pub counts_new : {V : Type 0} (o : Option V) (none : Bool) → is_some o ≡ not none → from_bool none ≡ new_entries o
counts_new None true is = refl
counts_new None false is = absurd (true≢false (sym is))
counts_new (Some v) true is = absurd (true≢false is)
counts_new (Some v) false is = refl

-- one less where there was one
pub counts_old : {V : Type 0} (o : Option V) → from_bool (is_some o) ≡ old_entries o
counts_old None = refl
counts_old (Some v) = refl

-- at most one more
pub new_within : {V : Type 0} (o : Option V) → new_entries o ≤ 1
new_within None = omega arith
new_within (Some v) = omega arith

pub held_nothing : {K V : Type 0} (R : K → K → Ordering) → AreChunks {V = V} R [] 0
unfolding IsStrictlySortedBy
held_nothing R = record { in_order = tt; counted = refl; few = omega arith }

module _ {K V : Type 0} {R : K → K → Ordering} (before after : List (List (K × V))) (len more : ℕ) (held : AreChunks R before len) (k : K) where
  pub held_put : IsTotalOrder R → (v : V) → joined after ≡ insert_entry R (joined before) k v → len + 1 < 2 ^ 63 → more ≡ new_entries (lookup (is_at (R k)) (joined before)) → AreChunks R after (len + more)
  held_put total v put room count =
      let counted : length (joined after) ≡ length (joined before) + new_entries (lookup (is_at (R k)) (joined before)) = ap length put ∙ length_inserted total k v (joined before) held.in_order in
      let within : new_entries (lookup (is_at (R k)) (joined before)) ≤ 1 = new_within (lookup (is_at (R k)) (joined before)) in
      record {
        in_order = subst (λ (es : List (K × V)). IsStrictlySortedBy R (keys_of es)) (sym put) (sorted_inserted total k v (joined before) held.in_order);
        counted = omega (arith, counted, count, held.counted);
        few = omega (arith, within, count, room);
      }

  pub held_removed : joined after ≡ remove_entry (is_at (R k)) (joined before) → more ≡ old_entries (lookup (is_at (R k)) (joined before)) → AreChunks R after (len - more)
  held_removed taken count =
      let counted : length (joined after) + old_entries (lookup (is_at (R k)) (joined before)) ≡ length (joined before) =
      ap (λ (es : List (K × V)). length es + old_entries (lookup (is_at (R k)) (joined before))) taken ∙ length_removed (is_at (R k)) (joined before) in
      record {
        in_order = subst (λ (es : List (K × V)). IsStrictlySortedBy R (keys_of es)) (sym taken) (sorted_removed R (is_at (R k)) (joined before) held.in_order);
        counted = omega (arith, counted, count, held.counted);
        few = omega (arith, held.few);
      }
