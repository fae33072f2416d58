use Rattle.std.proofs.Common.{◌≡◌, ℕ, Some, None, sym, ap, ◌∙◌}
use Rattle.std.specs.Prelude.{option_map}
use Rattle.std.specs.Ordering.{nat_cmp}
use Rattle.std.specs.FinMap as map
use Rattle.vap_table.specs.Quick.{Places, row_at}
use Rattle.vap_table.proofs.quick_rows.QuickRows.with_filter.Goals as goal

pub invariant_of-result : goal.invariant_of-result
invariant_of-result c = record { within = λ x place there. absurd (none x place there); marked = λ x place there. absurd (none x place there) } where
  none_some : {n : ℕ} → None ≡ Some n → ⊥
  none_some e = cc

  none : (x place : ℕ) → map.get c.new.result x ≡ Some place → ⊥
  none x place there = none_some (sym (ap (λ (places : Places). map.get places x) c.new.ensures ∙ map.get-empty nat_cmp x) ∙ there)

pub returns : goal.returns
returns c = λ x. ap (λ (places : Places). option_map (row_at c.new-2.result.items) (map.get places x)) c.new.ensures ∙ ap (option_map (row_at c.new-2.result.items)) (map.get-empty nat_cmp x)
