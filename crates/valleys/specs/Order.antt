-- The order of valleys, and that it is total: what their impl of Ord cites.
use Rattle.std.specs.Prelude.{ℕ, is_none}
use Rattle.std.specs.Ordering.{nat_cmp, bool_cmp, ordering_then}
use Rattle.std.specs.Option.{option_cmp}
use Rattle.std.specs.declared.cmp.Ordering.{Ordering}
use Rattle.std.specs.declared.option.Option.{Option}
use Rattle.std.specs.Cmp.{IsTotalOrder, bool_cmp_total, nat_cmp_total, on_total, then_total}
use Rattle.std.specs.Cmp.Lexicographic.{options_total}
use Rattle.valleys.specs.declared.valley.Valley.{Valley}

-- by number, and `None` behind every number
abbrev pub to_cmp : Option ℕ → Option ℕ → Ordering
to_cmp a b = ordering_then (bool_cmp (is_none a) (is_none b)) (option_cmp nat_cmp a b)

-- by `from`, `first`, `last` and `to`
abbrev pub valley_cmp : Valley → Valley → Ordering
valley_cmp a b = ordering_then (nat_cmp a.from b.from)
    (ordering_then (nat_cmp a.first b.first) (ordering_then (nat_cmp a.last b.last) (to_cmp a.to b.to)))

pub to_total : IsTotalOrder to_cmp
to_total = then_total (on_total is_none bool_cmp_total) (options_total nat_cmp_total)

pub valley_total : IsTotalOrder valley_cmp
valley_total = then_total (on_total (λ (v : Valley). v.from) nat_cmp_total)
    (then_total (on_total (λ (v : Valley). v.first) nat_cmp_total)
    (then_total (on_total (λ (v : Valley). v.last) nat_cmp_total) (on_total (λ (v : Valley). v.to) to_total)))
