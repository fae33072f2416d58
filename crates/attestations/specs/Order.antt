-- The order of attestations is total: what their impl of Ord and the sets of them cite.
use Rattle.std.specs.Cmp.{IsTotalOrder, nat_cmp_total, on_total, then_total}
use Rattle.std.specs.Cmp.Lexicographic.{nat_list_cmp_total, options_total}
use Rattle.attestations.specs.declared.term.Term.{Term}
use Rattle.attestations.specs.Terms.{term_cmp}

pub term_total : IsTotalOrder term_cmp
term_total = then_total (on_total (λ (t : Term). t.until) (options_total nat_cmp_total)) (on_total (λ (t : Term). t.providers) nat_list_cmp_total)
