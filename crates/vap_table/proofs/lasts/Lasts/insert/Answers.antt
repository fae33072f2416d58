use Rattle.std.proofs.Common.{ℕ, List, true, subst}
use Rattle.vap_table.specs.Lasts.{SetsLast}
use Rattle.vap_table.proofs.LastsLemmas.{last_set}
use Rattle.vap_table.proofs.lasts.Lasts.insert.Goals as goal

pub returns : goal.returns
returns c = subst (λ (held : List (ℕ × ℕ)). SetsLast held c.args.customer c.args.moment true c.insert.new.self.keys) c.self.view_is
    (last_set c.self.inside.pairs.keys c.insert.new.self.keys c.args.customer c.args.moment true c.in_ok-insert.ensures.updates.0)
