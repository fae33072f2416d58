use Rattle.std.proofs.Common.{ℕ, List, false, subst}
use Rattle.vap_table.specs.Lasts.{SetsLast}
use Rattle.vap_table.proofs.LastsLemmas.{last_set}
use Rattle.vap_table.proofs.lasts.Lasts.remove.Goals as goal

pub returns : goal.returns
returns c = subst (λ (held : List (ℕ × ℕ)). SetsLast held c.args.customer c.args.moment false c.remove.new.self.keys) c.self.view_is
    (last_set c.self.inside.pairs.keys c.remove.new.self.keys c.args.customer c.args.moment false c.remove.ensures.updates.0)
