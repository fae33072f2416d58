use Rattle.std.proofs.Common.{sym, ◌∙◌}
use Rattle.attestations.specs.CurrentTable.{Parts}
use Rattle.vap_table.proofs.IdleLemmas.{idle_filter}
use Rattle.vap_table.proofs.parts.HeldParts.is_filter.Goals as goal

pub returns : goal.returns
returns c = λ yes.
    let held : Parts = record {
      moment = c.self.inside.moment;
      sources = c.self.inside.sources;
      slurm_filters = c.self.inside.slurm_filters;
      slurm_assertions = c.self.inside.slurm_assertions;
      filters = c.self.inside.filters;
      assertions = c.self.inside.assertions;
    } in
    rw (← c.self.view_is) (idle_filter held c.args.customer c.len-number.ensures.rising (sym c.contains.ensures ∙ yes))
