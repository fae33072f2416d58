use Rattle.std.proofs.Common.{ap, sym, ◌∙◌}
use Rattle.std.specs.Option.{option_copied}
use Rattle.attestations.specs.CurrentTable.{Parts}
use Rattle.vap_table.proofs.IdleLemmas.{idle_unassert}
use Rattle.vap_table.proofs.parts.HeldParts.has_none_asserted.Goals as goal

pub returns-in-None : goal.returns-in-None
returns-in-None c = λ yes.
    let held : Parts = record {
      moment = c.self.inside.moment;
      sources = c.self.inside.sources;
      slurm_filters = c.self.inside.slurm_filters;
      slurm_assertions = c.self.inside.slurm_assertions;
      filters = c.self.inside.filters;
      assertions = c.self.inside.assertions;
    } in
    rw (← c.self.view_is) (idle_unassert held c.args.customer (sym c.row.ensures.row ∙ ap option_copied c.in-None.is))
