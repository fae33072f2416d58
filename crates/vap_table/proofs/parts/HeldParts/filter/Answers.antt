use Rattle.attestations.specs.CurrentTable.{Parts}
use Rattle.vap_table.specs.declared.change.TableChange.TheVariants.{Filter}
use Rattle.vap_table.proofs.AlteredLemmas.{altered_by_filter, altered_from}
use Rattle.vap_table.proofs.parts.HeldParts.filter.Goals as goal

pub returns : goal.returns
returns c =
    let held : Parts = record {
      moment = c.self.inside.moment;
      sources = c.self.inside.sources;
      slurm_filters = c.self.inside.slurm_filters;
      slurm_assertions = c.self.inside.slurm_assertions;
      filters = c.self.inside.filters;
      assertions = c.self.inside.assertions;
    } in
    altered_from c.args.self.now held (record held { filters = c.insert.new.self }) (Filter c.args.customer) c.self.view_is
    (altered_by_filter held c.args.customer c.insert.new.self c.in_ok-insert.ensures.rising c.in_ok-insert.ensures.members)
