use Rattle.attestations.specs.CurrentTable.{Parts}
use Rattle.vap_table.specs.declared.change.TableChange.TheVariants.{Unfilter}
use Rattle.vap_table.proofs.AlteredLemmas.{altered_by_unfilter, altered_from}
use Rattle.vap_table.proofs.parts.HeldParts.unfilter.Goals as goal

pub returns : goal.returns
returns c =
    let held : Parts = record {
      moment = c.self.inside.moment;
      sources = c.self.inside.sources;
      slurm_filters = c.self.inside.slurm_filters;
      slurm_assertions = c.self.inside.slurm_assertions;
      filters = c.self.inside.filters;
      assertions = c.self.inside.assertions;
    } in
    altered_from c.args.self.now held (record held { filters = c.remove.new.self }) (Unfilter c.args.customer) c.self.view_is
    (altered_by_unfilter held c.args.customer c.remove.new.self c.remove.ensures.rising c.remove.ensures.members)
