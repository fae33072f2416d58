use Rattle.attestations.specs.CurrentTable.{Parts}
use Rattle.vap_table.specs.declared.change.TableChange.TheVariants.{Slurm}
use Rattle.vap_table.proofs.AlteredLemmas.{altered_by_slurm, altered_from}
use Rattle.vap_table.proofs.parts.HeldParts.take_slurm.Goals as goal

pub returns : goal.returns
returns c =
    let held : Parts = record {
      moment = c.self.inside.moment;
      sources = c.self.inside.sources;
      slurm_filters = c.self.inside.slurm_filters;
      slurm_assertions = c.self.inside.slurm_assertions;
      filters = c.self.inside.filters;
      assertions = c.self.inside.assertions;
    } in
    altered_from c.args.self.now held (record held { slurm_filters = c.in_ok-self-inside.field-0; slurm_assertions = c.args.rows }) (Slurm c.args.filters.now c.args.rows) c.self.view_is
    (altered_by_slurm held c.args.filters.now c.in_ok-self-inside.field-0 c.args.rows c.in_ok-self-inside.ensures.rising c.in_ok-self-inside.ensures.members)
