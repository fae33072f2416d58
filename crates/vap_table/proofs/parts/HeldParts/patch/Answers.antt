use Rattle.attestations.specs.CurrentTable.{Parts}
use Rattle.vap_table.specs.declared.change.TableChange.TheVariants.{Patch}
use Rattle.vap_table.proofs.AlteredLemmas.{altered_by_patch, altered_from}
use Rattle.vap_table.proofs.parts.HeldParts.patch.Goals as goal

pub returns : goal.returns
returns c =
    let held : Parts = record {
      moment = c.self.inside.moment;
      sources = c.self.inside.sources;
      slurm_filters = c.self.inside.slurm_filters;
      slurm_assertions = c.self.inside.slurm_assertions;
      filters = c.self.inside.filters;
      assertions = c.self.inside.assertions;
    } in
    altered_from c.args.self.now held (record held { sources = c.patch.new.self }) (Patch c.args.name c.args.patch.now) c.self.view_is
    (altered_by_patch held c.args.name c.args.patch.now c.patch.new.self c.in_ok-patch.ensures)
