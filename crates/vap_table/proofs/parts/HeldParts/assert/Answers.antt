use Rattle.attestations.specs.CurrentTable.{Parts}
use Rattle.vap_table.specs.declared.change.TableChange.TheVariants.{Assert}
use Rattle.vap_table.proofs.AlteredLemmas.{altered_by_assert, altered_from}
use Rattle.vap_table.proofs.parts.HeldParts.assert.Goals as goal

pub returns : goal.returns
returns c =
    let held : Parts = record {
      moment = c.self.inside.moment;
      sources = c.self.inside.sources;
      slurm_filters = c.self.inside.slurm_filters;
      slurm_assertions = c.self.inside.slurm_assertions;
      filters = c.self.inside.filters;
      assertions = c.self.inside.assertions;
    } in
    altered_from c.args.self.now held (record held { assertions = c.unite.new.self }) (Assert c.args.customer c.args.providers.now) c.self.view_is
    (altered_by_assert held c.args.customer c.args.providers.now c.as_slice.result.now c.unite.new.self c.as_slice.ensures c.in_ok-unite.ensures.ok)
