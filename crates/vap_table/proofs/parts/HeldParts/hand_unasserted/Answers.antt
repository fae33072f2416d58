use Rattle.std.proofs.Common.{None, sym, subst}
use Rattle.std.specs.Option.{option_copied}
use Rattle.std.specs.FinMap as map
use Rattle.attestations.specs.CurrentTable.{Parts}
use Rattle.attestations.specs.ComputedTable.{attested}
use Rattle.vap_table.specs.Counting.{asserted_with}
use Rattle.vap_table.specs.Tally.{asserted, IsTallyOf, IsTallyOfRows}
use Rattle.vap_table.proofs.CountingLemmas.{ordered}
use Rattle.vap_table.proofs.TallyingLemmas.{hand_removed}
use Rattle.vap_table.proofs.parts.HeldParts.hand_unasserted.Goals as goal

pub without_row-requires-clause-ordered : goal.without_row-requires-clause-ordered
without_row-requires-clause-ordered c = ordered (attested c.args.self.now.moment c.args.self.now.sources c.args.customer) (asserted c.args.self.now c.args.customer) c.args.tally c.requires

pub returns : goal.returns
returns c =
    let held : Parts = record {
      moment = c.self.inside.moment;
      sources = c.self.inside.sources;
      slurm_filters = c.self.inside.slurm_filters;
      slurm_assertions = c.self.inside.slurm_assertions;
      filters = c.self.inside.filters;
      assertions = c.self.inside.assertions;
    } in
    subst (λ (p : Parts). IsTallyOfRows (attested p.moment p.sources c.args.customer) (asserted_with (map.get p.slurm_assertions c.args.customer) None) c.in_ok-next.next) c.self.view_is
    (hand_removed held c.args.customer (option_copied c.row-held.result) c.args.tally c.in_ok-next.next c.row-held.ensures.row c.in_ok-next.ensures.tally
    (subst (λ (p : Parts). IsTallyOf p c.args.customer c.args.tally) (sym c.self.view_is) c.requires))
