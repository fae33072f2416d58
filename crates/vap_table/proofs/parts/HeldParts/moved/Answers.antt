use Rattle.std.proofs.Common.{sym, subst}
use Rattle.attestations.specs.CurrentTable.{Parts}
use Rattle.attestations.specs.ComputedTable.{attested}
use Rattle.vap_table.specs.declared.change.TableChange.TheVariants.{At}
use Rattle.vap_table.specs.Change.{Alters}
use Rattle.vap_table.specs.Tally.{asserted, IsTallyOf}
use Rattle.vap_table.proofs.CountingLemmas.{ordered}
use Rattle.vap_table.proofs.TallyingLemmas.{tally_of_at}
use Rattle.vap_table.proofs.TurningLemmas.{moved_on}
use Rattle.vap_table.proofs.parts.HeldParts.moved.Goals as goal

pub turned-requires : goal.turned-requires
turned-requires c = ordered (attested c.args.self.now.moment c.args.self.now.sources c.args.customer) (asserted c.args.self.now c.args.customer) c.args.tally c.requires

pub returns : goal.returns
returns c =
    let held : Parts = record {
      moment = c.self.inside.moment;
      sources = c.self.inside.sources;
      slurm_filters = c.self.inside.slurm_filters;
      slurm_assertions = c.self.inside.slurm_assertions;
      filters = c.self.inside.filters;
      assertions = c.self.inside.assertions;
    } in
    subst (λ (p : Parts). (new : Parts) → Alters p (At c.args.moment) new → IsTallyOf new c.args.customer c.in_ok-next.next) c.self.view_is
    (tally_of_at held c.args.moment c.args.customer c.in_ok-next.next
    (moved_on held.moment c.args.moment held.sources c.args.customer (asserted held c.args.customer) c.args.tally c.in_ok-next.next c.in_ok-next.ensures.tally
    (subst (λ (p : Parts). IsTallyOf p c.args.customer c.args.tally) (sym c.self.view_is) c.requires)))
