use Rattle.std.proofs.Common.{◌≡◌, sym, subst}
use Rattle.attestations.specs.Attested.{attested_list}
use Rattle.attestations.specs.CurrentTable.{Parts}
use Rattle.attestations.specs.ComputedTable.{attested}
use Rattle.attestations.specs.Terms.{TermMap}
use Rattle.vap_table.specs.Change.{with_source}
use Rattle.vap_table.specs.Sources.{list_of}
use Rattle.vap_table.specs.Tally.{asserted, IsTallyOf, IsTallyOfRows}
use Rattle.vap_table.proofs.CountingLemmas.{ordered}
use Rattle.vap_table.proofs.TurningLemmas.{source_put}
use Rattle.vap_table.proofs.parts.HeldParts.resourced.Goals as goal

pub turned-requires-clause-ordered : goal.turned-requires-clause-ordered
turned-requires-clause-ordered c = ordered (attested c.args.self.now.moment c.args.self.now.sources c.args.customer) (asserted c.args.self.now c.args.customer) c.args.tally c.requires.tally

pub returns : goal.returns
returns c =
    let held : Parts = record {
      moment = c.self.inside.moment;
      sources = c.self.inside.sources;
      slurm_filters = c.self.inside.slurm_filters;
      slurm_assertions = c.self.inside.slurm_assertions;
      filters = c.self.inside.filters;
      assertions = c.self.inside.assertions;
    } in
    subst (λ (p : Parts). (terms : TermMap) → list_of terms c.args.customer ≡ attested_list c.args.given
    → IsTallyOfRows (attested p.moment (with_source p.sources c.args.name.now terms) c.args.customer) (asserted p c.args.customer) c.in_ok-next.next)
    c.self.view_is
    (source_put held.moment held.sources c.args.name.now c.args.customer (attested_list c.held_in-held.result) (attested_list c.args.given) (asserted held c.args.customer) c.args.tally c.in_ok-without.without c.in_ok-next.next
    c.held_in-held.ensures.held c.in_ok-without.ensures.tally c.in_ok-next.ensures.tally (subst (λ (p : Parts). IsTallyOf p c.args.customer c.args.tally) (sym c.self.view_is) c.requires.tally))
