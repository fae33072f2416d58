use Rattle.std.proofs.Common.{◌≡◌, Some, ap, refl, sym, ◌∙◌}
use Rattle.std.specs.FinMap as map
use Rattle.std.specs.Option.{option_copied}
use Rattle.attestations.specs.CurrentTable.{Parts}
use Rattle.vap_table.specs.Counting.{missing}
use Rattle.vap_table.proofs.IdleLemmas.{idle_assert}
use Rattle.vap_table.proofs.parts.HeldParts.has_asserted.Goals as goal

pub returns-in-Some : goal.returns-in-Some
returns-in-Some c = λ yes.
    let held : Parts = record {
      moment = c.self.inside.moment;
      sources = c.self.inside.sources;
      slurm_filters = c.self.inside.slurm_filters;
      slurm_assertions = c.self.inside.slurm_assertions;
      filters = c.self.inside.filters;
      assertions = c.self.inside.assertions;
    } in
    let here : Some c.in-Some.row.now ≡ map.get held.assertions c.args.customer = sym (ap option_copied c.in-Some.is) ∙ c.row.ensures.row in
    rw (← c.self.view_is) (idle_assert held c.args.customer c.args.providers.now (Some c.in-Some.row.now) c.in-Some.row.now refl here
    (c.row.ensures.sets.ascending c.args.customer c.in-Some.row.now (sym here))
    (ap (missing (Some c.in-Some.row.now)) (sym c.as_slice.ensures) ∙ c.are_held.ensures yes))
