use Rattle.std.proofs.Common.{◌≡◌, ◌++◌, nat_cmp, Bool, true, false, not, Some, None, List, ℕ, Bor, refl, sym, subst, is_some, true≢false}
use Rattle.std.specs.Prelude.{is_none}
use Rattle.std.specs.declared.option.Option.{Option}
use Rattle.std.specs.List.Sorted.{IsStrictlySortedBy}
use Rattle.std.specs.Option.{option_copied}
use Rattle.std.specs.FinMap as map
use Rattle.std.proofs.lemmas.Map.Keys.{sorted_from_strictly_increasing}
use Rattle.attestations.specs.CurrentTable.{Parts}
use Rattle.attestations.specs.ComputedTable.{attested}
use Rattle.path_model.specs.Rows.{row_or_empty}
use Rattle.path_model.specs.Sets.{IsSetOf}
use Rattle.vap_table.specs.declared.stepping.Step.TheVariants.{AssertionMore}
use Rattle.vap_table.specs.Counting.{asserted_with}
use Rattle.vap_table.specs.Stepping.{IsTallyStepped}
use Rattle.vap_table.specs.Tally.{asserted, IsTallyOf, IsTallyOfRows}
use Rattle.vap_table.proofs.CountingLemmas.{ordered}
use Rattle.vap_table.proofs.TallyingLemmas.{hand_united}
use Rattle.vap_table.proofs.parts.HeldParts.hand_asserted.Goals as goal

first_is : (o : Option (Bor (List ℕ))) (b : Bool) → is_some o ≡ not b → b ≡ is_none (option_copied o)
first_is None true e = refl
first_is None false e = absurd (true≢false (sym e))
first_is (Some r) true e = absurd (true≢false e)
first_is (Some r) false e = refl

pub step_tally-requires-clause-ordered : goal.step_tally-requires-clause-ordered
step_tally-requires-clause-ordered c = ordered (attested c.args.self.now.moment c.args.self.now.sources c.args.customer) (asserted c.args.self.now c.args.customer) c.args.tally c.requires

pub step_tally-requires-clause-rising : goal.step_tally-requires-clause-rising
step_tally-requires-clause-rising c = subst (λ (row : List ℕ). IsStrictlySortedBy nat_cmp row) (sym c.as_slice.ensures) (sorted_from_strictly_increasing c.in_ok-more.more c.in_ok-more.ensures.ascending)

pub returns : goal.returns
returns c =
    let held : Parts = record {
      moment = c.self.inside.moment;
      sources = c.self.inside.sources;
      slurm_filters = c.self.inside.slurm_filters;
      slurm_assertions = c.self.inside.slurm_assertions;
      filters = c.self.inside.filters;
      assertions = c.self.inside.assertions;
    } in
    subst (λ (p : Parts). (row : List ℕ) → IsSetOf (row_or_empty (map.get p.assertions c.args.customer) ++ c.args.providers.now) row
    → IsTallyOfRows (attested p.moment p.sources c.args.customer) (asserted_with (map.get p.slurm_assertions c.args.customer) (Some row)) c.in_ok-next.next) c.self.view_is
    (λ row is_row. hand_united held c.args.customer (option_copied c.row-held.result) c.is_none-is_first.result c.args.providers.now row c.in_ok-more.more c.args.tally c.in_ok-next.next c.row-held.ensures.row
    (first_is c.row-held.result c.is_none-is_first.result c.is_none-is_first.ensures) c.in_ok-more.ensures
    (subst (λ (row : List ℕ). IsTallyStepped AssertionMore c.is_none-is_first.result row c.args.tally c.in_ok-next.next) c.as_slice.ensures c.in_ok-next.ensures.stepped)
    (subst (λ (p : Parts). IsTallyOf p c.args.customer c.args.tally) (sym c.self.view_is) c.requires) is_row)
