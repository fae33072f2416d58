use Rattle.std.proofs.Common.{ℕ, List, refl, sym, subst, ◌∙◌, arith}
use Rattle.std.specs.FinMap as map
use Rattle.path_model.proofs.MapLemmas.{get_rows}
use Rattle.attestations.specs.ComputedTable.{table_of}
use Rattle.attestations.proofs.PartsLemmas.{one_row, table_is_current}
use Rattle.vap_table.specs.declared.entries.Entries.{Entries}
use Rattle.vap_table.specs.Entries.{entries_left, rows_of}
use Rattle.rtr_cache.proofs.FittingLemmas.{Fitting, all_fit, fitting_item, fitting_next, fitting_start, too_long}
use Rattle.rtr_cache.proofs.fitting.fits_pdus.Goals as goal

pub loop-row-init : goal.loop-row-init
loop-row-init c =
    subst (λ (it : Entries). Fitting (table_of c.args.table.now) (entries_left it)) (sym c.into_iter-row-iterator.ensures.into_iter_gives)
    (fitting_start (table_of c.args.table.now) (entries_left c.entries-row-items.result) c.entries-row-items.ensures.rising
    (λ q. one_row c.args.table.now q (table_of c.args.table.now q) (map.get (rows_of (entries_left c.entries-row-items.result)) q) (table_is_current c.args.table.now q) (c.entries-row-items.ensures.current q) ∙ get_rows (entries_left c.entries-row-items.result) q))

pub returns-then-len-gt-MOST : goal.returns-then-len-gt-MOST
returns-then-len-gt-MOST c = (
  λ t. let never : ⊥ = cc in absurd never,
  λ fits. absurd (too_long c.args.table.now c.in-Some.field-0-0 c.in-Some.row.now
      (fitting_item (table_of c.args.table.now) c.in-Some.field-0-0 c.in-Some.row.now (entries_left c.next.new.self)
      (subst (λ (left : List (ℕ × List ℕ)). Fitting (table_of c.args.table.now) left) c.in-Some.ensures.steps c.loop-row.invariant))
      (omega (arith, c.len.ensures, c.if-len-gt-MOST.true)) fits),
)

pub loop-row-preserved : goal.loop-row-preserved
loop-row-preserved c =
    fitting_next (table_of c.args.table.now) c.in-Some.field-0-0 c.in-Some.row.now (entries_left c.next.new.self)
    (subst (λ (left : List (ℕ × List ℕ)). Fitting (table_of c.args.table.now) left) c.in-Some.ensures.steps c.loop-row.invariant)
    (omega (arith, c.len.ensures, c.if-len-gt-MOST.false))

pub returns : goal.returns
returns c = (
  λ t. all_fit c.args.table.now (subst (λ (left : List (ℕ × List ℕ)). Fitting (table_of c.args.table.now) left) c.in-None.ensures.steps.0 c.loop-row.invariant),
  λ fits. refl,
)
