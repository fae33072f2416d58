use Rattle.std.proofs.Common.{ℕ, List, nat_cmp, sym, subst}
use Rattle.std.specs.FinMap as map
use Rattle.std.specs.Map.{keys_of}
use Rattle.std.specs.List.Sorted.{IsStrictlySortedBy}
use Rattle.attestations.specs.CurrentTable.{Parts, IsCurrentTable}
use Rattle.vap_table.specs.Entries.{rows_of, with_rows}
use Rattle.vap_table.proofs.EntriesLemmas.{entries_current, rows_rise}
use Rattle.vap_table.proofs.vaps.Vaps.entries.Goals as goal

pub returns-clause-current : goal.returns-clause-current
returns-clause-current c =
    subst (λ (parts : Parts). IsCurrentTable parts (λ x. map.get (rows_of (with_rows c.self.inside.current c.self.inside.parts.moment c.self.inside.parts.sources c.iter.result)) x)) c.self.view_is
    (subst (λ (customers : List ℕ). IsCurrentTable c.self.inside.parts (λ x. map.get (rows_of (with_rows c.self.inside.current c.self.inside.parts.moment c.self.inside.parts.sources customers)) x)) (sym c.iter.ensures.whole)
    (entries_current c.self.inside.current c.self.inside.parts c.self.invariant.rows))

pub returns-clause-rising : goal.returns-clause-rising
returns-clause-rising c =
    subst (λ (customers : List ℕ). IsStrictlySortedBy nat_cmp (keys_of (with_rows c.self.inside.current c.self.inside.parts.moment c.self.inside.parts.sources customers))) (sym c.iter.ensures.whole)
    (rows_rise c.self.inside.current c.self.inside.parts.moment c.self.inside.parts.sources c.self.inside.current.customers c.iter.ensures.rising)
