use Rattle.std.proofs.Common.{nat_cmp, List, ℕ, ap, sym, subst}
use Rattle.std.specs.Option.{option_copied}
use Rattle.std.specs.declared.option.Option.{Option}
use Rattle.std.specs.List.Sorted.{IsStrictlySortedBy}
use Rattle.std.proofs.lemmas.Map.Keys.{sorted_from_strictly_increasing}
use Rattle.vap_table.specs.Sources.{IsSetIfGiven}
use Rattle.vap_table.proofs.searching.is_held.Goals as goal

pub holds-requires : goal.holds-requires
holds-requires c = subst (λ (row : List ℕ). IsStrictlySortedBy nat_cmp row) (sym c.as_slice.ensures)
    (sorted_from_strictly_increasing c.in-Some.row.now (subst (λ (row : Option (List ℕ)). IsSetIfGiven row) (ap option_copied c.in-Some.is) c.requires))
