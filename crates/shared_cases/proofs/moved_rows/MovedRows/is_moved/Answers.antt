use Rattle.std.proofs.Common.{List, ℕ, sym, subst}
use Rattle.std.specs.declared.option.Option.{Option}
use Rattle.shared_cases.specs.Touching.{IsRisen}
use Rattle.shared_cases.proofs.moved_rows.MovedRows.is_moved.Goals as goal

pub said_by-before-requires : goal.said_by-before-requires
said_by-before-requires c = λ is. subst (λ (row : Option (List ℕ)). IsRisen row) (sym c.as_ref.ensures.value) (c.self.invariant.0 is)

pub said_by-after-requires : goal.said_by-after-requires
said_by-after-requires c = λ is. subst (λ (row : Option (List ℕ)). IsRisen row) (sym c.as_ref-2.ensures.value) (c.self.invariant.1 is)
