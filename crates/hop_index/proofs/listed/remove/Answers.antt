use Rattle.std.proofs.Common.{ℕ, List, subst, ◌∙◌}
use Rattle.std.specs.Ordering.{nat_cmp}
use Rattle.sorted_map.specs.Chunk.{HasAt, IsGap}
use Rattle.hop_index.proofs.ListLemmas.{removed_at, absent_at}
use Rattle.hop_index.proofs.listed.remove.Goals as goal

pub returns-in-Ok : goal.returns-in-Ok
returns-in-Ok c =
    c.remove.ensures.items
    ∙ removed_at c.args.number c.args.numbers.now.items c.in-Ok.at (subst (λ (xs : List ℕ). HasAt nat_cmp c.args.number xs c.in-Ok.at) c.deref.ensures.value c.in-Ok.ensures.found)

pub returns-in-Err : goal.returns-in-Err
returns-in-Err c =
    absent_at c.args.number c.args.numbers.now.items c.in-Err.field-0 (subst (λ (xs : List ℕ). IsGap nat_cmp c.args.number xs c.in-Err.field-0) c.deref.ensures.value c.in-Err.ensures.absent)
