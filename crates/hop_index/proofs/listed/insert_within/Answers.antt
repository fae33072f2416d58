use Rattle.std.proofs.Common.{ℕ, List, subst, ◌∙◌}
use Rattle.std.specs.Ordering.{nat_cmp}
use Rattle.sorted_map.specs.Chunk.{HasAt, IsGap}
use Rattle.hop_index.proofs.ListLemmas.{there_at, inserted_at}
use Rattle.hop_index.proofs.listed.insert_within.Goals as goal

pub returns-in-Ok-clause-inserted : goal.returns-in-Ok-clause-inserted
returns-in-Ok-clause-inserted c =
    there_at c.args.number c.args.numbers.now.items c.in-Ok.field-0 (subst (λ (xs : List ℕ). HasAt nat_cmp c.args.number xs c.in-Ok.field-0) c.deref.ensures.value c.in-Ok.ensures.found)

pub returns-in_ok-insert-in-Err-clause-inserted : goal.returns-in_ok-insert-in-Err-clause-inserted
returns-in_ok-insert-in-Err-clause-inserted c =
    c.in_ok-insert-in-Err.ensures.items
    ∙ inserted_at c.args.number c.args.numbers.now.items c.in-Err.at (subst (λ (xs : List ℕ). IsGap nat_cmp c.args.number xs c.in-Err.at) c.deref.ensures.value c.in-Err.ensures.absent)
