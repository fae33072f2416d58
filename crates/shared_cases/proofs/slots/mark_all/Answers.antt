use Rattle.std.proofs.Common.{◌≡◌, ℕ, ◌+◌, List, ◌∷◌, drop, get_or, subst}
use Rattle.std.proofs.lemmas.List.{drop_more}
use Rattle.shared_cases.specs.Cases.{marked_now}
use Rattle.shared_cases.specs.Numbers.{has}
use Rattle.shared_cases.proofs.KeptLemmas.{IsDoing, doing_next, marked_twice}
use Rattle.shared_cases.proofs.slots.mark_all.Goals as goal

pub loop-number-preserved : goal.loop-number-preserved
loop-number-preserved c =
    let numbers : List ℕ = c.as_slice-number-items.result.now in
    let i : ℕ = c.loop-number.number-index in
    let x : ℕ = get_or numbers i 0 in
    let e : drop i numbers ≡ x ∷ drop (i + 1) numbers = drop_more numbers i 0 c.loop-number-test.true in
    doing_next marked_now marked_twice (has c.args.differed.now) c.args.slab.now.slots c.loop-number.slab.slots c.mark.new.slab.slots x (drop (i + 1) numbers)
    (subst (λ (rest : List ℕ). IsDoing marked_now (has c.args.differed.now) c.args.slab.now.slots c.loop-number.slab.slots rest) e c.loop-number.invariant) c.mark.ensures
