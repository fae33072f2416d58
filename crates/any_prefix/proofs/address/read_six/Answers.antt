use Rattle.std.proofs.Common.{ℕ, inl, inr}
use Rattle.any_prefix.specs.AnyAddress.{IsFull, IsSixText}
use Rattle.any_prefix.specs.Reading.{AreNoSides}
use Rattle.any_prefix.proofs.DoubleLemmas.{none_compressed}
use Rattle.any_prefix.proofs.TextLemmas.{none_gives}
use Rattle.any_prefix.proofs.address.read_six.Goals as goal

pub returns-in-None-clause-none : goal.returns-in-None-clause-none
returns-in-None-clause-none c = none_gives c.read_full.result ((n : ℕ) → ¬ IsFull c.args.text.now n) ((n : ℕ) → ¬ IsSixText c.args.text.now n)
    (λ none n h. elim h [
      | inl full ↦ none n full
      | inr compressed ↦ c.in-None.ensures.none compressed.left compressed.right compressed.splits
    ]) c.read_full.ensures.none

pub returns-in-Some-clause-none : goal.returns-in-Some-clause-none
returns-in-Some-clause-none c = none_gives c.read_compressed.result (AreNoSides c.in-Some.left.now c.in-Some.right.now) ((n : ℕ) → ¬ IsSixText c.args.text.now n)
    (λ none n h. none_compressed c.args.text.now c.in-Some.left.now c.in-Some.right.now n c.in-Some.ensures.whole c.in-Some.ensures.first none h) c.read_compressed.ensures.none
