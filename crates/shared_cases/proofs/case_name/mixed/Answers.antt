use Rattle.std.proofs.Common.{ap, sym, ◌∙◌}
use Rattle.std.proofs.lemmas.List.{drop_all}
use Rattle.shared_cases.specs.Names.{word_of, mixed_into}
use Rattle.shared_cases.proofs.case_name.mixed.Goals as goal

pub returns : goal.returns
unfolding word_of
returns c = ap (mixed_into c.loop-x.word) (sym (drop_all c.loop-x.x-index c.as_slice-x-items.result.now c.loop-x-test.false)) ∙ c.loop-x.invariant
