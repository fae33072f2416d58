use Rattle.std.proofs.Common.{◌∙◌, ap, sym, ◌++◌, map, decimal}
use Rattle.script_lines.proofs.AsLemmas.{no_as_behind}
use Rattle.script_lines.proofs.fields.read_ases.Goals as goal

pub returns-in_default-clause-refused : goal.returns-in_default-clause-refused
returns-in_default-clause-refused c = λ refused. no_as_behind _ c.loop-word.numbers c.in-Some.word.now _ (ap (λ ws. map decimal c.loop-word.numbers ++ ws) (sym c.in-Some.ensures.steps) ∙ c.loop-word.invariant.so_far) c.in_default.ensures.none
