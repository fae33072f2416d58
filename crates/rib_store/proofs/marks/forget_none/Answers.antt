use Rattle.std.proofs.Common.{Some, ap, sym, ◌∙◌}
use Rattle.std.specs.declared.option.Option.{Option}
use Rattle.std.specs.Option.{option_copied}
use Rattle.path_model.specs.declared.verdict.Verdict.{Verdict}
use Rattle.rib_store.proofs.NotedLemmas.{forgets}
use Rattle.rib_store.proofs.marks.forget_none.Goals as goal

pub returns-in-Some-None : goal.returns-in-Some-None
returns-in-Some-None c = forgets c.args.key.now c.args.notes.now c.remove.new.self c.remove.ensures.updates
    (sym c.get.ensures ∙ ap option_copied c.in-Some-None.is ∙ ap (λ (v : Option Verdict). Some v) c.in-Some-None.field-0-is)
