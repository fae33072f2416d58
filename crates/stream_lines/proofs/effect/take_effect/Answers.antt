use Rattle.std.proofs.Common.{refl}
use Rattle.std.proofs.lemmas.Result.{on_ok_weaker}
use Rattle.stream_lines.specs.TakingSteps.{Did}
use Rattle.stream_lines.proofs.effect.take_effect.Goals as goal

pub returns-in_ok-note-in-Routes-clause-did : goal.returns-in_ok-note-in-Routes-clause-did
returns-in_ok-note-in-Routes-clause-did g c =
    on_ok_weaker {Q = Did c.args.effect c.args.progress.now (record c.args.progress.now { analyser = c.apply.new.self; marks = c.note.new.marks })} _
    (λ happens. rw c.in-Routes.is (c.apply.new.self, happens, λ i. record c.args.progress.now { analyser = c.apply.new.self; marks = c.in_ok-note-in-Routes.ensures i }))
    c.apply.ensures.state

pub returns-in-Learn-clause-did : goal.returns-in-Learn-clause-did
returns-in-Learn-clause-did g c =
    on_ok_weaker {Q = Did c.args.effect c.args.progress.now (record c.args.progress.now { analyser = c.apply-in-Learn.new.self })} _
    (λ happens. rw c.in-Learn.is (c.apply-in-Learn.new.self, happens, refl)) c.apply-in-Learn.ensures.state
