use Rattle.aspaview.proofs.perform.Goals as goal

pub returns-clause-unused : goal.returns-clause-unused
returns-clause-unused g c = λ seed demo. let unused = c.run.ensures.unused seed demo in (unused.0, unused.1, unused.2)
