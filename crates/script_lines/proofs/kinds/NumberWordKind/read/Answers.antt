use Rattle.std.proofs.Common.{arith}
use Rattle.script_lines.proofs.KindLemmas.{lacks-outside}
use Rattle.script_lines.proofs.kinds.NumberWordKind.read.Goals as goal

pub returns-in_default-clause-refused : goal.returns-in_default-clause-refused
returns-in_default-clause-refused g c = (tt, lacks-outside g.row.LEAST g.row.MOST c.in-Some.n c.args.word.now c.in-Some.ensures.number (λ low high. let out = c.if-n-2.false in omega arith))

pub returns-in_default-2-clause-refused : goal.returns-in_default-2-clause-refused
returns-in_default-2-clause-refused g c = (tt, lacks-outside g.row.LEAST g.row.MOST c.in-Some.n c.args.word.now c.in-Some.ensures.number (λ low high. let out = c.if-n.false in omega arith))
