use Rattle.std.proofs.Common.{sym, rules, arith}
use Rattle.mrt_reader.specs.Headed.{head_of}
use Rattle.mrt_reader.proofs.RecordLemmas.{partial_cut}
use Rattle.mrt_reader.proofs.heading.whole_head.Goals as goal

pub returns-then-head-gt-LIMIT : goal.returns-then-head-gt-LIMIT
returns-then-head-gt-LIMIT c = (head_of c.in-Some.head, sym c.in-Some.ensures, search rules)

pub returns-then-held-head : goal.returns-then-held-head
returns-then-held-head c = partial_cut c.args.held.now (head_of c.in-Some.head) (sym c.in-Some.ensures) (search rules) (omega arith)
