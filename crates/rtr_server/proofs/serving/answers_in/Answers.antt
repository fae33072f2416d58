use Rattle.std.proofs.Common.{arith}
use Rattle.rtr_server.proofs.AnswersLemmas.{counted_long, counted_short}
use Rattle.rtr_server.proofs.serving.answers_in.Goals as goal

pub returns-then-len-gt8-clause-exact : goal.returns-then-len-gt8-clause-exact
returns-then-len-gt8-clause-exact c = λ cache pdu r. counted_long cache pdu c.args.reply.now.items c.args.turn r c.in-More.is (omega (arith, c.if-len-gt8.true, c.len.ensures))

pub returns-else-len-gt8-clause-exact : goal.returns-else-len-gt8-clause-exact
returns-else-len-gt8-clause-exact c = λ cache pdu r. counted_short cache pdu c.args.reply.now.items c.args.turn r c.in-More.is (omega (arith, c.if-len-gt8.false, c.len.ensures))
