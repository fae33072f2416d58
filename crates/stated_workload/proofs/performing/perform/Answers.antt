use Rattle.stated_workload.proofs.TextLemmas.{writes_nothing, writes_front, writes_part}
use Rattle.stated_workload.proofs.performing.perform.Goals as goal

pub returns-in_err-text-clause-front : goal.returns-in_err-text-clause-front
returns-in_err-text-clause-front g c = writes_nothing c.args.seed (g.W.Sink.written c.args.out.now)

pub returns-in_err-pour-clause-cut : goal.returns-in_err-pour-clause-cut
returns-in_err-pour-clause-cut g c _ = writes_part c.args.seed (g.W.Sink.written c.args.out.now) (g.W.Sink.written c.pour.new.out) c.in_ok-text.text.items c.pour.new.text.items
    c.in_ok-text.ensures c.pour.ensures.grows c.pour.ensures.same c.in_err-pour.ensures.err

pub returns-in_err-pour-clause-front : goal.returns-in_err-pour-clause-front
returns-in_err-pour-clause-front g c = writes_front c.args.seed (g.W.Sink.written c.args.out.now) (g.W.Sink.written c.pour.new.out) c.in_ok-text.text.items c.pour.new.text.items
    c.in_ok-text.ensures c.pour.ensures.grows c.pour.ensures.same

pub returns-clause-front : goal.returns-clause-front
returns-clause-front g c = writes_front c.args.seed (g.W.Sink.written c.args.out.now) (g.W.Sink.written c.pour.new.out) c.in_ok-text.text.items c.pour.new.text.items
    c.in_ok-text.ensures c.pour.ensures.grows c.pour.ensures.same
