use Rattle.std.proofs.Common.{not, ap}
use Rattle.shared_cases.proofs.NumberLemmas.{number_more}
use Rattle.shared_cases.proofs.RejudgingLemmas.{told_more}
use Rattle.shared_cases.proofs.peers.insert_unless.Goals as goal

pub returns : goal.returns
returns c = told_more c.args.ases.now.keys c.insert.new.self.keys c.args.asn (not c.args.own) (ap not c.if-own.false)
    (number_more c.args.ases.now.keys c.insert.new.self.keys c.args.asn c.in_ok-insert.ensures.updates.0)
